-- The bits of an image. Bit 0 is the most significant bit of the first octet (KIT §1).
use Rattle.std.specs.Prelude.{ℕ, ◌+◌, ◌-◌, ◌*◌, ◌/◌, ◌%◌, ◌^◌, ◌≤◌, ◌<◌, List, length, get_or}
use Rattle.base.specs.Tab.{tab}
use Rattle.line.specs.Spelt.{spelt}

-- the bit at place p; 0 past the end
unfoldable pub bit_at : List ℕ → ℕ → ℕ
bit_at s p = get_or s (p / 8) 0 / 2 ^ (7 - p % 8) % 2

-- the number that n bits from place p on spell, the first the highest
unfoldable pub field : List ℕ → ℕ → ℕ → ℕ
field s p n = spelt n (λ i. bit_at s (p + i))

-- the octet that the eight bits from place p on spell
abbrev pub octet_at : List ℕ → ℕ → ℕ
octet_at s p = field s p 8

-- the bits of an octet, the most significant first
unfoldable pub octet_bits : ℕ → List ℕ
octet_bits x = tab 8 (λ i. x / 2 ^ (7 - i) % 2)

-- n bits stand from place p on, in an image whose bits can be counted
pub record Room (s : List ℕ) (p n : ℕ) : Type 0 where
  pub countable : length s < 2 ^ 60
  pub there : p + n ≤ 8 * length s
