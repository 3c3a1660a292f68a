-- Numbers as bits spell them, the first the highest, and octets of bits.
use Rattle.std.specs.Prelude.{ℕ, zero, suc, ◌+◌, ◌-◌, ◌*◌, ◌/◌, ◌%◌, ◌^◌, List}
use Rattle.base.specs.Tab.{tab}

-- the number that f 0 to f (n - 1) spell
unfoldable pub spelt : ℕ → (ℕ → ℕ) → ℕ
spelt zero f = 0
spelt (suc n) f = 2 * spelt n f + f n

-- digit j of the n that spell k
abbrev pub digit : ℕ → ℕ → ℕ → ℕ
digit n k j = k / 2 ^ (n - 1 - j) % 2

-- n octets whose bits are f 0, f 1, ..
unfoldable pub packed : ℕ → (ℕ → ℕ) → List ℕ
packed n f = tab n (λ i. spelt 8 (λ j. f (8 * i + j)))

-- octet j of the eight that spell n, the highest first
abbrev pub spelt_octet : ℕ → ℕ → ℕ
spelt_octet n j = n / 256 ^ (7 - j) % 256
