-- For private functions alone, and for `fold::windows`, which those of T1 use. What blocks and words are folded with.
use Rattle.std.specs.Prelude.{ℕ, zero, suc, ◌≡◌, List}
use Rattle.std.specs.Int.Bits.{bit_xor}
use Rattle.base.specs.Tab.{tab}
use Rattle.line.specs.Bit.{octet_bits}
use Rattle.crc.specs.Remainder.{zeros, after}

-- for each remainder and octet the remainder after those eight bits
unfoldable pub remainders : List (List ℕ)
remainders = tab 16 (λ r. tab 256 (λ o. after 4 r (octet_bits o)))

-- the sum of f 0 to f (n - 1), as polynomials
unfoldable pub xors : ℕ → (ℕ → ℕ) → ℕ
xors zero f = 0
xors (suc n) f = bit_xor (xors n f) (f n)

-- x^k leaves what x^j + 1 leaves
abbrev pub Lowers : ℕ → ℕ → ℕ → Type 0
Lowers w k j = after w 1 (zeros k) ≡ bit_xor (after w 1 (zeros j)) 1
