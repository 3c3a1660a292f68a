-- Polynomials over two values, as the numbers whose binary digits are their coefficients; the sum of two is their
-- exclusive or.
use Rattle.std.specs.Prelude.{ℕ, ◌+◌, ◌*◌, ◌^◌, List, [], ◌∷◌}
use Rattle.std.specs.Int.Bits.{bit_xor}

-- the polynomial of bits, the highest first, after those of v
unfoldable pub poly : ℕ → List ℕ → ℕ
poly v [] = v
poly v (b ∷ bs) = poly (2 * v + b) bs

-- q (x^w + x + 1)
unfoldable pub times_gen : ℕ → ℕ → ℕ
times_gen w q = bit_xor (q * 2 ^ w) (bit_xor (2 * q) q)
