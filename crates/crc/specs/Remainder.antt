-- The check of G.704, 2.3.3.1 (KIT §3): the remainder by x^w + x + 1, w 4 on E1 and 6 on T1. A remainder is the number
-- whose binary digits are its coefficients, the highest first, and the sum of two is their exclusive or.
use Rattle.std.specs.Prelude.{ℕ, ◌+◌, ◌*◌, ◌/◌, ◌%◌, ◌^◌, ◌<◌, List, [], ◌∷◌, ◌++◌, get_or, replicate}
use Rattle.std.specs.Int.Bits.{bit_xor}

-- every element is 0 or 1
abbrev pub Bits : List ℕ → Type 0
Bits bs = (i : ℕ) → get_or bs i 0 < 2

-- times x, plus the next bit; where x^w comes out, x + 1 stands for it
unfoldable pub step : ℕ → ℕ → ℕ → ℕ
step w r b = bit_xor ((2 * r + b) % 2 ^ w) (3 * ((2 * r + b) / 2 ^ w))

-- the bits taken in one after the other
unfoldable pub after : ℕ → ℕ → List ℕ → ℕ
after w r [] = r
after w r (b ∷ bs) = after w (step w r b) bs

abbrev pub zeros : ℕ → List ℕ
zeros n = replicate n 0

-- times x^w, divided: the check of a block's bits
unfoldable pub check : ℕ → List ℕ → ℕ
check w bs = after w 0 (bs ++ zeros w)
