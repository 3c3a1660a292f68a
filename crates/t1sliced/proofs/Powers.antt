-- x times a remainder by x^6 + x + 1, coefficient by coefficient.
use Prim.Native.Nat.{ℕ, ◌<◌}
use mathlib.Core.Path.{◌≡◌, refl}
use mathlib.Core.List.{List, [], ◌∷◌}
use borrow.Author.Tests.{eqb-true}
use lib.Bits.{bit_xor}
use lib.Dec.{eqb}
use lib.ListN.{get_or}
use Rattle.base.specs.Tab.{all}
use Rattle.base.proofs.TabLaws.{all_at}
use Rattle.line.specs.Window.{bit_of}
use Rattle.crc.specs.Remainder.{step}

-- the coefficients of x times r, that of 1 first
abbrev pub times_x : ℕ → List ℕ
times_x r = bit_of r 5 ∷ bit_xor (bit_of r 0) (bit_of r 5) ∷ bit_of r 1 ∷ bit_of r 2 ∷ bit_of r 3 ∷ bit_of r 4 ∷ []

-- computed for each of the 64 remainders
pub zero_bits : (r : ℕ) → r < 64 → (t : ℕ) → t < 6 → bit_of (step 6 r 0) t ≡ get_or (times_x r) t 0
unfolding step all
zero_bits r h t l =
    eqb-true _ _
    (all_at 6 (λ t. eqb (bit_of (step 6 r 0) t) (get_or (times_x r) t 0))
    (all_at 64 (λ r. all 6 (λ t. eqb (bit_of (step 6 r 0) t) (get_or (times_x r) t 0))) refl r h) t l)
