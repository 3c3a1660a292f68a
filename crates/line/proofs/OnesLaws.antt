-- Where two numbers differ: the ones of their exclusive or are the places at which the bits that spell them do, and the
-- zeros before them lead to the first.
use Prim.Native.Nat.{ℕ, zero, suc, ◌+◌, ◌*◌, ◌/◌, ◌%◌, ◌^◌, ◌<◌}
use mathlib.Core.Path.{◌≡◌, refl, sym, ap, ap₂, ◌∙◌}
use mathlib.Core.Bool.{Bool, true, false, cond, not}
use Rattle.std.specs.Prelude.{Option, None, Some}
use mathlib.Core.Logic.{inl, inr}
use native.Mathlib.Nat.{add_comm, eq-or-lt_of_le, le_of_suc-le-suc}
use native.Mathlib.Omega.{arith}
use borrow.Author.Tests.{eqb-true, not-false}
use lib.Bits.{bit_xor, xor_shr, xor_mod, xor_self}
use lib.Count.{ones, ones_step, count_leading_zeros, leading_of_zero, leading_length, leading_unique}
use lib.Dec.{eqb}
use Rattle.base.specs.Choice.{or_else, when_so, value_or}
use Rattle.base.specs.Tab.{sum, count, first, least}
use Rattle.base.proofs.TabLaws.{least_none, least_some}
use Rattle.line.specs.Spelt.{spelt}
use Rattle.line.proofs.SpeltLaws.{Binary, spelt_agree}

bits_differ : (x y : ℕ) → x < 2 → y < 2 → bit_xor x y ≡ cond (not (eqb x y)) 1 0
bits_differ zero zero hx hy = refl
bits_differ zero (suc zero) hx hy = refl
bits_differ (suc zero) zero hx hy = refl
bits_differ (suc zero) (suc zero) hx hy = refl
bits_differ (suc (suc x)) y hx hy = absurd (omega arith)
bits_differ zero (suc (suc y)) hx hy = absurd (omega arith)
bits_differ (suc zero) (suc (suc y)) hx hy = absurd (omega arith)

-- the exclusive or of two numbers of n + 1 bits: its lowest bit, and the rest
module _ (n : ℕ) (f g : ℕ → ℕ) (hf : Binary f) (hg : Binary g) where
  lowest : bit_xor (spelt (suc n) f) (spelt (suc n) g) % 2 ≡ cond (not (eqb (f n) (g n))) 1 0
  unfolding spelt
  lowest =
      let x = 2 * spelt n f + f n in
      let y = 2 * spelt n g + g n in
      let last-x : x % 2 ^ 1 ≡ f n = omega (arith, hf n) in
      let last-y : y % 2 ^ 1 ≡ g n = omega (arith, hg n) in
      xor_mod x y 1 ∙ ap₂ bit_xor last-x last-y ∙ bits_differ (f n) (g n) (hf n) (hg n)

  rest : bit_xor (spelt (suc n) f) (spelt (suc n) g) / 2 ≡ bit_xor (spelt n f) (spelt n g)
  unfolding spelt
  rest =
      let x = 2 * spelt n f + f n in
      let y = 2 * spelt n g + g n in
      let rest-x : x / 2 ^ 1 ≡ spelt n f = omega (arith, hf n) in
      let rest-y : y / 2 ^ 1 ≡ spelt n g = omega (arith, hg n) in
      xor_shr x y 1 ∙ ap₂ bit_xor rest-x rest-y

pub ones_differ : (n : ℕ) (f g : ℕ → ℕ) → Binary f → Binary g
    → ones (bit_xor (spelt n f) (spelt n g)) ≡ count n (λ i. not (eqb (f i) (g i)))
unfolding spelt sum ones
ones_differ zero f g hf hg = refl
ones_differ (suc n) f g hf hg =
    ones_step (bit_xor (spelt (suc n) f) (spelt (suc n) g))
    ∙ ap₂ ◌+◌ (lowest n f g hf hg) (ap ones (rest n f g hf hg) ∙ ones_differ n f g hf hg)
    ∙ add_comm (cond (not (eqb (f n) (g n))) 1 0) (count n (λ i. not (eqb (f i) (g i))))

-- a number that is not 0 has as many zeros in front as without its lowest bit
leading_half : (n z : ℕ) → 0 < z → count_leading_zeros (suc n) z ≡ count_leading_zeros n (z / 2)
unfolding count_leading_zeros
leading_half n zero h = absurd (omega arith)
leading_half n (suc z) h = refl

-- and one with fewer than n of them is not 0
leading_few : (n z : ℕ) → count_leading_zeros n z < n → 0 < z
leading_few n zero h = absurd (omega (arith, leading_of_zero n))
leading_few n (suc z) h = omega arith

-- one bit more, after n of which the first that differs, if any, is o
leading_more : (n : ℕ) (f g : ℕ → ℕ) → Binary f → Binary g
    → (o : Option ℕ) → least n (λ i. not (eqb (f i) (g i))) ≡ o → (b : Bool) → not (eqb (f n) (g n)) ≡ b
    → count_leading_zeros n (bit_xor (spelt n f) (spelt n g)) ≡ value_or o n
    → count_leading_zeros (suc n) (bit_xor (spelt (suc n) f) (spelt (suc n) g)) ≡ value_or (or_else o (when_so b n)) (suc n)
leading_more n f g hf hg (Some i) e b d h =
    let z = bit_xor (spelt (suc n) f) (spelt (suc n) g) in
    let half = ap (count_leading_zeros n) (rest n f g hf hg) ∙ h in
    let i-below = ((least_some n (λ i. not (eqb (f i) (g i))) i).0 e).below in
    leading_half n z (omega (arith, leading_few n (z / 2) (omega (arith, half, i-below)))) ∙ half
leading_more n f g hf hg None e true d h =
    let z = bit_xor (spelt (suc n) f) (spelt (suc n) g) in
    leading_half n z (omega (arith, lowest n f g hf hg ∙ ap (λ x. cond x 1 0) d)) ∙ ap (count_leading_zeros n) (rest n f g hf hg) ∙ h
leading_more n f g hf hg None e false d h =
    let same : (i : ℕ) → i < suc n → f i ≡ g i
    = λ i l. elim (eq-or-lt_of_le (le_of_suc-le-suc l)) [
      | inl q ↦ rw q (eqb-true _ _ (not-false _ d))
      | inr k ↦ eqb-true _ _ (not-false _ (least_none n (λ i. not (eqb (f i) (g i))) e i k))
    ] in
    ap (λ x. count_leading_zeros (suc n) (bit_xor x (spelt (suc n) g))) (spelt_agree (suc n) f g same)
    ∙ ap (count_leading_zeros (suc n)) (xor_self (spelt (suc n) g))
    ∙ leading_of_zero (suc n)

pub leading_differ : (n : ℕ) (f g : ℕ → ℕ) → Binary f → Binary g
    → count_leading_zeros n (bit_xor (spelt n f) (spelt n g)) ≡ value_or (least n (λ i. not (eqb (f i) (g i)))) n
unfolding first spelt
leading_differ zero f g hf hg = leading_of_zero zero
leading_differ (suc n) f g hf hg =
    leading_more n f g hf hg (least n (λ i. not (eqb (f i) (g i)))) refl (not (eqb (f n) (g n))) refl (leading_differ n f g hf hg)

-- with a bit more than it needs, a number has a zero more in front
pub leading_wider : (n z : ℕ) → z < 2 ^ n → count_leading_zeros (n + 1) z ≡ count_leading_zeros n z + 1
leading_wider n z h =
    let l = leading_length n z h in
    sym (leading_unique (n + 1) z (count_leading_zeros n z + 1) l.0 (omega (arith, l.1)) l.2 l.3)
