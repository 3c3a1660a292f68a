-- The order of x, over the width w: n where x^m leaves 1 at the multiples of n and nowhere else. From there on a
-- remainder is added to what follows.
use Prim.Native.Nat.{ℕ, zero, suc, ◌+◌, ◌*◌, ◌/◌, ◌%◌, ◌^◌, ◌≤◌, ◌<◌}
use mathlib.Core.Path.{◌≡◌, refl, sym, ap, ap₂, ◌∙◌}
use mathlib.Core.Logic.{◌↔◌}
use mathlib.Core.Bool.{true, not, true≢false}
use mathlib.Core.List.{List, [], ◌∷◌}
use native.Mathlib.Nat.{div-add-mod', le_of_suc-le-suc, zero-lt-suc, mod-lt}
use native.Mathlib.Omega.{arith}
use borrow.Author.Tests.{eq-eqb}
use lib.Bits.{bit_xor, xor_zero_l, xor_zero_r, xor_self}
use lib.Dec.{eqb, lit<}
use lib.ListN.{length, length-replicate, replicate-append-replicate}
use lib.Pow.{pow_pos, pow_mono}
use Rattle.base.specs.Tab.{all}
use Rattle.base.proofs.TabLaws.{all_at}
use Rattle.crc.specs.Remainder.{Bits, zeros, step, after}
use Rattle.crc.specs.Fold.{Lowers}
use Rattle.crc.proofs.Laws.{plus, zeros_bits, zeros_linear, after_append, after_lt}
use Rattle.crc.proofs.Laws.{after_linear, step_linear, step_lt, step_shift, step_one}
use Rattle.crc.proofs.Xor.{xor4}

abbrev pub Order : ℕ → ℕ → Type 0
Order w n = (m : ℕ) → (after w 1 (zeros m) ≡ 1) ↔ (m % n ≡ 0)

module _ (w n : ℕ) (back : after w 1 (zeros (suc n)) ≡ 1) where
  turns : (q m : ℕ) → after w 1 (zeros (q * suc n + m)) ≡ after w 1 (zeros m)
  turns zero m = let e : zero * suc n + m ≡ m = omega arith in ap (λ x. after w 1 (zeros x)) e
  turns (suc q) m =
      let e : suc q * suc n + m ≡ suc n + (q * suc n + m) = omega arith in
      ap (λ x. after w 1 (zeros x)) e ∙ ap (after w 1) (sym (replicate-append-replicate (suc n) (q * suc n + m) 0))
      ∙ after_append w 1 (zeros (suc n)) (zeros (q * suc n + m))
      ∙ ap (λ x. after w x (zeros (q * suc n + m))) back ∙ turns q m

  round : (m : ℕ) → after w 1 (zeros m) ≡ after w 1 (zeros (m % suc n))
  round m = ap (λ x. after w 1 (zeros x)) (sym (div-add-mod' m (suc n))) ∙ turns (m / suc n) (m % suc n)

  -- 1 after n + 1 zeros, and not before
  order_by : all n (λ m. not (eqb (after w 1 (zeros (suc m))) 1)) ≡ true → Order w (suc n)
  unfolding after
  order_by never m =
      (λ e. none (m % suc n) (mod-lt m (zero-lt-suc n)) (sym (round m) ∙ e), λ e. round m ∙ ap (λ x. after w 1 (zeros x)) e)
    where
      none : (j : ℕ) → j < suc n → after w 1 (zeros j) ≡ 1 → j ≡ 0
      none zero h e = refl
      none (suc j) h e =
          absurd (true≢false
          (sym (all_at n (λ m. not (eqb (after w 1 (zeros (suc m))) 1)) never j (le_of_suc-le-suc h)) ∙ ap not (eq-eqb _ _ e)))

-- by x^4 + x + 1 it is 15
pub order_4 : Order 4 15
unfolding after step all
order_4 = order_by 4 14 refl refl

-- and by x^6 + x + 1 63
pub order_6 : Order 6 63
unfolding after step all
order_6 = order_by 6 62 refl refl

-- zeros, of which one more may as well come first
zeros_step : (w r n : ℕ) → after w (step w r 0) (zeros n) ≡ step w (after w r (zeros n)) 0
unfolding after
zeros_step w r zero = refl
zeros_step w r (suc n) = zeros_step w (step w r 0) n

pub plus_none : (bs : List ℕ) → plus (zeros (length bs)) bs ≡ bs
unfolding plus
plus_none [] = refl
plus_none (b ∷ bs) = ap₂ (λ (x : ℕ) (l : List ℕ). x ∷ l) (xor_zero_l b) (plus_none bs)

-- a map of remainders that keeps sums and goes with x
record Linear (w : ℕ) (f : ℕ → ℕ) : Type 0 where
  sums : (r s : ℕ) → r < 2 ^ w → s < 2 ^ w → f (bit_xor r s) ≡ bit_xor (f r) (f s)
  times : (r : ℕ) → r < 2 ^ w → f (step w r 0) ≡ step w (f r) 0

module _ (w : ℕ) (wide : 2 ≤ w) where
  -- two of them that agree at 1 agree
  module _ (f g : ℕ → ℕ) (lf : Linear w f) (lg : Linear w g) (one : f 1 ≡ g 1) where
    zero_on : (r : ℕ) → r < 2 ^ w → f r ≡ g r → f (step w r 0) ≡ g (step w r 0)
    zero_on r hr e = lf.times r hr ∙ ap (λ x. step w x 0) e ∙ sym (lg.times r hr)

    bit_on : (r b : ℕ) → r < 2 ^ w → b < 2 → f r ≡ g r → f (step w r b) ≡ g (step w r b)
    bit_on r zero hr hb e = zero_on r hr e
    bit_on r (suc zero) hr hb e =
        let hs : step w r 0 < 2 ^ w = step_lt w wide r 0 hr (lit< tt) in
        let h1 : 1 < 2 ^ w = omega (arith, pow_mono {i = 2} {j = w} wide) in
        ap f (step_one w wide r hr) ∙ lf.sums (step w r 0) 1 hs h1 ∙ ap₂ bit_xor (zero_on r hr e) one
        ∙ sym (ap g (step_one w wide r hr) ∙ lg.sums (step w r 0) 1 hs h1)
    bit_on r (suc (suc b)) hr hb e = absurd (omega arith)

    linear_same : (k r : ℕ) → k ≤ w → r < 2 ^ k → f r ≡ g r
    linear_same zero r l h =
        let z : r ≡ 0 = omega arith in
        let none : (k : ℕ → ℕ) → Linear w k → k 0 ≡ 0 = λ k m. m.sums 0 0 (pow_pos w) (pow_pos w) ∙ xor_self (k 0) in
        ap f z ∙ none f lf ∙ sym (ap g z ∙ none g lg)
    linear_same (suc k) r l h =
        let le : 2 ^ suc k ≤ 2 ^ w = pow_mono l in
        let whole : 2 * (r / 2) + r % 2 ≡ r = omega arith in
        let e : step w (r / 2) (r % 2) ≡ r = step_shift w wide (r / 2) (r % 2) (omega arith) ∙ whole in
        ap f (sym e) ∙ bit_on (r / 2) (r % 2) (omega arith) (omega arith) (linear_same k (r / 2) (omega arith) (omega arith)) ∙ ap g e

  zeros_on : (n : ℕ) → Linear w (λ r. after w r (zeros n))
  zeros_on n = record { sums = zeros_linear w wide n; times = λ r h. zeros_step w r n }

  -- where x^n is 1, n zeros give each remainder back
  pub zeros_back : (n : ℕ) → after w 1 (zeros n) ≡ 1 → (k r : ℕ) → k ≤ w → r < 2 ^ k → after w r (zeros n) ≡ r
  zeros_back n back =
      linear_same (λ r. after w r (zeros n)) (λ r. r) (zeros_on n) record { sums = λ r s hr hs. refl; times = λ r h. refl } back

  -- where x^k is x^j + 1, k zeros give the sum of what j zeros give and the remainder
  pub zeros_lowered : (k j : ℕ) → Lowers w k j → (r : ℕ) → r < 2 ^ w → after w r (zeros k) ≡ bit_xor (after w r (zeros j)) r
  zeros_lowered k j low r h =
      linear_same (λ r. after w r (zeros k)) (λ r. bit_xor (after w r (zeros j)) r) (zeros_on k) sum low w r (omega arith) h
    where
      sum : Linear w (λ r. bit_xor (after w r (zeros j)) r)
      sum = record {
        sums = λ r s hr hs. ap (λ x. bit_xor x (bit_xor r s)) (zeros_linear w wide j r s hr hs)
            ∙ xor4 (after w r (zeros j)) (after w s (zeros j)) r s;
        times = λ r hr. ap (λ x. bit_xor x (step w r 0)) (zeros_step w r j)
            ∙ sym (step_linear w wide (after w r (zeros j)) r 0 0 (after_lt w wide r (zeros j) hr (zeros_bits j)) hr (lit< tt) (lit< tt));
      }

  -- and bits as many are added to it
  pub bits_add : (r : ℕ) (bs : List ℕ) → r < 2 ^ w → Bits bs → after w 1 (zeros (length bs)) ≡ 1
      → after w r bs ≡ bit_xor r (after w 0 bs)
  bits_add r bs h hb back =
      ap₂ (after w) (sym (xor_zero_r r)) (sym (plus_none bs))
      ∙ after_linear w wide r 0 (zeros (length bs)) bs h (pow_pos w) (zeros_bits (length bs)) hb (length-replicate (length bs) 0)
      ∙ ap (λ x. bit_xor x (after w 0 bs)) (zeros_back (length bs) back w r (omega arith) h)
