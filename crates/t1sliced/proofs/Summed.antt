-- Remainders that each are x times the one before and what their place adds, summed up over so many places, and over
-- twice as many.
use Prim.Native.Nat.{ℕ, zero, suc, ◌+◌, ◌-◌, ◌<◌}
use mathlib.Core.Path.{◌≡◌, refl, sym, ap, ◌∙◌}
use mathlib.Core.List.{List}
use native.Mathlib.Decide.{dec_lt}
use native.Mathlib.Nat.{add-zero, add-suc}
use native.Mathlib.Omega.{arith}
use borrow.Author.Tests.{lt-ltb, le-ltb}
use lib.Bits.{bit_xor, xor_zero_r, xor_comm, xor_lt}
use lib.Dec.{lit<, lit≤}
use Rattle.crc.specs.Remainder.{zeros, step, after}
use Rattle.crc.proofs.Xor.{xor_assoc}
use Rattle.crc.proofs.Laws.{step_lt, step_linear, step_zero}
use Rattle.t1.specs.Raw.{raw}
use Rattle.t1sliced.specs.Sliced.{change, Sliced, Times, PlusLater, later}
use Rattle.t1.proofs.Powers.{zeros_lt, zero_first}
use Rattle.t1sliced.proofs.Slides.{raw_more, change_lt}
use Rattle.t1sliced.proofs.Words.{sliced_same}

-- what the n places up to o, those there are, add to the remainder of o
unfoldable pub summed : (ℕ → ℕ) → ℕ → ℕ → ℕ
summed d zero o = 0
summed d (suc n) zero = d 0
summed d (suc n) (suc o) = bit_xor (step 6 (summed d n o) 0) (d (suc o))

module _ (d : ℕ → ℕ) (small : (o : ℕ) → d o < 64) where
  summed_lt : (n o : ℕ) → summed d n o < 64
  unfolding summed
  summed_lt zero o = lit< tt
  summed_lt (suc n) zero = small 0
  summed_lt (suc n) (suc o) =
      xor_lt 6 (step 6 (summed d n o) 0) (d (suc o)) (step_lt 6 (lit≤ tt) (summed d n o) 0 (summed_lt n o) (lit< tt)) (small (suc o))

  -- over the places before these m
  before : ℕ → ℕ → ℕ → ℕ
  before n m o = after 6 (summed d n o) (zeros m)

  later_more : (n m o : ℕ) → step 6 (later m (before n m) o) 0 ≡ later (suc m) (before n (suc m)) (suc o)
  unfolding after before
  later_more n m o =
      elim (dec_lt o m) [
        | yes l ↦ rw (lt-ltb o m l, lt-ltb (suc o) (suc m) (omega arith)) (step_zero 6 (lit≤ tt))
        | no l ↦
            let e : suc o - suc m ≡ o - m = omega arith in
            rw (le-ltb o m (omega arith), le-ltb (suc o) (suc m) (omega arith), e) (sym (zero_first m (summed d n (o - m))))
      ]

  later_lt : (n m o : ℕ) → later m (before n m) o < 64
  unfolding before
  later_lt n m o =
      elim (dec_lt o m) [
        | yes l ↦ rw (lt-ltb o m l) (lit< tt)
        | no l ↦ rw (le-ltb o m (omega arith)) (zeros_lt m (summed d n (o - m)) (summed_lt n (o - m)))
      ]

  summed_add : (n m o : ℕ) → summed d (n + m) o ≡ bit_xor (summed d m o) (later m (before n m) o)
  unfolding summed after before
  summed_add n zero o = let z : o - 0 ≡ o = omega arith in rw (add-zero n, le-ltb o 0 (omega arith), z)
  summed_add n (suc m) zero = rw (add-suc n m, lt-ltb 0 (suc m) (omega arith)) (sym (xor_zero_r (d 0)))
  summed_add n (suc m) (suc o) =
      let own : ℕ = step 6 (summed d m o) 0 in
      let old : ℕ = step 6 (later m (before n m) o) 0 in
      rw (add-suc n m)
      (ap (λ x. bit_xor (step 6 x 0) (d (suc o))) (summed_add n m o)
      ∙ ap (λ x. bit_xor x (d (suc o)))
      (step_linear 6 (lit≤ tt) (summed d m o) (later m (before n m) o) 0 0 (summed_lt m o) (later_lt n m o) (lit< tt) (lit< tt))
      ∙ xor_assoc own old (d (suc o)) ∙ ap (bit_xor own) (xor_comm old (d (suc o))) ∙ sym (xor_assoc own (d (suc o)) old)
      ∙ ap (bit_xor (bit_xor own (d (suc o)))) (later_more n m o))

  one_only : (o : ℕ) → d o ≡ summed d 1 o
  unfolding summed
  one_only zero = refl
  one_only (suc o) = ap (λ x. bit_xor x (d (suc o))) (sym (step_zero 6 (lit≤ tt)))

  pub summed_one : (a : List ℕ) → Sliced d a → Sliced (summed d 1) a
  summed_one a = sliced_same d (summed d 1) a (λ o h. one_only o)

  pub summed_twice : (n : ℕ) (a b r : List ℕ) → Sliced (summed d n) a → Times n a b → PlusLater n a b r
      → Sliced (summed d (n + n)) r
  unfolding before
  summed_twice n a b r s t p =
      sliced_same _ _ r (λ o h. sym (summed_add n n o))
      (p (summed d n) (before n n) s (t (summed d n) (summed_lt n) s))

  -- over all places that there are
  pub summed_all : (f : ℕ → ℕ) → f 0 ≡ d 0 → ((o : ℕ) → f (suc o) ≡ bit_xor (step 6 (f o) 0) (d (suc o)))
      → (n o : ℕ) → o < n → summed d n o ≡ f o
  unfolding summed
  summed_all f first more zero o h = absurd (omega arith)
  summed_all f first more (suc n) zero h = sym first
  summed_all f first more (suc n) (suc o) h =
      ap (λ x. bit_xor (step 6 x 0) (d (suc o))) (summed_all f first more n o (omega arith)) ∙ sym (more o)

-- the remainders of a part's places, over 64 of them
pub raws_summed : (s : List ℕ) (o : ℕ) → o < 64 → summed (change s) 64 o ≡ raw s o
unfolding change
raws_summed s = summed_all (change s) (change_lt s) (raw s) refl (raw_more s) 64
