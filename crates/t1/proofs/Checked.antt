-- What framing bits lack, from all of them as one number: a polynomial in x^4 is the fourth power of the one in x.
use Prim.Native.Nat.{ℕ, zero, suc, ◌+◌, ◌-◌, ◌*◌, ◌^◌, ◌<◌}
use mathlib.Core.Path.{◌≡◌, refl, sym, ap, ap₂, ◌∙◌}
use mathlib.Core.List.{List}
use native.Mathlib.Nat.{pow-suc}
use native.Mathlib.Omega.{arith}
use borrow.Author.Tests.{eqb-true}
use lib.Bits.{bit_xor}
use lib.Dec.{eqb, lit≤, lit<}
use Rattle.base.specs.Tab.{tab, tab_from, all}
use Rattle.base.proofs.TabLaws.{all_at, tab_agree, tab_split}
use Rattle.line.specs.Bit.{bit_at}
use Rattle.line.specs.Spelt.{spelt, digit}
use Rattle.line.proofs.BitLaws.{bit_lt}
use Rattle.line.proofs.SpeltLaws.{Binary, spelt_lt, digit_spelt}
use Rattle.crc.specs.Remainder.{zeros, step, after}
use Rattle.crc.specs.Word.{remainder}
use Rattle.crc.proofs.Laws.{after_append}
use Rattle.crc.proofs.WordLaws.{remainder_sum, remainder_wider, remainder_times, remainder_own}
use Rattle.t1.specs.Superframe.{super_check}
use Rattle.t1.specs.Raw.{raw, lacking_by, framing_of, fourth}
use Rattle.t1.proofs.Slides.{tab_lt}
use Rattle.t1.proofs.Lacking.{lacking_by_lem, whole_check}

abbrev fourth_of : ℕ → ℕ
fourth_of r = remainder 6 64 (fourth r)

-- a bit behind r is a bit behind its fourth power, four places on; computed for each of the 64 remainders
fourth_step : (r b : ℕ) → r < 64 → b < 2 → fourth_of (step 6 r b) ≡ bit_xor (after 6 (fourth_of r) (zeros 4)) b
unfolding fourth remainder after step tab_from all
fourth_step r b h l =
    eqb-true _ _
    (all_at 2 (λ b. eqb (fourth_of (step 6 r b)) (bit_xor (after 6 (fourth_of r) (zeros 4)) b))
    (all_at 64 (λ r. all 2 (λ b. eqb (fourth_of (step 6 r b)) (bit_xor (after 6 (fourth_of r) (zeros 4)) b))) refl r h) b l)

module _ (s : List ℕ) (q : ℕ) where
  -- what framing bit f lacks
  abbrev turned_over : ℕ → ℕ
  turned_over f = 1 - bit_at s (q + 193 * f)

  turned_lt : Binary turned_over
  turned_lt f = omega arith

  by_fourth : (n : ℕ) → lacking_by s q n ≡ fourth_of (after 6 0 (tab n turned_over))
  unfolding lacking_by after tab_from
  by_fourth zero = unfold fourth remainder step in refl
  by_fourth (suc n) =
      let r : ℕ = after 6 0 (tab n turned_over) in
      let e : n + 1 ≡ suc n = omega arith in
      let more : after 6 0 (tab (suc n) turned_over) ≡ step 6 r (turned_over n)
      = ap (λ m. after 6 0 (tab m turned_over)) (sym e) ∙ ap (after 6 0) (tab_split n 1 turned_over)
      ∙ after_append 6 0 (tab n turned_over) (tab 1 (λ i. turned_over (n + i)))
      ∙ last r n in
      ap (λ x. bit_xor (after 6 x (zeros 4)) (turned_over n)) (by_fourth n)
      ∙ sym (ap fourth_of more ∙ fourth_step r (turned_over n) (tab_lt n turned_over turned_lt) (turned_lt n))
    where
      last : (r n : ℕ) → after 6 r (tab 1 (λ i. turned_over (n + i))) ≡ step 6 r (turned_over n)
      last r n = let e : n + 0 ≡ n = omega arith in ap (λ m. step 6 r (turned_over m)) e

-- bits turned over spell the rest
over_spelt : (n : ℕ) (f : ℕ → ℕ) → Binary f → spelt n (λ i. 1 - f i) + spelt n f + 1 ≡ 2 ^ n
unfolding spelt
over_spelt zero f h = refl
over_spelt (suc n) f h = let b = h n in let e = over_spelt n f h in rw (pow-suc 2 n) (omega arith)

-- 24 bits that a number spells
spelt_remainder : (f : ℕ → ℕ) → Binary f → remainder 6 64 (spelt 24 f) ≡ after 6 0 (tab 24 f)
unfolding remainder
spelt_remainder f h =
    remainder_wider 6 (lit≤ tt) 24 64 (spelt 24 f) (lit≤ tt) (spelt_lt 24 f h)
    ∙ ap (after 6 0) (tab_agree 24 (digit 24 (spelt 24 f)) f (λ i l. digit_spelt 24 i f h l))

times_8 : (x : ℕ) → x < 2 ^ 21 → remainder 6 64 (8 * x) ≡ after 6 (remainder 6 64 x) (zeros 3)
times_8 x h =
    let e : 8 * x ≡ x * 2 ^ 3 = omega arith in
    let few : (n : ℕ) → 21 < n → remainder 6 n x ≡ remainder 6 21 x = λ n l. remainder_wider 6 (lit≤ tt) 21 n x (omega arith) h in
    ap (remainder 6 64) e ∙ remainder_times 6 (lit≤ tt) 61 3 x
    ∙ ap (λ r. after 6 r (zeros 3)) (few 61 (lit< tt) ∙ sym (few 64 (lit< tt)))

-- the check, from the remainder of the bits as they are and the framing bits
pub checked_by : (s : List ℕ) (q at framing r : ℕ) → at < 64 → at ≡ raw s q → framing ≡ framing_of s q
    → r ≡ remainder 6 64 (16777215 - framing) → fourth r < 2 ^ 21
    → after 6 (remainder 6 64 (bit_xor at (8 * fourth r))) (zeros 6) ≡ super_check s q
unfolding framing_of
checked_by s q at framing r h ea ef er few =
    let g : ℕ → ℕ = λ f. bit_at s (q + 193 * f) in
    let hg : Binary g = λ f. bit_lt s (q + 193 * f) in
    let rest : 16777215 - framing ≡ spelt 24 (turned_over s q) = omega (arith, over_spelt 24 g hg) in
    let all : r ≡ after 6 0 (tab 24 (turned_over s q))
    = er ∙ ap (remainder 6 64) rest ∙ spelt_remainder (turned_over s q) (turned_lt s q) in
    let lack : after 6 (fourth_of r) (zeros 3) ≡ after 6 (lacking_by s q 24) (zeros 3)
    = ap (λ x. after 6 x (zeros 3)) (ap fourth_of all ∙ sym (by_fourth s q 24)) in
    ap (λ x. after 6 x (zeros 6))
    (remainder_sum 6 (lit≤ tt) 64 at (8 * fourth r)
    ∙ ap₂ bit_xor (remainder_own 6 (lit≤ tt) 64 at (lit≤ tt) h ∙ ea) (times_8 (fourth r) few ∙ lack ∙ sym (lacking_by_lem s q)))
    ∙ whole_check s q
