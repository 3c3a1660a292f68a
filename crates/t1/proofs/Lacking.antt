-- Framing bits made 1, frame by frame: x^193 is x^4, and the 192 bits behind the last framing bit are x^3.
use Rattle.std.specs.Prelude.{if◌then◌else◌}
use Prim.Native.Nat.{ℕ, zero, suc, ◌+◌, ◌-◌, ◌*◌, ◌%◌, ◌<◌}
use mathlib.Core.Path.{◌≡◌, refl, sym, ap, ap₂, ◌∙◌}
use mathlib.Core.Bool.{Bool, true, false, cond}
use mathlib.Core.List.{List, ◌∷◌}
use native.Mathlib.Nat.{mul-zero, mul-suc, add-zero}
use native.Mathlib.Omega.{arith}
use borrow.Author.Tests.{eq-eqb, ne_eqb}
use lib.Bits.{bit_xor, xor_zero_r, xor_lt}
use lib.Dec.{eqb, lit<, lit≤}
use lib.ListN.{get_or, length-replicate}
use Rattle.base.specs.Tab.{tab, tab_from}
use Rattle.base.proofs.TabLaws.{tab_split, tab_agree, tab_of}
use Rattle.line.specs.Bit.{bit_at}
use Rattle.line.proofs.BitLaws.{bit_lt}
use Rattle.line.proofs.SpeltLaws.{Binary}
use Rattle.crc.specs.Remainder.{zeros, after, check}
use Rattle.crc.specs.Striped.{read_as, striped}
use Rattle.crc.proofs.Laws.{zeros_zero, zeros_of_zero, after_append}
use Rattle.crc.proofs.Digits.{tabs_linear}
use Rattle.t1.specs.Superframe.{check_of, super_check}
use Rattle.t1.specs.Raw.{raw, lacking, lacking_by}
use Rattle.t1.proofs.Slides.{raw_lt}
use Rattle.t1.proofs.Powers.{zeros_lt, zeros_add, zeros_round, step_adds}

module _ (s : List ℕ) (p : ℕ) where
  -- what a bit lacks
  abbrev turned_over : ℕ → ℕ
  turned_over i = if eqb (i % 193) 0 then 1 - bit_at s (p + i) else 0

  turned_lt : Binary turned_over
  turned_lt i = go (eqb (i % 193) 0)
    where
      go : (t : Bool) → cond t (1 - bit_at s (p + i)) 0 < 2
      go true = omega arith
      go false = lit< tt

  pub by_lt : (n : ℕ) → lacking_by s p n < 64
  unfolding lacking_by
  by_lt zero = lit< tt
  by_lt (suc n) =
      xor_lt 6 (after 6 (lacking_by s p n) (zeros 4)) (1 - bit_at s (p + 193 * n)) (zeros_lt 4 (lacking_by s p n) (by_lt n)) (omega arith)

  -- of a frame only the framing bit
  frame_bit : (n i : ℕ) → i < 193 → turned_over (193 * n + i) ≡ get_or ((1 - bit_at s (p + 193 * n)) ∷ zeros 192) i 0
  frame_bit n zero h = let z : (193 * n + 0) % 193 ≡ 0 = omega arith in rw (eq-eqb _ _ z, add-zero (193 * n))
  frame_bit n (suc i) h =
      let z : (193 * n + suc i) % 193 ≡ suc i = omega arith in
      rw (ne_eqb ((193 * n + suc i) % 193) 0 (λ e. omega arith)) (sym (zeros_zero 192 i))

  frame_bits : (n : ℕ) → tab 193 (λ i. turned_over (193 * n + i)) ≡ (1 - bit_at s (p + 193 * n)) ∷ zeros 192
  frame_bits n =
      tab_of 193 (λ i. turned_over (193 * n + i)) ((1 - bit_at s (p + 193 * n)) ∷ zeros 192) (ap suc (length-replicate {A = ℕ} 192 0)) (frame_bit n)

  by_frames : (n : ℕ) → after 6 0 (tab (193 * n) turned_over) ≡ after 6 (lacking_by s p n) (zeros 3)
  unfolding lacking_by after
  by_frames zero =
      let none : after 6 0 (tab 0 turned_over) ≡ 0 = unfold tab_from in refl in
      ap (λ m. after 6 0 (tab m turned_over)) (mul-zero 193)
      ∙ none ∙ sym (zeros_of_zero 6 (lit≤ tt) (zeros 3) (zeros_zero 3))
  by_frames (suc n) =
      let a : ℕ = lacking_by s p n in
      let b : ℕ = 1 - bit_at s (p + 193 * n) in
      let front : ℕ = after 6 a (zeros 3) in
      ap (λ m. after 6 0 (tab m turned_over)) (mul-suc 193 n)
      ∙ ap (after 6 0) (tab_split (193 * n) 193 turned_over)
      ∙ after_append 6 0 (tab (193 * n) turned_over) (tab 193 (λ i. turned_over (193 * n + i)))
      ∙ ap₂ (after 6) (by_frames n) (frame_bits n)
      ∙ ap (λ x. after 6 x (zeros 192)) (step_adds front b (zeros_lt 3 a (by_lt n)) (omega arith))
      ∙ ap (λ x. after 6 (bit_xor x b) (zeros 192)) (zeros_add 3 1 a)
      ∙ zeros_round 192 (lacking_by s p (suc n)) (by_lt (suc n))

  pub lacking_by_lem : lacking s p ≡ after 6 (lacking_by s p 24) (zeros 3)
  unfolding lacking
  lacking_by_lem = by_frames 24

  bit_made : (b : ℕ) → b < 2 → (t : Bool) → bit_xor b (cond t (1 - b) 0) ≡ cond t 1 b
  bit_made zero h true = refl
  bit_made (suc zero) h true = refl
  bit_made (suc (suc b)) h true = absurd (omega arith)
  bit_made b h false = xor_zero_r b

  pub whole_lt : bit_xor (raw s p) (lacking s p) < 64
  whole_lt =
      xor_lt 6 (raw s p) (lacking s p) (raw_lt s p) (rw lacking_by_lem (zeros_lt 3 (lacking_by s p 24) (by_lt 24)))

  -- with it, the check of the superframe
  pub whole_check : after 6 (bit_xor (raw s p) (lacking s p)) (zeros 6) ≡ super_check s p
  unfolding raw lacking check_of check striped read_as
  whole_check =
      let f : ℕ → ℕ = λ i. bit_at s (p + i) in
      let hf : Binary f = λ i. bit_lt s (p + i) in
      ap (λ x. after 6 x (zeros 6))
      (sym (tabs_linear 6 (lit≤ tt) 0 0 4632 f turned_over (lit< tt) (lit< tt) hf turned_lt)
      ∙ ap (after 6 0)
      (tab_agree 4632 (λ i. bit_xor (f i) (turned_over i)) (read_as 193 1 f) (λ i h. bit_made (f i) (hf i) (eqb (i % 193) 0))))
      ∙ sym (after_append 6 0 (striped 4632 193 1 f) (zeros 6))
