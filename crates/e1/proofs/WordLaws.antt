-- The laws of an alignment word: its wrong bits counted, what none wrong means, and the first of them.
use Prim.Native.Nat.{ℕ, zero, suc, ◌+◌, ◌≤◌}
use mathlib.Core.Path.{◌≡◌, refl, sym, ap, ◌∙◌}
use mathlib.Core.Bool.{Bool, true, false, cond, not, true≢false}
use mathlib.Core.List.{List}
use mathlib.Core.Logic.{◌↔◌}
use Rattle.std.specs.Prelude.{Option, None, Some}
use mathlib.Mathlib.Data.Bool.Basic.{eq-false_of_not-eq-true}
use native.Mathlib.Omega.{arith}
use borrow.Author.Tests.{eqb-true, eq-eqb}
use lib.Bits.{bit_xor, xor_lt}
use lib.Count.{ones, count_leading_zeros}
use lib.Dec.{eqb, lit<}
use lib.ListN.{get_or}
use Rattle.base.specs.Choice.{value_or}
use Rattle.base.specs.Tab.{least}
use Rattle.base.proofs.TabLaws.{sum_zero, sum_none, count_le, Least, least_some, least_none}
use Rattle.line.specs.Bit.{bit_at, field}
use Rattle.line.specs.Spelt.{spelt}
use Rattle.line.proofs.BitLaws.{bit_lt, field_lt}
use Rattle.line.proofs.SpeltLaws.{spelt_agree}
use Rattle.line.proofs.OnesLaws.{ones_differ, leading_differ, leading_wider}
use Rattle.crc.specs.Remainder.{Bits}
use Rattle.e1.specs.Frame.{alignment, wrong_bit, wrong_bits, word_at, first_wrong}

alignment_bits : Bits alignment
alignment_bits zero = lit< tt
alignment_bits (suc zero) = lit< tt
alignment_bits (suc (suc zero)) = lit< tt
alignment_bits (suc (suc (suc zero))) = lit< tt
alignment_bits (suc (suc (suc (suc zero)))) = lit< tt
alignment_bits (suc (suc (suc (suc (suc zero))))) = lit< tt
alignment_bits (suc (suc (suc (suc (suc (suc zero)))))) = lit< tt
alignment_bits (suc (suc (suc (suc (suc (suc (suc i))))))) = lit< tt

right_bit : (x y : ℕ) → ◌≡◌ {A = ℕ} (cond (not (eqb x y)) 1 0) 0 → x ≡ y
right_bit x y e = go (eqb x y) refl e
  where
    go : (b : Bool) → eqb x y ≡ b → ◌≡◌ {A = ℕ} (cond (not b) 1 0) 0 → x ≡ y
    go true t e = eqb-true x y t
    go false t e = absurd (omega arith)

module _ (s : List ℕ) (q : ℕ) where
  -- as the code counts them
  pub wrong_ones : ones (bit_xor (field s (q + 1) 7) 27) ≡ wrong_bits s q
  unfolding wrong_bits field spelt
  wrong_ones = ones_differ 7 (λ i. bit_at s (q + 1 + i)) (λ i. get_or alignment i 0) (λ i. bit_lt s (q + 1 + i)) alignment_bits

  pub wrong_most : wrong_bits s q ≤ 7
  unfolding wrong_bits
  wrong_most = count_le 7 (wrong_bit s q)

  -- the word of which no bit is wrong is 0011011
  pub word_holds : word_at s q ≡ true ↔ field s (q + 1) 7 ≡ 27
  unfolding wrong_bits field spelt ones
  word_holds = (there, back)
    where
      there : word_at s q ≡ true → field s (q + 1) 7 ≡ 27
      there e =
          let None = sum_zero 7 (λ i. cond (wrong_bit s q i) 1 0) (eqb-true _ _ e) in
          spelt_agree 7 (λ i. bit_at s (q + 1 + i)) (λ i. get_or alignment i 0) (λ i h. right_bit _ _ (None i h))

      back : field s (q + 1) 7 ≡ 27 → word_at s q ≡ true
      back e = eq-eqb _ _ (sym wrong_ones ∙ ap (λ x. ones (bit_xor x 27)) e ∙ refl)

  -- the first of them, as the code finds it: a word has seven bits of its octet
  pub first_zeros : q + count_leading_zeros 8 (bit_xor (field s (q + 1) 7) 27) ≡ first_wrong s q
  unfolding first_wrong field spelt
  first_zeros =
      ap (λ n. q + n)
      (leading_wider 7 _ (xor_lt 7 (field s (q + 1) 7) 27 (field_lt s (q + 1) 7) (lit< tt))
      ∙ ap (λ n. n + 1) (leading_differ 7 (λ i. bit_at s (q + 1 + i)) (λ i. get_or alignment i 0) (λ i. bit_lt s (q + 1 + i)) alignment_bits))
      ∙ omega arith

  -- a word that is wrong has it
  pub first_wrong_lem : word_at s q ≡ false → (i : ℕ) × Least 7 (wrong_bit s q) i × (first_wrong s q ≡ q + 1 + i)
  unfolding first_wrong wrong_bits
  first_wrong_lem e = go (least 7 (wrong_bit s q)) refl
    where
      go : (o : Option ℕ) → least 7 (wrong_bit s q) ≡ o → (i : ℕ) × Least 7 (wrong_bit s q) i × (q + 1 + value_or o 7 ≡ q + 1 + i)
      go (Some i) h = (i, (least_some 7 (wrong_bit s q) i).0 h, refl)
      go None h =
          let right = least_none 7 (wrong_bit s q) h in
          let zeros = sum_none 7 (λ i. cond (wrong_bit s q i) 1 0) (λ i l. ap (λ b. cond b 1 0) (right i l)) in
          absurd (true≢false (sym (eq-eqb _ _ zeros) ∙ e))

  -- and what is the first wrong bit is this one
  pub first_only : (i : ℕ) → Least 7 (wrong_bit s q) i → (word_at s q ≡ false) × (first_wrong s q ≡ q + 1 + i)
  unfolding first_wrong wrong_bits
  first_only i h = (eq-false_of_not-eq-true some_bit, ap (λ o. q + 1 + value_or o 7) ((least_some 7 (wrong_bit s q) i).1 h))
    where
      some_bit : word_at s q ≡ true → ⊥
      some_bit e =
          let none-wrong = sum_zero 7 (λ i. cond (wrong_bit s q i) 1 0) (eqb-true _ _ e) i h.below in
          let one : ◌≡◌ {A = ℕ} 1 0 = sym (ap (λ b. cond b 1 0) h.passes) ∙ none-wrong in
          omega arith
