-- The wrong bits of the words: numbered through, held against the wrong words, and one more of them.
use Prim.Native.Nat.{ℕ, zero, suc, ◌+◌, ◌*◌, ◌/◌, ◌%◌, ◌≤◌, ◌<◌}
use mathlib.Core.Path.{◌≡◌}
use mathlib.Core.Bool.{Bool, cond, not}
use mathlib.Core.List.{List}
use native.Mathlib.Omega.{arith}
use borrow.Author.Tests.{eq-eqb, ne_eqb}
use lib.Dec.{eqb}
use Rattle.base.specs.Tab.{count}
use Rattle.base.proofs.TabLaws.{sum_ext, sum_runs, sum_within, sum_grown}
use Rattle.e1.specs.Frame.{frame_at, wrong_bit, wrong_bits}
use Rattle.e1.proofs.WordLaws.{wrong_most}
use Rattle.measure.specs.Reading.{wrong_bits_of, wrong, word_errors, word_bits}
use Rattle.claims.specs.Counts.{word_bit_at, OneHit}

-- bit j of the word of the even frame 2i is wrong
abbrev pub wrong_in : List ℕ → ℕ → ℕ → ℕ → Bool
wrong_in s q i = wrong_bit s (frame_at q (2 * i))

module _ (s : List ℕ) (q g : ℕ) where
  -- seven bits to a word
  pub bits_counted : word_bits s q g ≡ count (7 * (8 * g)) (λ b. wrong_in s q (b / 7) (b % 7))
  unfolding word_bits wrong_bits
  bits_counted = sum_runs 7 (8 * g) (wrong_bits_of s q) (λ b. cond (wrong_in s q (b / 7) (b % 7)) 1 0) seven
    where
      seven : (m : ℕ) → wrong_bits_of s q m ≡ count 7 (λ j. wrong_in s q ((7 * m + j) / 7) ((7 * m + j) % 7))
      seven m =
          sum_ext 7 (λ j. cond (wrong_in s q m j) 1 0) (λ j. cond (wrong_in s q ((7 * m + j) / 7) ((7 * m + j) % 7)) 1 0)
          (λ j l.
          let a : (7 * m + j) / 7 ≡ m = omega arith in
          let b : (7 * m + j) % 7 ≡ j = omega arith in
          rw (a, b))

  -- n wrong bits, as one word counts
  one_or_more : (n : ℕ) → ◌≤◌ (cond (not (eqb n 0)) 1 0) (1 * n)
  one_or_more zero = omega arith
  one_or_more (suc n) = rw (ne_eqb (suc n) 0 (λ e. omega arith)) (omega arith)

  seven_at_most : (n : ℕ) → n ≤ 7 → n ≤ 7 * cond (not (eqb n 0)) 1 0
  seven_at_most zero h = omega arith
  seven_at_most (suc n) h = rw (ne_eqb (suc n) 0 (λ e. omega arith)) (omega arith)

  pub bits_least : word_errors s q g ≤ word_bits s q g
  unfolding word_errors word_bits wrong
  bits_least =
      omega (arith, sum_within 1 (8 * g) (λ i. cond (wrong s q i) 1 0) (wrong_bits_of s q) (λ i. one_or_more (wrong_bits_of s q i)))

  pub bits_most : word_bits s q g ≤ 7 * word_errors s q g
  unfolding word_errors word_bits wrong
  bits_most =
      sum_within 7 (8 * g) (wrong_bits_of s q) (λ i. cond (wrong s q i) 1 0)
      (λ i. seven_at_most (wrong_bits_of s q i) (wrong_most s (frame_at q (2 * i))))

module _ {s t : List ℕ} {q i j : ℕ} (h : OneHit s t q i j) where
  this_word : wrong_bits_of t q i ≡ wrong_bits_of s q i + 1
  unfolding wrong_bits
  this_word =
      sum_grown 7 j 1 (λ k. cond (wrong_in s q i k) 1 0) (λ k. cond (wrong_in t q i k) 1 0) h.bit
      (rw (ne_eqb _ _ h.wrong, eq-eqb _ _ h.right))
      (λ k l n. rw (h.others (word_bit_at q i k) (λ e. n (omega arith))))

  other_word : (m : ℕ) → (m ≡ i → ⊥) → wrong_bits_of t q m ≡ wrong_bits_of s q m
  unfolding wrong_bits
  other_word m n =
      sum_ext 7 (λ k. cond (wrong_in t q m k) 1 0) (λ k. cond (wrong_in s q m k) 1 0)
      (λ k l. rw (h.others (word_bit_at q m k) (λ e. n (omega (arith, h.bit)))))

  pub one_more_bit : (g : ℕ) → i < 8 * g → word_bits t q g ≡ word_bits s q g + 1
  unfolding word_bits
  one_more_bit g l = sum_grown (8 * g) i 1 (wrong_bits_of s q) (wrong_bits_of t q) l this_word (λ m k. other_word m)
