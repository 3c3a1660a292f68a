-- What each place adds, in six words: what comes in at the coefficient of 1, what is gone at those of x and x^4, and
-- the first place's own remainder at its highest bits.
use Rattle.std.specs.Prelude.{if◌then◌else◌}
use Prim.Native.Nat.{ℕ, zero, suc, ◌+◌, ◌-◌, ◌*◌, ◌/◌, ◌<◌}
use mathlib.Core.Path.{◌≡◌, refl, ap, ap₂, ◌∙◌}
use mathlib.Core.List.{List, [], ◌∷◌}
use native.Mathlib.Decide.{dec_lt}
use native.Mathlib.Omega.{arith}
use borrow.Author.Tests.{lt-ltb, le-ltb, ne_eqb}
use lib.Bits.{bit_xor, xor_zero_r}
use lib.ListN.{get_or}
use Rattle.line.specs.Bit.{bit_at, field}
use Rattle.line.specs.Window.{bit_of}
use Rattle.line.proofs.BitLaws.{bit_lt, field_lt}
use Rattle.line.proofs.WindowLaws.{bit_at_lem}
use Rattle.t1.specs.Raw.{raw}
use Rattle.t1sliced.specs.Sliced.{change, Sliced, later, TopBit}
use Rattle.t1sliced.proofs.Bitwise.{xor_bits}
use Rattle.t1sliced.proofs.Words.{below_six, bits_later}

-- a window moved down by a bit
pub window_later : (s : List ℕ) (q w : ℕ) → w ≡ field s q 64 → (o : ℕ) → o < 56
    → bit_of (w / 2) (63 - o) ≡ later 1 (λ o. bit_at s (q + o)) o
window_later s q w e o h =
    bits_later w 1 (rw e (field_lt s q 64)) o h
    ∙ elim (dec_lt o 1) [
      | yes l ↦ rw (lt-ltb o 1 l)
      | no l ↦ rw (le-ltb o 1 (omega arith)) (bit_at_lem s q (o - 1) (63 - (o - 1)) w e (omega arith))
    ]

-- the coefficients of c + (x^4 + x) g
abbrev coefficients : ℕ → ℕ → List ℕ
coefficients c g = c ∷ g ∷ 0 ∷ 0 ∷ g ∷ 0 ∷ []

coefficients_of : (c g : ℕ) → c < 2 → g < 2 → (t : ℕ) → t < 6 → get_or (coefficients c g) t 0 ≡ bit_of (bit_xor c (18 * g)) t
coefficients_of zero zero hc hg = below_six _ refl refl refl refl refl refl
coefficients_of zero (suc zero) hc hg = below_six _ refl refl refl refl refl refl
coefficients_of (suc zero) zero hc hg = below_six _ refl refl refl refl refl refl
coefficients_of (suc zero) (suc zero) hc hg = below_six _ refl refl refl refl refl refl
coefficients_of zero (suc (suc g)) hc hg = absurd (omega arith)
coefficients_of (suc zero) (suc (suc g)) hc hg = absurd (omega arith)
coefficients_of (suc (suc c)) g hc hg = absurd (omega arith)

module _ (s tops : List ℕ) (at come gone : ℕ) (first : at ≡ raw s 0)
    (top : (t : ℕ) → t < 6 → TopBit at t (get_or tops t 0))
    (comes : (o : ℕ) → o < 56 → bit_of come (63 - o) ≡ later 1 (λ o. bit_at s (4632 + o)) o)
    (goes : (o : ℕ) → o < 56 → bit_of gone (63 - o) ≡ later 1 (λ o. bit_at s (0 + o)) o) where
  abbrev words : List ℕ
  words =
      bit_xor come (get_or tops 0 0)
      ∷ bit_xor gone (get_or tops 1 0)
      ∷ get_or tops 2 0
      ∷ get_or tops 3 0
      ∷ bit_xor gone (get_or tops 4 0)
      ∷ get_or tops 5 0
      ∷ []

  wrong_word_bits : (n t : ℕ) → t < 6
      → bit_of (get_or words t 0) n ≡ bit_xor (get_or (coefficients (bit_of come n) (bit_of gone n)) t 0) (bit_of (get_or tops t 0) n)
  wrong_word_bits n =
      below_six _ (xor_bits come (get_or tops 0 0) n) (xor_bits gone (get_or tops 1 0) n) refl refl
      (xor_bits gone (get_or tops 4 0) n) refl

  pub changes_sliced : Sliced (change s) words
  unfolding change
  changes_sliced zero h t l =
      wrong_word_bits 63 t l
      ∙ ap₂ (λ c g. bit_xor (get_or (coefficients c g) t 0) (bit_of (get_or tops t 0) 63)) (comes 0 h) (goes 0 h)
      ∙ ap₂ bit_xor (none t l) (top t l 0 h) ∙ ap (λ x. bit_of x t) first
    where
      none : (t : ℕ) → t < 6 → get_or (coefficients 0 0) t 0 ≡ 0
      none = below_six _ refl refl refl refl refl refl
  changes_sliced (suc o) h t l =
      let n : ℕ = 63 - suc o in
      let come-bit : bit_of come n ≡ bit_at s (o + 4632) = comes (suc o) h ∙ place (λ o. bit_at s (4632 + o)) ∙ ap (bit_at s) (omega arith) in
      let gone-bit : bit_of gone n ≡ bit_at s o = goes (suc o) h ∙ place (λ o. bit_at s (0 + o)) ∙ ap (bit_at s) (omega arith) in
      wrong_word_bits n t l
      ∙ ap₂ bit_xor (ap₂ (λ c g. get_or (coefficients c g) t 0) come-bit gone-bit)
      (top t l (suc o) h ∙ ap (λ b. if b then bit_of at t else 0) (ne_eqb (suc o) 0 (λ e. omega arith)))
      ∙ xor_zero_r (get_or (coefficients (bit_at s (o + 4632)) (bit_at s o)) t 0)
      ∙ coefficients_of (bit_at s (o + 4632)) (bit_at s o) (bit_lt s (o + 4632)) (bit_lt s o) t l
    where
      place : (f : ℕ → ℕ) → later 1 f (suc o) ≡ f o
      place f = let e : suc o - 1 ≡ o = omega arith in rw (le-ltb (suc o) 1 (omega arith), e)
