-- What basic alignment leaves in the two windows of its words, and what a set of places leaves out.
use Prim.Native.Nat.{ℕ, ◌+◌, ◌-◌, ◌*◌, ◌/◌, ◌%◌, ◌^◌, ◌≤◌, ◌<◌}
use mathlib.Core.Path.{◌≡◌, sym, ap, ◌∙◌}
use mathlib.Core.List.{List}
use native.Mathlib.Decide.{dec_lt}
use native.Mathlib.Omega.{arith}
use lib.Bits.{bit_and, bit_or}
use lib.Count.{count_leading_zeros}
use lib.Pow.{shr-shr}
use Rattle.line.specs.Bit.{field}
use Rattle.line.specs.Window.{turned, bit_of, One}
use Rattle.line.proofs.WindowLaws.{low_bit, turned_one, turned_zero, zero_none, leading_one, field_at}
use Rattle.align.specs.Stands.{Basic}
use Rattle.align.specs.Window.{Holds, NoneFrom}

-- bit k of the word, j above it
bit_of_word : (w n : ℕ) → w / 2 ^ n % 2 ^ 7 ≡ 27 → (j k : ℕ) → j + 1 + k ≡ 7 → bit_of w (n + k) ≡ bit_of 27 k
bit_of_word w n e j k h =
    let f : w / 2 ^ n % 2 ^ (j + 1 + k) ≡ 27 = rw h e in
    ap (λ a. a % 2) (sym (shr-shr w n k)) ∙ low_bit (w / 2 ^ n) j k ∙ ap (λ a. bit_of a k) f

-- x and y are the octets from i and from i + 64 on, and the place 8i + o has basic alignment
module _ (s : List ℕ) (i o x y : ℕ) (h : o < 56) (b : Basic s (8 * i + o)) (first : turned 8 x ≡ field s (8 * i) 64)
    (second : turned 8 y ≡ field s (8 * (i + 64)) 64) where
  word : turned 8 x / 2 ^ (56 - o) % 2 ^ 7 ≡ 27
  word =
      let e : 8 * i + (o + 1) ≡ 8 * i + o + 1 = omega arith in
      field_at s (8 * i) (o + 1) 7 (56 - o) (turned 8 x) first (omega arith) ∙ ap (λ q. field s q 7) e ∙ b.word

  again : turned 8 y / 2 ^ (56 - o) % 2 ^ 7 ≡ 27
  again =
      let e : 8 * (i + 64) + (o + 1) ≡ 8 * i + o + 513 = omega arith in
      field_at s (8 * (i + 64)) (o + 1) 7 (56 - o) (turned 8 y) second (omega arith) ∙ ap (λ q. field s q 7) e ∙ b.word_again

  pub both_one : (j k : ℕ) → j + 1 + k ≡ 7 → bit_of 27 k ≡ 1 → One (turned 8 (bit_and x y)) (56 - o + k)
  both_one j k g e =
      turned_one x y (56 - o + k) (omega arith) (bit_of_word _ (56 - o) word j k g ∙ e) (bit_of_word _ (56 - o) again j k g ∙ e)

  pub any_zero : (j k : ℕ) → j + 1 + k ≡ 7 → bit_of 27 k ≡ 0 → bit_of (turned 8 (bit_or x y)) (56 - o + k) ≡ 0
  any_zero j k g e =
      turned_zero x y (56 - o + k) (omega arith) (bit_of_word _ (56 - o) word j k g ∙ e) (bit_of_word _ (56 - o) again j k g ∙ e)

-- no bit of it is left
pub none_left : (x n : ℕ) → x ≡ 0 → One x n → ⊥
none_left x n z o = zero_none n (sym (ap (λ a. bit_of a n) z) ∙ o)

-- no place with P is left out before the first bit of the set that is 1
pub none_to : (P : ℕ → Type 0) (p i r : ℕ) → Holds P i 63 r → r < 2 ^ 64 → NoneFrom P p (8 * i) → (o : ℕ) → o ≤ 56
    → o ≤ count_leading_zeros 64 r → NoneFrom P p (8 * i + o)
none_to P p i r h few before o l g q a b w =
    elim (dec_lt q (8 * i)) [
      | yes c ↦ before q a c w
      | no c ↦
          let e : 8 * i + (q - 8 * i) ≡ q = omega arith in
          omega (arith, leading_one 64 r (63 - (q - 8 * i)) few (h (q - 8 * i) (omega arith) (rw e w)))
    ]
