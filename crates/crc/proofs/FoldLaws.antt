-- What lies a multiple of the order apart has the same weight, so digits may be folded, and rows of them added up.
use Prim.Native.Nat.{ℕ, zero, suc, ◌+◌, ◌-◌, ◌*◌, ◌/◌, ◌%◌, ◌^◌, ◌≤◌, ◌<◌}
use mathlib.Core.Path.{◌≡◌, refl, sym, ap, ap₂, ◌∙◌, subst}
use mathlib.Core.List.{List}
use native.Mathlib.Nat.{add-zero, add_assoc, add-mul, zero-mul, mul-zero, mul_assoc, mul-add-div_right, div-eq_of_lt, mod-eq_of_lt}
use native.Mathlib.Omega.{arith}
use lib.Bits.{bit_xor, bit_or, bit_and, and_mask, xor_lt, xor_shr, xor_mod, xor_block, xor_shifted}
use lib.Dec.{lit≤}
use lib.Pow.{pow_pos, pow-add, mod-mod-pow, split}
use Rattle.base.specs.Tab.{tab, tab_from}
use Rattle.base.proofs.TabLaws.{length_tab, tab_agree, tab_split}
use Rattle.line.specs.Bit.{bit_at, field}
use Rattle.line.specs.Spelt.{digit}
use Rattle.line.proofs.BitLaws.{field_lt, field_add, field_within, field_digits, shifts_join}
use Rattle.crc.specs.Remainder.{zeros, after}
use Rattle.crc.specs.Fold.{xors}
use Rattle.crc.proofs.Laws.{after_append, after_lt}
use Rattle.crc.proofs.Digits.{digits, digits_bits, digits_add, digits_low, digits_linear, digits_none}
use Rattle.crc.proofs.Order.{Order, order_4, bits_add}

module _ (w : ℕ) (wide : 2 ≤ w) (p : ℕ) (order : Order w p) (n : ℕ) (multiple : n % p ≡ 0) where
  -- n digits behind others are added to them
  digits_on : (r x : ℕ) → r < 2 ^ w → after w r (digits n x) ≡ bit_xor r (after w 0 (digits n x))
  digits_on r x h =
      bits_add w wide r (digits n x) h (digits_bits n x)
      (ap (λ k. after w 1 (zeros k)) (length_tab n (digit n x)) ∙ (order n).1 multiple)

  -- 2n digits folded in the middle
  pub fold_half : (x : ℕ) → after w 0 (digits (n + n) x) ≡ after w 0 (digits n (bit_xor (x / 2 ^ n) x))
  fold_half x =
      ap (after w 0) (digits_add n n x) ∙ after_append w 0 (digits n (x / 2 ^ n)) (digits n x)
      ∙ digits_on (after w 0 (digits n (x / 2 ^ n))) x (after_lt w wide 0 (digits n (x / 2 ^ n)) (pow_pos w) (digits_bits n (x / 2 ^ n)))
      ∙ sym (digits_linear w wide 0 0 n (x / 2 ^ n) x (pow_pos w) (pow_pos w))

  -- k rows of n bits added up, where g has the rows as numbers
  pub fold_rows : (f g : ℕ → ℕ) → ((i : ℕ) → tab n (λ j. f (n * i + j)) ≡ digits n (g i))
      → (k : ℕ) → after w 0 (tab (n * k) f) ≡ after w 0 (digits n (xors k g))
  unfolding after tab_from xors
  fold_rows f g h zero = ap (λ m. after w 0 (tab m f)) (mul-zero n) ∙ sym (digits_none w wide n)
  fold_rows f g h (suc k) =
      let e : n * suc k ≡ n * k + n = omega arith in
      ap (λ m. after w 0 (tab m f)) e ∙ ap (after w 0) (tab_split (n * k) n f)
      ∙ after_append w 0 (tab (n * k) f) (tab n (λ j. f (n * k + j)))
      ∙ ap₂ (after w) (fold_rows f g h k) (h k)
      ∙ digits_on (after w 0 (digits n (xors k g))) (g k) (after_lt w wide 0 (digits n (xors k g)) (pow_pos w) (digits_bits n (xors k g)))
      ∙ sym (digits_linear w wide 0 0 n (xors k g) (g k) (pow_pos w) (pow_pos w))

pub xors_ext : (n : ℕ) (f g : ℕ → ℕ) → ((i : ℕ) → f i ≡ g i) → xors n f ≡ xors n g
unfolding xors
xors_ext zero f g h = refl
xors_ext (suc n) f g h = ap₂ bit_xor (xors_ext n f g h) (h n)

pub xors_lt : (k n : ℕ) (f : ℕ → ℕ) → ((i : ℕ) → f i < 2 ^ k) → xors n f < 2 ^ k
unfolding xors
xors_lt k zero f h = pow_pos k
xors_lt k (suc n) f h = xor_lt k (xors n f) (f n) (xors_lt k n f h) (h n)

-- a sum of fields is a field of the sum
pub xors_field : (n j k : ℕ) (f : ℕ → ℕ) → xors n (λ i. f i / 2 ^ j % 2 ^ k) ≡ xors n f / 2 ^ j % 2 ^ k
unfolding xors
xors_field zero j k f = sym (ap (λ x. x % 2 ^ k) (div-eq_of_lt (pow_pos j)) ∙ mod-eq_of_lt (pow_pos k))
xors_field (suc n) j k f =
    ap (λ x. bit_xor x (f n / 2 ^ j % 2 ^ k)) (xors_field n j k f) ∙ sym (xor_mod (xors n f / 2 ^ j) (f n / 2 ^ j) k)
    ∙ ap (λ x. x % 2 ^ k) (sym (xor_shr (xors n f) (f n) j))

-- a sum of numbers of two parts, part by part
pub xors_parts : (n k : ℕ) (f g : ℕ → ℕ) → ((i : ℕ) → g i < 2 ^ k)
    → xors n (λ i. f i * 2 ^ k + g i) ≡ xors n f * 2 ^ k + xors n g
unfolding xors
xors_parts zero k f g h = sym (add-zero (0 * 2 ^ k) ∙ zero-mul (2 ^ k))
xors_parts (suc n) k f g h =
    ap (λ x. bit_xor x (f n * 2 ^ k + g n)) (xors_parts n k f g h)
    ∙ xor_block k (xors n f) (f n) (xors n g) (g n) (xors_lt k n g h) (h n)

-- 120 digits by two words, folded to 60, 30 and 15
abbrev halved : ℕ → ℕ → ℕ
halved n x = bit_xor (x / 2 ^ n) x

pub fold_120 : (h l sixty : ℕ) → sixty ≡ bit_xor (bit_xor (h * 16 % 2 ^ 64) (l / 2 ^ 60)) l → l < 2 ^ 64
    → after 4 0 (digits 15 (halved 15 (halved 30 sixty))) ≡ after 4 0 (digits 120 (h * 2 ^ 64 + l))
fold_120 h l sixty e hl =
    let z : ℕ = h * 2 ^ 64 + l in
    let t : ℕ = l / 2 ^ 60 in
    let up : z / 2 ^ 60 ≡ bit_xor (h * 16) t = (let e : z / 2 ^ 60 ≡ h * 16 + t = omega arith in e) ∙ sym (xor_shifted h 4 t (omega arith)) in
    let low : z % 2 ^ 60 ≡ l % 2 ^ 60 = omega arith in
    let high : bit_xor (h * 16 % 2 ^ 64) t % 2 ^ 60 ≡ bit_xor (h * 16) t % 2 ^ 60
    = xor_mod (h * 16 % 2 ^ 64) t 60 ∙ ap (λ x. bit_xor x (t % 2 ^ 60)) (mod-mod-pow (h * 16) 4 60) ∙ sym (xor_mod (h * 16) t 60) in
    let same : halved 60 z % 2 ^ 60 ≡ sixty % 2 ^ 60
    = xor_mod (z / 2 ^ 60) z 60 ∙ ap₂ bit_xor (ap (λ x. x % 2 ^ 60) up ∙ sym high) low
    ∙ sym (ap (λ x. x % 2 ^ 60) e ∙ xor_mod (bit_xor (h * 16 % 2 ^ 64) t) l 60) in
    sym (fold_half 4 (lit≤ tt) 15 order_4 60 refl z ∙ ap (after 4 0) (digits_low 60 (halved 60 z) sixty same)
    ∙ fold_half 4 (lit≤ tt) 15 order_4 30 refl sixty ∙ fold_half 4 (lit≤ tt) 15 order_4 15 refl (halved 30 sixty))

-- two words moved c places down
moved : (a b c d : ℕ) → c + d ≡ 64 → b < 2 ^ 64
    → a / 2 ^ c * 2 ^ 64 + bit_or (a * 2 ^ d % 2 ^ 64) (b / 2 ^ c) ≡ (a * 2 ^ 64 + b) / 2 ^ c
moved a b c d e h =
    let e' : d + c ≡ 64 = omega arith in
    let join : bit_or (a * 2 ^ d % 2 ^ 64) (b / 2 ^ c) ≡ a % 2 ^ c * 2 ^ d + b / 2 ^ c
    = ap (λ n. bit_or (a * 2 ^ d % 2 ^ n) (b / 2 ^ c)) (sym e) ∙ shifts_join a b c d (subst (λ n. b < 2 ^ n) (sym e') h) in
    let parts : a / 2 ^ c * 2 ^ 64 + a % 2 ^ c * 2 ^ d ≡ a * 2 ^ d
    = ap (λ n. a / 2 ^ c * 2 ^ n + a % 2 ^ c * 2 ^ d) (sym e)
    ∙ ap (λ z. a / 2 ^ c * z + a % 2 ^ c * 2 ^ d) (pow-add 2 c d)
    ∙ ap (λ z. z + a % 2 ^ c * 2 ^ d) (sym (mul_assoc (a / 2 ^ c) (2 ^ c) (2 ^ d)))
    ∙ sym (add-mul (a / 2 ^ c * 2 ^ c) (a % 2 ^ c) (2 ^ d)) ∙ ap (λ z. z * 2 ^ d) (split a c) in
    let both : a * 2 ^ 64 ≡ a * 2 ^ d * 2 ^ c
    = ap (λ n. a * 2 ^ n) (sym e') ∙ ap (λ z. a * z) (pow-add 2 d c) ∙ sym (mul_assoc a (2 ^ d) (2 ^ c)) in
    ap (λ z. a / 2 ^ c * 2 ^ 64 + z) join ∙ sym (add_assoc (a / 2 ^ c * 2 ^ 64) (a % 2 ^ c * 2 ^ d) (b / 2 ^ c))
    ∙ ap (λ z. z + b / 2 ^ c) parts ∙ sym (ap (λ z. (z + b) / 2 ^ c) both ∙ mul-add-div_right (pow_pos c) (a * 2 ^ d) b)

-- the sums of the two windows, moved to place q, are the sum of 17 rows of 120 bits
module _ (s : List ℕ) (q : ℕ) where
  abbrev row : ℕ → ℕ
  row k = field s (q + 120 * k) 120

  rows_fold : after 4 0 (tab 2040 (λ j. bit_at s (q + j))) ≡ after 4 0 (digits 120 (xors 17 row))
  rows_fold = fold_rows 4 (lit≤ tt) 15 order_4 120 refl (λ j. bit_at s (q + j)) row each 17
    where
      each : (k : ℕ) → tab 120 (λ j. bit_at s (q + (120 * k + j))) ≡ digits 120 (row k)
      each k =
          tab_agree 120 (λ j. bit_at s (q + (120 * k + j))) (λ j. bit_at s (q + 120 * k + j))
          (λ j h. ap (bit_at s) (sym (add_assoc q (120 * k) j)))
          ∙ sym (field_digits s (q + 120 * k) 120)

  -- a row in the two windows that hold it
  row_within : (c : ℕ) → q % 8 + c ≡ 8 → (k : ℕ)
      → (field s (8 * (q / 8 + 15 * k)) 64 * 2 ^ 64 + field s (8 * (q / 8 + 8 + 15 * k)) 64) / 2 ^ c % 2 ^ 120 ≡ row k
  row_within c e k =
      let p : ℕ = 8 * (q / 8 + 15 * k) in
      let next : p + 64 ≡ 8 * (q / 8 + 8 + 15 * k) = omega arith in
      let wide : q % 8 + 120 + c ≡ 128 = omega arith in
      let here : p + q % 8 ≡ q + 120 * k = omega arith in
      ap (λ x. (field s p 64 * 2 ^ 64 + field s x 64) / 2 ^ c % 2 ^ 120) (sym next)
      ∙ ap (λ x. x / 2 ^ c % 2 ^ 120) (sym (field_add s p 64 64)) ∙ ap (λ n. field s p n / 2 ^ c % 2 ^ 120) (sym wide)
      ∙ field_within s p (q % 8) 120 c ∙ ap (λ x. field s x 120) here

  pub windows_fold : (a b : ℕ) → a ≡ xors 17 (λ k. field s (8 * (q / 8 + 15 * k)) 64)
      → b ≡ xors 17 (λ k. field s (8 * (q / 8 + 8 + 15 * k)) 64)
      → (c d : ℕ) → c ≡ 8 - bit_and q 7 → d ≡ 64 - c
      → after 4 0 (digits 120 (a / 2 ^ c * 2 ^ 64 + bit_or (a * 2 ^ d % 2 ^ 64) (b / 2 ^ c)))
      ≡ after 4 0 (tab 2040 (λ j. bit_at s (q + j)))
  windows_fold a b ea eb c d ec ed =
      let first : ℕ → ℕ = λ k. field s (8 * (q / 8 + 15 * k)) 64 in
      let second : ℕ → ℕ = λ k. field s (8 * (q / 8 + 8 + 15 * k)) 64 in
      let lt : (k : ℕ) → second k < 2 ^ 64 = λ k. field_lt s (8 * (q / 8 + 8 + 15 * k)) 64 in
      let mask : bit_and q 7 ≡ q % 8 = and_mask q 3 in
      let low : (a * 2 ^ 64 + b) / 2 ^ c % 2 ^ 120 ≡ xors 17 row
      = ap₂ (λ x y. (x * 2 ^ 64 + y) / 2 ^ c % 2 ^ 120) ea eb
      ∙ ap (λ x. x / 2 ^ c % 2 ^ 120) (sym (xors_parts 17 64 first second lt))
      ∙ sym (xors_field 17 c 120 (λ k. first k * 2 ^ 64 + second k)) ∙ xors_ext 17 _ row (row_within c (omega arith)) in
      ap (λ z. after 4 0 (digits 120 z)) (moved a b c d (omega arith) (subst (λ x. x < 2 ^ 64) (sym eb) (xors_lt 64 17 second lt)))
      ∙ ap (after 4 0)
      (digits_low 120 ((a * 2 ^ 64 + b) / 2 ^ c) (xors 17 row)
      (low ∙ sym (mod-eq_of_lt (xors_lt 120 17 row (λ k. field_lt s (q + 120 * k) 120)))))
      ∙ sym rows_fold
