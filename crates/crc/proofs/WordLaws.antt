-- The laws of remainders of numbers, over the width w from 2 on and the number of digits, and of words by x^6 + x + 1.
use Prim.Native.Nat.{ℕ, zero, suc, ◌+◌, ◌-◌, ◌*◌, ◌/◌, ◌%◌, ◌^◌, ◌≤◌, ◌<◌}
use mathlib.Core.Path.{◌≡◌, refl, sym, ap, ap₂, ◌∙◌, subst}
use mathlib.Core.List.{List, ◌∷◌}
use native.Mathlib.Nat.{one-mul, zero-div, mod-lt, mul-mod_left, mod-eq_of_lt, div-eq_of_lt, lt_of_lt_of_le}
use native.Mathlib.Omega.{arith}
use lib.Bits.{bit_xor, bit_or, xor_zero_l, xor_zero_r, xor_lt, xor_block, xor_shifted}
use lib.Dec.{lit<, lit≤}
use lib.Pow.{pow_pos, pow_mono, shl_lt, shr_lt, shl-shr, shl_exact, high, low}
use Rattle.base.specs.Tab.{tab_from}
use Rattle.line.specs.Spelt.{digit}
use Rattle.line.proofs.BitLaws.{shifts_join}
use Rattle.crc.specs.Remainder.{zeros, step, after}
use Rattle.crc.specs.Fold.{Lowers}
use Rattle.crc.specs.Word.{remainder}
use Rattle.crc.proofs.Laws.{after_append, after_lt, step_lt, step_shift}
use Rattle.crc.proofs.Digits.{digits, digits_bits, digits_add, digits_low, digits_linear, digits_none}
use Rattle.crc.proofs.Order.{order_6, zeros_back, zeros_lowered}

zeros_from : (i n : ℕ) (f : ℕ → ℕ) → ((j : ℕ) → f j ≡ 0) → tab_from i n f ≡ zeros n
unfolding tab_from
zeros_from i zero f h = refl
zeros_from i (suc n) f h = ap₂ (λ (x : ℕ) (l : List ℕ). x ∷ l) (h i) (zeros_from (suc i) n f h)

digits_zero : (n : ℕ) → digits n 0 ≡ zeros n
digits_zero n = zeros_from 0 n (digit n 0) (λ j. ap (λ x. x % 2) (zero-div (2 ^ (n - 1 - j))))

module _ (w : ℕ) (wide : 2 ≤ w) where
  -- the remainder of a sum is the sum of the remainders
  pub remainder_sum : (n x y : ℕ) → remainder w n (bit_xor x y) ≡ bit_xor (remainder w n x) (remainder w n y)
  unfolding remainder
  remainder_sum n x y = digits_linear w wide 0 0 n x y (pow_pos w) (pow_pos w)

  pub remainder_lt : (n x : ℕ) → remainder w n x < 2 ^ w
  unfolding remainder
  remainder_lt n x = after_lt w wide 0 (digits n x) (pow_pos w) (digits_bits n x)

  -- m + n digits: those above the lowest n, and then these
  pub remainder_add : (m n x : ℕ) → remainder w (m + n) x ≡ after w (remainder w m (x / 2 ^ n)) (digits n x)
  unfolding remainder
  remainder_add m n x = ap (after w 0) (digits_add m n x) ∙ after_append w 0 (digits m (x / 2 ^ n)) (digits n x)

  -- n digits behind a remainder are added to it times x^n
  pub digits_behind : (r n x : ℕ) → r < 2 ^ w → after w r (digits n x) ≡ bit_xor (after w r (zeros n)) (remainder w n x)
  unfolding remainder
  digits_behind r n x h =
      ap₂ (λ y z. after w y (digits n z)) (sym (xor_zero_r r)) (sym (xor_zero_l x))
      ∙ digits_linear w wide r 0 n 0 x h (pow_pos w) ∙ ap (λ l. bit_xor (after w r l) (after w 0 (digits n x))) (digits_zero n)

  -- zeros in front are no matter
  pub remainder_wider : (m n x : ℕ) → m ≤ n → x < 2 ^ m → remainder w n x ≡ remainder w m x
  unfolding remainder
  remainder_wider m n x l h =
      let e : n - m + m ≡ n = omega arith in
      ap (λ k. remainder w k x) (sym e) ∙ remainder_add (n - m) m x
      ∙ ap (λ y. after w (remainder w (n - m) y) (digits m x)) (div-eq_of_lt h)
      ∙ ap (λ r. after w r (digits m x)) (digits_none w wide (n - m))

  -- times x^n
  pub remainder_times : (m n x : ℕ) → remainder w (m + n) (x * 2 ^ n) ≡ after w (remainder w m x) (zeros n)
  remainder_times m n x =
      remainder_add m n (x * 2 ^ n) ∙ ap (λ y. after w (remainder w m y) (digits n (x * 2 ^ n))) (shl-shr x n)
      ∙ ap (after w (remainder w m x))
      (digits_low n (x * 2 ^ n) 0 (mul-mod_left x (2 ^ n) ∙ sym (mod-eq_of_lt (pow_pos n))) ∙ digits_zero n)

  remainder_small : (n x : ℕ) → n ≤ w → x < 2 ^ n → remainder w n x ≡ x
  unfolding remainder after tab_from
  remainder_small zero x l h = omega arith
  remainder_small (suc n) x l h =
      let le : 2 ^ suc n ≤ 2 ^ w = pow_mono l in
      let e : n + 1 ≡ suc n = omega arith in
      let whole : 2 * (x / 2) + x % 2 ≡ x = omega arith in
      let last : x / 2 ^ 0 % 2 ≡ x % 2 = omega arith in
      ap (λ k. remainder w k x) (sym e) ∙ remainder_add n 1 x
      ∙ ap₂ (step w) (remainder_small n (x / 2) (omega arith) (omega arith)) last ∙ step_shift w wide (x / 2) (x % 2) (omega arith)
      ∙ whole

  -- a number below 2^w is its own
  pub remainder_own : (n x : ℕ) → w ≤ n → x < 2 ^ w → remainder w n x ≡ x
  remainder_own n x l h = remainder_wider w n x l h ∙ remainder_small w x (omega arith) h

  -- twice a number
  pub remainder_twice : (n x : ℕ) → x < 2 ^ n → remainder w (n + 1) (2 * x) ≡ step w (remainder w (n + 1) x) 0
  unfolding after
  remainder_twice n x h =
      let e : 2 * x ≡ x * 2 ^ 1 = omega arith in
      ap (remainder w (n + 1)) e ∙ remainder_times n 1 x
      ∙ ap (λ r. step w r 0) (sym (remainder_wider n (n + 1) x (omega arith) h))

  -- where x^k counts for x^j + 1
  pub lowered_same : (n k j a : ℕ) → j < k → k < n → Lowers w k j → a < 2 ^ n
      → remainder w n (bit_xor (bit_xor (a / 2 ^ k * 2 ^ j) (a / 2 ^ k)) (a % 2 ^ k)) ≡ remainder w n a
  unfolding remainder
  lowered_same n k j a jk kn low h =
      let m : ℕ = n - k in
      let x : ℕ = a / 2 ^ k in
      let R : ℕ = remainder w m x in
      let by-k : m + k ≡ n = omega arith in
      let by-j : n - j + j ≡ n = omega arith in
      let hx : x < 2 ^ m = shr_lt m k (subst (λ i. a < 2 ^ i) (sym by-k) h) in
      let first : remainder w n (x * 2 ^ j) ≡ after w R (zeros j)
      = ap (λ i. remainder w i (x * 2 ^ j)) (sym by-j) ∙ remainder_times (n - j) j x
      ∙ ap (λ r. after w r (zeros j)) (remainder_wider m (n - j) x (omega arith) hx) in
      let third : remainder w n (a % 2 ^ k) ≡ remainder w k a
      = remainder_wider k n (a % 2 ^ k) (omega arith) (mod-lt a (pow_pos k))
      ∙ ap (after w 0) (digits_low k (a % 2 ^ k) a (mod-eq_of_lt (mod-lt a (pow_pos k)))) in
      remainder_sum n (bit_xor (x * 2 ^ j) x) (a % 2 ^ k)
      ∙ ap₂ bit_xor (remainder_sum n (x * 2 ^ j) x ∙ ap₂ bit_xor first (remainder_wider m n x (omega arith) hx)) third
      ∙ sym (ap (λ i. remainder w i a) (sym by-k) ∙ remainder_add m k a ∙ digits_behind R k a (remainder_lt m x)
      ∙ ap (λ r. bit_xor r (remainder w k a)) (zeros_lowered w wide k j low R (remainder_lt m x)))

pub lowered_lt : (k j m a : ℕ) → k ≤ m + j → a / 2 ^ k < 2 ^ m
    → bit_xor (bit_xor (a / 2 ^ k * 2 ^ j) (a / 2 ^ k)) (a % 2 ^ k) < 2 ^ (m + j)
lowered_lt k j m a l h =
    let x : ℕ = a / 2 ^ k in
    let less : 2 ^ m ≤ 2 ^ (m + j) = pow_mono (omega arith) in
    let more : 2 ^ k ≤ 2 ^ (m + j) = pow_mono l in
    xor_lt (m + j) (bit_xor (x * 2 ^ j) x) (a % 2 ^ k) (xor_lt (m + j) (x * 2 ^ j) x (shl_lt m j h) (omega arith))
    (omega (arith, mod-lt a (pow_pos k)))

-- by x^6 + x + 1, x^64 counts for x
word_zeros : (r : ℕ) → r < 64 → after 6 r (zeros 64) ≡ step 6 r 0
unfolding after
word_zeros r h =
    zeros_back 6 (lit≤ tt) 63 ((order_6 63).1 refl) 6 (step 6 r 0) (lit≤ tt) (step_lt 6 (lit≤ tt) r 0 h (lit< tt))

word_behind : (r v : ℕ) → r < 64 → after 6 r (digits 64 v) ≡ bit_xor (step 6 r 0) (remainder 6 64 v)
word_behind r v h =
    digits_behind 6 (lit≤ tt) r 64 v h ∙ ap (λ x. bit_xor x (remainder 6 64 v)) (word_zeros r h)

-- two words
module _ (h l : ℕ) (hh : h < 2 ^ 63) (hl : l < 2 ^ 64) where
  abbrev z : ℕ
  z = h * 2 ^ 64 + l

  pub high_twice : bit_or (h * 2 % 2 ^ 64) (l / 2 ^ 63) ≡ 2 * h + l / 2 ^ 63
  high_twice = shifts_join h l 63 1 hl ∙ omega arith

  -- twice what they spell, and a third word added
  both_twice : (v : ℕ) → v < 2 ^ 64 → bit_or (h * 2 % 2 ^ 64) (l / 2 ^ 63) * 2 ^ 64 + bit_xor (l * 2 % 2 ^ 64) v ≡ bit_xor (2 * z) v
  both_twice v hv =
      let x : ℕ = 2 * h + l / 2 ^ 63 in
      let e : x * 2 ^ 64 + l * 2 % 2 ^ 64 ≡ 2 * z = omega arith in
      let e' : 0 * 2 ^ 64 + v ≡ v = omega arith in
      ap (λ y. y * 2 ^ 64 + bit_xor (l * 2 % 2 ^ 64) v) (high_twice ∙ sym (xor_zero_r x))
      ∙ sym (xor_block 64 x 0 (l * 2 % 2 ^ 64) v (mod-lt (l * 2) (pow_pos 64)) hv) ∙ ap₂ bit_xor e e'

  both_lt : z < 2 ^ 127
  both_lt =
      subst (λ x. x < 2 ^ 127) (xor_shifted h 64 l hl)
      (xor_lt 127 (h * 2 ^ 64) l (shl_lt 63 64 hh) (lt_of_lt_of_le hl (pow_mono {i = 64} {j = 127} (lit≤ tt))))

  pub words_behind : (v : ℕ) → v < 2 ^ 64
      → remainder 6 128 (bit_or (h * 2 % 2 ^ 64) (l / 2 ^ 63) * 2 ^ 64 + bit_xor (l * 2 % 2 ^ 64) v)
      ≡ after 6 (remainder 6 128 z) (digits 64 v)
  words_behind v hv =
      ap (remainder 6 128) (both_twice v hv) ∙ remainder_sum 6 (lit≤ tt) 128 (2 * z) v
      ∙ ap₂ bit_xor (remainder_twice 6 (lit≤ tt) 127 z both_lt) (remainder_wider 6 (lit≤ tt) 64 128 v (lit≤ tt) hv)
      ∙ sym (word_behind (remainder 6 128 z) v (remainder_lt 6 (lit≤ tt) 128 z))

  -- made one
  pub words_narrowed : remainder 6 64 (bit_xor (h * 2 % 2 ^ 64) l) ≡ remainder 6 128 z
  words_narrowed =
      let e : h * 2 % 2 ^ 64 ≡ 2 * h = omega arith in
      remainder_sum 6 (lit≤ tt) 64 (h * 2 % 2 ^ 64) l
      ∙ ap (λ x. bit_xor x (remainder 6 64 l)) (ap (remainder 6 64) e ∙ remainder_twice 6 (lit≤ tt) 63 h hh)
      ∙ sym (word_behind (remainder 6 64 h) l (remainder_lt 6 (lit≤ tt) 64 h))
      ∙ sym (remainder_add 6 (lit≤ tt) 64 64 z ∙ ap₂ (λ x y. after 6 (remainder 6 64 x) y) (high h 64 hl) (digits_low 64 z l (low h 64 hl ∙ sym (mod-eq_of_lt hl))))

pub one_moved : (k : ℕ) → k < 64 → 1 * 2 ^ k % 2 ^ 64 ≡ 2 ^ k
one_moved k h = shl_exact {a = 1} 1 k 64 (lit< tt) (omega arith) ∙ one-mul (2 ^ k)

-- within a word nothing is moved out
pub lowered_word : (a k j : ℕ) → j < k → k < 64 → a < 2 ^ 64
    → bit_xor (bit_xor (a / 2 ^ k * 2 ^ j % 2 ^ 64) (a / 2 ^ k)) (a % (1 * 2 ^ k % 2 ^ 64))
    ≡ bit_xor (bit_xor (a / 2 ^ k * 2 ^ j) (a / 2 ^ k)) (a % 2 ^ k)
lowered_word a k j jk k64 h =
    let e : 64 - k + k ≡ 64 = omega arith in
    ap₂ (λ x y. bit_xor (bit_xor x (a / 2 ^ k)) (a % y))
    (shl_exact {a = a / 2 ^ k} (64 - k) j 64 (shr_lt (64 - k) k (subst (λ i. a < 2 ^ i) (sym e) h)) (omega arith))
    (one_moved k k64)

-- the six zeros behind a block
pub six_zeros : (r : ℕ) → r < 64 → remainder 6 64 (bit_xor (r * 2 % 2 ^ 64) r) ≡ after 6 r (zeros 6)
unfolding after step
six_zeros r h =
    let own : remainder 6 64 r ≡ r = remainder_own 6 (lit≤ tt) 64 r (lit≤ tt) h in
    let e : r * 2 % 2 ^ 64 ≡ 2 * r = omega arith in
    remainder_sum 6 (lit≤ tt) 64 (r * 2 % 2 ^ 64) r
    ∙ ap₂ bit_xor (ap (remainder 6 64) e ∙ remainder_twice 6 (lit≤ tt) 63 r (omega arith) ∙ ap (λ x. step 6 x 0) own) own
    ∙ sym (zeros_lowered 6 (lit≤ tt) 6 1 refl r h)
