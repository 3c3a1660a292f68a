-- One bit of an exclusive or, of an or and of what `!` gives.
use Rattle.std.specs.Prelude.{if◌then◌else◌}
use Prim.Native.Nat.{ℕ, zero, suc, ◌+◌, ◌-◌, ◌*◌, ◌/◌, ◌%◌, ◌^◌, ◌≤◌, ◌<◌}
use mathlib.Core.Path.{◌≡◌, sym, ap, ◌∙◌}
use native.Mathlib.Nat.{pow-suc, mul_assoc, div-one, div-eq_of_lt}
use native.Mathlib.Numerals.{add-one}
use native.Mathlib.Omega.{arith}
use borrow.Author.Tests.{ne_eqb}
use lib.Bits.{bit_xor, bit_or, xor_shr, xor_mod, or_shr, or_mod, or_add_and, and_le_l, and_le_r}
use lib.Dec.{eqb, lit<, lit≤}
use lib.Pow.{pow_mono, pow-add, shl-shr}
use Rattle.line.specs.Window.{bit_of}
use Rattle.line.proofs.WindowLaws.{shifted_bit, low_bit}

pub xor_bits : (x y n : ℕ) → bit_of (bit_xor x y) n ≡ bit_xor (bit_of x n) (bit_of y n)
xor_bits x y n = ap (λ z. z % 2) (xor_shr x y n) ∙ xor_mod (x / 2 ^ n) (y / 2 ^ n) 1

pub or_bits : (x y n : ℕ) → bit_of (bit_or x y) n ≡ bit_or (bit_of x n) (bit_of y n)
or_bits x y n = ap (λ z. z % 2) (or_shr x y n) ∙ or_mod (x / 2 ^ n) (y / 2 ^ n) 1

pub or_none : (x y : ℕ) → bit_or x y ≡ 0 → (x ≡ 0) × (y ≡ 0)
or_none x y e =
    let s = or_add_and x y in
    let l = and_le_l x y in
    let r = and_le_r x y in
    (omega arith, omega arith)

-- `!x` of m bits: all of them 1, less x
pub not_bit : (x n m : ℕ) → x < 2 ^ m → n < m → bit_of (2 ^ m - 1 - x) n ≡ 1 - bit_of x n
not_bit x n zero h g = absurd (omega arith)
not_bit x zero (suc m) h g =
    let l : x < 2 ^ m * 2 = rw pow-suc at h in
    rw (pow-suc 2 m, div-one) (omega (arith, div-one x))
not_bit x (suc n) (suc m) h g =
    let l : x < 2 ^ m * 2 = rw pow-suc at h in
    let y : ℕ = 2 ^ suc m - 1 - x in
    let half : y / 2 ≡ 2 ^ m - 1 - x / 2 = rw (pow-suc 2 m) (omega arith) in
    ap (bit_of y) (sym (add-one n)) ∙ sym (shifted_bit y n 1) ∙ ap (λ z. bit_of z n) half
    ∙ not_bit (x / 2) n m (omega arith) (omega arith)
    ∙ ap (λ b. 1 - b) (shifted_bit x n 1 ∙ ap (bit_of x) (add-one n))

-- a number of m bits has none from m on
pub no_bit : (x m n : ℕ) → x < 2 ^ m → m ≤ n → bit_of x n ≡ 0
no_bit x m n h l =
    let lt : x < 2 ^ n = omega (arith, pow_mono {i = m} {j = n} l) in ap (λ z. z % 2) (div-eq_of_lt lt)

-- `x << k` of 64 bits: those above, and those that come in
pub shl_bit : (x k n : ℕ) → k ≤ n → n < 64 → bit_of (x * 2 ^ k % 2 ^ 64) n ≡ bit_of x (n - k)
shl_bit x k n h l =
    let e : 63 - n + 1 + n ≡ 64 = omega arith in
    let f : n - k + k ≡ n = omega arith in
    ap (λ j. bit_of (x * 2 ^ k % 2 ^ j) n) (sym e) ∙ sym (low_bit (x * 2 ^ k) (63 - n) n) ∙ ap (bit_of (x * 2 ^ k)) (sym f)
    ∙ sym (shifted_bit (x * 2 ^ k) (n - k) k) ∙ ap (λ y. bit_of y (n - k)) (shl-shr x k)

pub shl_none : (x k n : ℕ) → n < k → n < 64 → bit_of (x * 2 ^ k % 2 ^ 64) n ≡ 0
shl_none x k n h l =
    let e : 63 - n + 1 + n ≡ 64 = omega arith in
    let f : k - n - 1 + 1 + n ≡ k = omega arith in
    let j : ℕ = k - n - 1 in
    let y : ℕ = x * 2 ^ j in
    let parts : x * 2 ^ k ≡ y * 2 * 2 ^ n
    = ap (λ m. x * 2 ^ m) (sym f) ∙ ap (λ z. x * z) (pow-add 2 (j + 1) n ∙ ap (λ z. z * 2 ^ n) (pow-add 2 j 1))
    ∙ sym (mul_assoc x (2 ^ j * 2) (2 ^ n)) ∙ ap (λ z. z * 2 ^ n) (sym (mul_assoc x (2 ^ j) 2)) in
    ap (λ m. bit_of (x * 2 ^ k % 2 ^ m) n) (sym e) ∙ sym (low_bit (x * 2 ^ k) (63 - n) n)
    ∙ ap (λ z. z % 2) (ap (λ z. z / 2 ^ n) parts ∙ shl-shr (y * 2) n) ∙ omega arith

-- a bit as the highest
pub top_bit : (b o : ℕ) → b < 2 → o < 56 → bit_of (b * 2 ^ 63 % 2 ^ 64) (63 - o) ≡ (if eqb o 0 then b else 0)
top_bit b zero h l = shl_bit b 63 63 (lit≤ tt) (lit< tt) ∙ rw (div-one b) (omega arith)
top_bit b (suc o) h l =
    rw (ne_eqb (suc o) 0 (λ e. omega arith)) (shl_none b 63 (63 - suc o) (omega arith) (omega arith))
