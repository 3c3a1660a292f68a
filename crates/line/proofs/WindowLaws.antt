-- One bit of a number through shifts, `&`, `|` and `!`, turned, and behind the zeros in front.
use Prim.Native.Nat.{ℕ, zero, suc, ◌+◌, ◌-◌, ◌*◌, ◌/◌, ◌%◌, ◌^◌, ◌<◌}
use mathlib.Core.Path.{◌≡◌, refl, sym, ap, ap₂, ◌∙◌}
use mathlib.Core.List.{List}
use native.Mathlib.Nat.{add_comm, pow-suc, div-one, zero-div, div-eq_of_lt}
use native.Mathlib.Decide.{dec_lt}
use native.Mathlib.Omega.{arith}
use lib.Bits.{bit_and, bit_or, and_shr, and_mod, or_shr, or_mod, or_comm}
use lib.Count.{count_leading_zeros, leading_length}
use lib.Pow.{pow_mono, pow-add, shl-shr, shr-shr, mod-mod-pow}
use lib.Pow as pow
use Rattle.line.specs.Bit.{field, bit_at}
use Rattle.line.proofs.BitLaws.{field_within, bit_of_field}
use Rattle.line.specs.Window.{turned, bit_of, One}

-- bit n of what is shifted by k is bit n + k
pub shifted_bit : (x n k : ℕ) → bit_of (x / 2 ^ k) n ≡ bit_of x (n + k)
shifted_bit x n k = ap (λ a. a % 2) (shr-shr x k n) ∙ ap (bit_of x) (add_comm k n)

pub and_one : (x y n : ℕ) → One x n → One y n → One (bit_and x y) n
and_one x y n h g = ap (λ a. a % 2) (and_shr x y n) ∙ and_mod (x / 2 ^ n) (y / 2 ^ n) 1 ∙ ap₂ bit_and h g

pub or_one_l : (x y n : ℕ) → One x n → One (bit_or x y) n
or_one_l x y n h =
    ap (λ a. a % 2) (or_shr x y n) ∙ or_mod (x / 2 ^ n) (y / 2 ^ n) 1 ∙ ap (λ a. bit_or a (y / 2 ^ n % 2)) h
    ∙ one (y / 2 ^ n % 2) (omega arith)
  where
    one : (b : ℕ) → b < 2 → bit_or 1 b ≡ 1
    one zero h = refl
    one (suc zero) h = refl
    one (suc (suc b)) h = absurd (omega arith)

pub or_zero : (x y n : ℕ) → bit_of x n ≡ 0 → bit_of y n ≡ 0 → bit_of (bit_or x y) n ≡ 0
or_zero x y n h g = ap (λ a. a % 2) (or_shr x y n) ∙ or_mod (x / 2 ^ n) (y / 2 ^ n) 1 ∙ ap₂ bit_or h g

pub or_one_r : (x y n : ℕ) → One y n → One (bit_or x y) n
or_one_r x y n h = rw (or_comm x y) (or_one_l y x n h)

halved : (x n : ℕ) → x / 2 ^ suc n ≡ x / 2 / 2 ^ n
halved x n = ap (λ j. x / 2 ^ j) (omega arith) ∙ sym (shr-shr x 1 n)

-- `!x` of m bits: all of them 1, less x
pub not_one : (x n m : ℕ) → x < 2 ^ m → n < m → bit_of x n ≡ 0 → One (2 ^ m - 1 - x) n
not_one x n zero h g e = absurd (omega arith)
not_one x zero (suc m) h g e =
    let l : x < 2 ^ m * 2 = rw pow-suc at h in
    rw (pow-suc 2 m, div-one) (omega (arith, div-one x))
not_one x (suc n) (suc m) h g e =
    let l : x < 2 ^ m * 2 = rw pow-suc at h in
    let half : (2 ^ m * 2 - 1 - x) / 2 ≡ 2 ^ m - 1 - x / 2 = omega arith in
    rw (pow-suc 2 m, halved (2 ^ m * 2 - 1 - x) n, half)
    (not_one (x / 2) n m (omega arith) (omega arith) (rw (halved x n) at e))

-- no bit of 0 is 1
pub zero_none : (n : ℕ) → One 0 n → ⊥
zero_none n h = let e : 0 / 2 ^ n ≡ 0 = zero-div (2 ^ n) in omega arith

-- bit k is bit k of the lowest bits
pub low_bit : (x j k : ℕ) → bit_of x k ≡ bit_of (x % 2 ^ (j + 1 + k)) k
low_bit x j k = sym (ap (λ a. a % 2) (pow.field x (j + 1) k) ∙ mod-mod-pow (x / 2 ^ k) j 1)

-- `x << k` of m bits: bit n goes to n + k
pub moved_bit : (x n k m : ℕ) → n + k < m → bit_of (x * 2 ^ k % 2 ^ m) (n + k) ≡ bit_of x n
moved_bit x n k m h =
    let e : m - (n + k) - 1 + 1 + (n + k) ≡ m = omega arith in
    ap (λ j. bit_of (x * 2 ^ k % 2 ^ j) (n + k)) (sym e)
    ∙ sym (low_bit (x * 2 ^ k) (m - (n + k) - 1) (n + k))
    ∙ sym (shifted_bit (x * 2 ^ k) n k)
    ∙ ap (λ a. bit_of a n) (shl-shr x k)

pub moved_one : (x n k l m : ℕ) → n + k ≡ l → l < m → One x n → One (x * 2 ^ k % 2 ^ m) l
moved_one x n k l m e h o = rw (← e) (moved_bit x n k m (omega arith) ∙ o)

pub pow_256 : (m : ℕ) → 256 ^ m ≡ 2 ^ (8 * m)
pow_256 zero = refl
pow_256 (suc m) =
    let e : 8 * suc m ≡ 8 * m + 8 = omega arith in
    pow-suc 256 m ∙ ap (λ a. a * 256) (pow_256 m) ∙ sym (ap (λ a. 2 ^ a) e ∙ pow-add 2 (8 * m) 8)

-- turned, octet a of m comes to lie where m - 1 - a was
turned_bit : (m x a b : ℕ) → a < m → b < 8 → bit_of (turned m x) (8 * a + b) ≡ bit_of x (8 * (m - 1 - a) + b)
unfolding turned
turned_bit zero x a b h g = absurd (omega arith)
turned_bit (suc m) x zero b h g =
    let w = 256 * turned m x + x / 256 ^ m % 256 in
    let j : 7 - b + 1 + b ≡ 8 = omega arith in
    let low : w % 256 ≡ x / 256 ^ m % 256 = omega arith in
    let in-octet : (y : ℕ) → bit_of y b ≡ bit_of (y % 256) b
    = λ y. low_bit y (7 - b) b ∙ ap (λ k. bit_of (y % 2 ^ k) b) j in
    let z : 8 * zero + b ≡ b = omega arith in
    let e : 8 * m + b ≡ 8 * (suc m - 1 - zero) + b = omega arith in
    ap (bit_of w) z ∙ in-octet w ∙ ap (λ y. bit_of y b) low ∙ sym (in-octet (x / 256 ^ m))
    ∙ ap (λ k. bit_of (x / k) b) (pow_256 m) ∙ ap (λ y. y % 2) (shr-shr x (8 * m) b) ∙ ap (bit_of x) e
turned_bit (suc m) x (suc a) b h g =
    let w = 256 * turned m x + x / 256 ^ m % 256 in
    let up : w / 2 ^ 8 ≡ turned m x = omega arith in
    let z : 8 * suc a + b ≡ 8 * a + b + 8 = omega arith in
    let e : 8 * (m - 1 - a) + b ≡ 8 * (suc m - 1 - suc a) + b = omega arith in
    ap (bit_of w) z ∙ sym (shifted_bit w (8 * a + b) 8) ∙ ap (λ y. bit_of y (8 * a + b)) up
    ∙ turned_bit m x a b (omega arith) g ∙ ap (bit_of x) e

-- of eight octets: where the bit n comes from
abbrev pub unturned : ℕ → ℕ
unturned n = 8 * (7 - n / 8) + n % 8

pub turned_at : (x n : ℕ) → n < 64 → bit_of (turned 8 x) n ≡ bit_of x (unturned n)
turned_at x n h =
    let e : 8 * (n / 8) + n % 8 ≡ n = omega arith in
    ap (bit_of (turned 8 x)) (sym e) ∙ turned_bit 8 x (n / 8) (n % 8) (omega arith) (omega arith)

pub turned_one : (x y n : ℕ) → n < 64 → One (turned 8 x) n → One (turned 8 y) n → One (turned 8 (bit_and x y)) n
turned_one x y n h a b =
    turned_at (bit_and x y) n h ∙ and_one x y (unturned n) (sym (turned_at x n h) ∙ a) (sym (turned_at y n h) ∙ b)

pub turned_zero : (x y n : ℕ) → n < 64 → bit_of (turned 8 x) n ≡ 0 → bit_of (turned 8 y) n ≡ 0
    → bit_of (turned 8 (bit_or x y)) n ≡ 0
turned_zero x y n h a b =
    turned_at (bit_or x y) n h ∙ or_zero x y (unturned n) (sym (turned_at x n h) ∙ a) (sym (turned_at y n h) ∙ b)

-- before a bit that is 1 there are no more zeros than bits
pub leading_one : (m x n : ℕ) → x < 2 ^ m → One x n → count_leading_zeros m x + n < m
leading_one m x n h e =
    let l = leading_length m x h in
    elim (dec_lt n l.0) [
      | yes g ↦ omega (arith, l.1)
      | no g ↦
          let small : x < 2 ^ n = omega (arith, l.2, pow_mono {i = l.0} {j = n} (omega arith)) in
          let z : x / 2 ^ n ≡ 0 = div-eq_of_lt small in
          omega arith
    ]

-- in the window x at p: the n bits at p + a, which have m behind them
pub field_at : (s : List ℕ) (p a n m x : ℕ) → x ≡ field s p 64 → a + n + m ≡ 64 → x / 2 ^ m % 2 ^ n ≡ field s (p + a) n
field_at s p a n m x e h = ap (λ y. y / 2 ^ m % 2 ^ n) (e ∙ ap (field s p) (sym h)) ∙ field_within s p a n m

pub bit_at_lem : (s : List ℕ) (p a m x : ℕ) → x ≡ field s p 64 → a + 1 + m ≡ 64 → bit_of x m ≡ bit_at s (p + a)
bit_at_lem s p a m x e h = ap (λ y. bit_of y m) (e ∙ ap (field s p) (sym h)) ∙ bit_of_field s p a m
