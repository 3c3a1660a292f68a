-- The laws of numbers that bits spell.
use Prim.Native.Nat.{ℕ, zero, suc, ◌+◌, ◌-◌, ◌*◌, ◌/◌, ◌%◌, ◌^◌, ◌<◌}
use mathlib.Core.Path.{◌≡◌, refl, sym, ap, ◌∙◌}
use native.Mathlib.Nat.{add-zero, add-suc, pow-suc, mul_assoc, div-eq_of_lt, eq-or-lt_of_le, le_of_suc-le-suc}
use native.Mathlib.Numerals.{add-one}
use native.Mathlib.Omega.{arith}
use mathlib.Core.Logic.{inl, inr}
use lib.Pow.{high, shr-shr}
use Rattle.line.specs.Spelt.{spelt, digit}

-- every value is 0 or 1
abbrev pub Binary : (ℕ → ℕ) → Type 0
Binary f = (i : ℕ) → f i < 2

pub spelt_lt : (n : ℕ) (f : ℕ → ℕ) → Binary f → spelt n f < 2 ^ n
unfolding spelt
spelt_lt zero f h = omega arith
spelt_lt (suc n) f h = rw pow-suc (omega (arith, spelt_lt n f h, h n))

pub spelt_agree : (n : ℕ) (f g : ℕ → ℕ) → ((i : ℕ) → i < n → f i ≡ g i) → spelt n f ≡ spelt n g
unfolding spelt
spelt_agree zero f g h = refl
spelt_agree (suc n) f g h = rw (spelt_agree n f g (λ i l. h i (omega arith)), h n (omega arith))

-- equal numbers have equal bits
pub spelt_same : (n : ℕ) (f g : ℕ → ℕ) → Binary f → Binary g → spelt n f ≡ spelt n g → (i : ℕ) → i < n → f i ≡ g i
unfolding spelt
spelt_same zero f g hf hg e i l = absurd (omega arith)
spelt_same (suc n) f g hf hg e i l =
    elim (eq-or-lt_of_le (le_of_suc-le-suc l)) [
      | inl q ↦ rw q (omega (arith, hf n, hg n))
      | inr k ↦ spelt_same n f g hf hg (omega (arith, hf n, hg n)) i k
    ]

-- n + m bits: the first n, and then m
pub spelt_add : (n m : ℕ) (f : ℕ → ℕ) → spelt (n + m) f ≡ spelt n f * 2 ^ m + spelt m (λ i. f (n + i))
unfolding spelt
spelt_add n zero f = rw (add-zero n) (omega arith)
spelt_add n (suc m) f = rw (add-suc n m, spelt_add n m f, pow-suc 2 m) (omega (arith, mul_assoc (spelt n f) (2 ^ m) 2))

pub spelt_more : (n : ℕ) (f : ℕ → ℕ) → spelt (n + 1) f ≡ 2 * spelt n f + f n
unfolding spelt
spelt_more n f = rw add-one

-- a bit of the number
pub spelt_bit : (j m : ℕ) (f : ℕ → ℕ) → Binary f → spelt (j + 1 + m) f / 2 ^ m % 2 ≡ f j
spelt_bit j m f h =
    rw (spelt_add (j + 1) m f, high (spelt (j + 1) f) m (spelt_lt m (λ i. f (j + 1 + i)) (λ i. h (j + 1 + i))), spelt_more j f)
    (omega (arith, h j))

pub digit_spelt : (n j : ℕ) (f : ℕ → ℕ) → Binary f → j < n → digit n (spelt n f) j ≡ f j
digit_spelt n j f h l =
    let e : j + 1 + (n - 1 - j) ≡ n = omega arith in
    ap (λ x. spelt x f / 2 ^ (n - 1 - j) % 2) (sym e) ∙ spelt_bit j (n - 1 - j) f h

-- the number that its digits spell
pub spelt_digits : (n k : ℕ) → k < 2 ^ n → spelt n (digit n k) ≡ k
unfolding spelt
spelt_digits n k h = go n 0 (omega arith) ∙ omega arith
  where
    go : (m r : ℕ) → m + r ≡ n → spelt m (digit n k) ≡ k / 2 ^ r
    go zero r e = let q : r ≡ n = omega arith in sym (rw q (div-eq_of_lt h))
    go (suc m) r e =
        let d : n - 1 - m ≡ r = omega arith in
        rw (go m (r + 1) (omega arith), d, ← shr-shr k r 1) (omega arith)
