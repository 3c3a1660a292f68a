-- The binary digits of a number as bits, the highest first, and remainders of them, over the width w from 2 on.
use Prim.Native.Nat.{ℕ, zero, suc, ◌+◌, ◌-◌, ◌/◌, ◌%◌, ◌^◌, ◌≤◌, ◌<◌}
use mathlib.Core.Path.{◌≡◌, refl, sym, ap, ap₂, ◌∙◌}
use mathlib.Core.List.{List, ◌∷◌, ◌++◌}
use native.Mathlib.Nat.{mod-lt, zero-lt-suc}
use native.Mathlib.Omega.{arith}
use lib.Bits.{bit_xor, xor_shr, xor_mod, xor_self}
use lib.Pow.{pow_pos, shr-shr}
use Rattle.base.specs.Tab.{tab, tab_from}
use Rattle.base.proofs.TabLaws.{length_tab, tab_agree, tab_split}
use Rattle.line.specs.Spelt.{digit}
use Rattle.line.proofs.SpeltLaws.{Binary}
use Rattle.line.proofs.WindowLaws.{low_bit}
use Rattle.crc.specs.Remainder.{Bits, after}
use Rattle.crc.proofs.Laws.{plus, tab_bits, after_linear}

-- the n lowest digits of x
abbrev pub digits : ℕ → ℕ → List ℕ
digits n x = tab n (digit n x)

digit_lt : (n x : ℕ) → Binary (digit n x)
digit_lt n x i = mod-lt (x / 2 ^ (n - 1 - i)) (zero-lt-suc 1)

pub digits_bits : (n x : ℕ) → Bits (digits n x)
digits_bits n x = tab_bits n (digit n x) (digit_lt n x)

-- m + n digits: those above the lowest n, and then these
pub digits_add : (m n x : ℕ) → digits (m + n) x ≡ digits m (x / 2 ^ n) ++ digits n x
digits_add m n x =
    tab_split m n (digit (m + n) x)
    ∙ ap₂ (λ (a b : List ℕ). a ++ b)
    (tab_agree m (digit (m + n) x) (digit m (x / 2 ^ n))
    (λ i h. let e : n + (m - 1 - i) ≡ m + n - 1 - i = omega arith in
    ap (λ k. x / 2 ^ k % 2) (sym e) ∙ ap (λ y. y % 2) (sym (shr-shr x n (m - 1 - i)))))
    (tab_agree n (λ i. digit (m + n) x (m + i)) (digit n x)
    (λ i h. let e : m + n - 1 - (m + i) ≡ n - 1 - i = omega arith in ap (λ k. x / 2 ^ k % 2) e))

-- digits above the n lowest are no matter
pub digits_low : (n x y : ℕ) → x % 2 ^ n ≡ y % 2 ^ n → digits n x ≡ digits n y
digits_low n x y e = tab_agree n (digit n x) (digit n y) (λ i h. low i h x ∙ ap (λ z. digit n z i) e ∙ sym (low i h y))
  where
    low : (i : ℕ) → i < n → (z : ℕ) → digit n z i ≡ digit n (z % 2 ^ n) i
    low i h z =
        let k : i + 1 + (n - 1 - i) ≡ n = omega arith in low_bit z i (n - 1 - i) ∙ ap (λ j. digit n (z % 2 ^ j) i) k

digit_xor : (n x y i : ℕ) → digit n (bit_xor x y) i ≡ bit_xor (digit n x i) (digit n y i)
digit_xor n x y i =
    let k = n - 1 - i in ap (λ z. z % 2) (xor_shr x y k) ∙ xor_mod (x / 2 ^ k) (y / 2 ^ k) 1

plus_tabs : (i n : ℕ) (f g : ℕ → ℕ) → plus (tab_from i n f) (tab_from i n g) ≡ tab_from i n (λ j. bit_xor (f j) (g j))
unfolding plus tab_from
plus_tabs i zero f g = refl
plus_tabs i (suc n) f g = ap (λ (l : List ℕ). bit_xor (f i) (g i) ∷ l) (plus_tabs (suc i) n f g)

module _ (w : ℕ) (wide : 2 ≤ w) where
  -- the remainder of a sum is the sum of the remainders
  pub tabs_linear : (r s n : ℕ) (f g : ℕ → ℕ) → r < 2 ^ w → s < 2 ^ w → Binary f → Binary g
      → after w (bit_xor r s) (tab n (λ i. bit_xor (f i) (g i))) ≡ bit_xor (after w r (tab n f)) (after w s (tab n g))
  tabs_linear r s n f g hr hs hf hg =
      ap (after w (bit_xor r s)) (sym (plus_tabs 0 n f g))
      ∙ after_linear w wide r s (tab n f) (tab n g) hr hs (tab_bits n f hf) (tab_bits n g hg)
      (length_tab n f ∙ sym (length_tab n g))

  pub digits_linear : (r s n x y : ℕ) → r < 2 ^ w → s < 2 ^ w
      → after w (bit_xor r s) (digits n (bit_xor x y)) ≡ bit_xor (after w r (digits n x)) (after w s (digits n y))
  digits_linear r s n x y hr hs =
      ap (after w (bit_xor r s))
      (tab_agree n (digit n (bit_xor x y)) (λ i. bit_xor (digit n x i) (digit n y i)) (λ i h. digit_xor n x y i))
      ∙ tabs_linear r s n (digit n x) (digit n y) hr hs (digit_lt n x) (digit_lt n y)

  pub digits_none : (n : ℕ) → after w 0 (digits n 0) ≡ 0
  digits_none n = digits_linear 0 0 n 0 0 (pow_pos w) (pow_pos w) ∙ xor_self (after w 0 (digits n 0))
