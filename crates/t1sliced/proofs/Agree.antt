-- Where six words have the bits of a number, and six others the bits that spell another, the numbers are one exactly
-- where all six pairs agree.
use Prim.Native.Nat.{ℕ, zero, suc, ◌+◌, ◌-◌, ◌*◌, ◌%◌, ◌^◌, ◌<◌}
use mathlib.Core.Path.{◌≡◌, sym, ap, ap₂, ◌∙◌}
use mathlib.Core.List.{List}
use mathlib.Core.Logic.{◌↔◌, inl, inr}
use native.Mathlib.Nat.{zero-div, eq-or-lt_of_le, le_of_suc-le-suc}
use native.Mathlib.Omega.{arith}
use lib.Bits.{bit_xor, bit_or, xor_self}
use lib.ListN.{get_or}
use Rattle.line.specs.Bit.{bit_at}
use Rattle.line.specs.Spelt.{spelt, digit}
use Rattle.line.specs.Window.{bit_of}
use Rattle.line.proofs.BitLaws.{bit_lt}
use Rattle.line.proofs.SpeltLaws.{Binary, spelt_agree, spelt_digits, digit_spelt}
use Rattle.crc.proofs.Xor.{xor_eq}
use Rattle.t1.specs.Superframe.{super_check, carried}
use Rattle.t1.proofs.Laws.{check_of_lt}
use Rattle.t1sliced.specs.Sliced.{Exactly, AgreesAt, Sliced, BitsFrom, Complement}
use Rattle.t1sliced.proofs.Bitwise.{xor_bits, or_bits, or_none}

-- f 0 to f (n - 1), joined by |
unfoldable pub ors : ℕ → (ℕ → ℕ) → ℕ
ors zero f = 0
ors (suc n) f = bit_or (ors n f) (f n)

ors_none : (n : ℕ) (f : ℕ → ℕ) (k : ℕ) → bit_of (ors n f) k ≡ 0 ↔ ((i : ℕ) → i < n → bit_of (f i) k ≡ 0)
unfolding ors
ors_none zero f k = (λ e i h. absurd (omega arith), λ e. ap (λ x. x % 2) (zero-div (2 ^ k)))
ors_none (suc n) f k =
    let both = or_bits (ors n f) (f n) k in (
      λ e i h.
          let none = or_none (bit_of (ors n f) k) (bit_of (f n) k) (sym both ∙ e) in
          elim (eq-or-lt_of_le (le_of_suc-le-suc h)) [
            | inl q ↦ rw q none.1
            | inr l ↦ (ors_none n f k).0 none.0 i l
          ],
      λ e. both ∙ ap₂ bit_or ((ors_none n f k).1 (λ i h. e i (omega arith))) (e n (omega arith)),
    )

-- what six bits spell is a number exactly where they are its digits
digits_same : (k : ℕ) (g : ℕ → ℕ) → k < 64 → Binary g → (k ≡ spelt 6 g) ↔ ((i : ℕ) → i < 6 → digit 6 k i ≡ g i)
digits_same k g h hg = (
  λ e i l. ap (λ x. digit 6 x i) e ∙ digit_spelt 6 i g hg l,
  λ e. sym (spelt_digits 6 k h) ∙ spelt_agree 6 (digit 6 k) g e,
)

bits_same : (x y n : ℕ) → bit_of (bit_xor x y) n ≡ 0 ↔ (bit_of x n ≡ bit_of y n)
bits_same x y n = (
  λ e. xor_eq (bit_of x n) (bit_of y n) (sym (xor_bits x y n) ∙ e),
  λ e. xor_bits x y n ∙ ap (λ b. bit_xor b (bit_of y n)) e ∙ xor_self (bit_of y n),
)

-- word 5 - i of the checks is held to the framing bits of C(i + 1)
module _ (s check carrying : List ℕ) (own : Sliced (super_check s) check)
    (next : (i : ℕ) → i < 6 → BitsFrom s (4825 + 772 * i) (get_or carrying i 0)) where
  abbrev differing : ℕ → ℕ
  differing i = bit_xor (get_or check (5 - i) 0) (get_or carrying i 0)

  abbrev carried_bit : ℕ → ℕ → ℕ
  carried_bit o i = bit_at s (o + 4632 + 193 * (4 * i + 1))

  next_bit : (o i : ℕ) → o < 56 → i < 6 → bit_of (get_or carrying i 0) (63 - o) ≡ carried_bit o i
  next_bit o i h l =
      let e : o + (4825 + 772 * i) ≡ o + 4632 + 193 * (4 * i + 1) = omega arith in next i l o h ∙ ap (bit_at s) e

  all_agree : (o : ℕ) → o < 56 → bit_of (ors 6 differing) (63 - o) ≡ 0 ↔ AgreesAt s o
  unfolding carried
  all_agree o h =
      let same = digits_same (super_check s o) (carried_bit o) (check_of_lt (λ i. bit_at s (o + i)) (λ i. bit_lt s (o + i))) (λ i. bit_lt s (o + 4632 + 193 * (4 * i + 1))) in
      let none = ors_none 6 differing (63 - o) in
      let each : (i : ℕ) → bit_of (differing i) (63 - o) ≡ 0 ↔ (bit_of (get_or check (5 - i) 0) (63 - o) ≡ bit_of (get_or carrying i 0) (63 - o))
      = λ i. bits_same (get_or check (5 - i) 0) (get_or carrying i 0) (63 - o) in (
        λ e. same.1 (λ i l. sym (own o h (5 - i) (omega arith)) ∙ (each i).0 (none.0 e i l) ∙ next_bit o i h l),
        λ e. none.1 (λ i l. (each i).1 (own o h (5 - i) (omega arith) ∙ same.0 e i l ∙ sym (next_bit o i h l))),
      )

  pub agree_exactly : (r : ℕ) → Complement (ors 6 differing) r → Exactly (AgreesAt s) r
  agree_exactly r over o h =
      let e = over (63 - o) (omega arith) in
      (λ one. (all_agree o h).0 (omega arith), λ agree. e ∙ ap (λ b. 1 - b) ((all_agree o h).1 agree))
