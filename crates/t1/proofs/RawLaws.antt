-- The remainder of a superframe from its rows, and from that of the superframe some bits before.
use Prim.Native.Nat.{ℕ, ◌+◌, ◌-◌, ◌*◌, ◌/◌, ◌%◌, ◌^◌, ◌≤◌, ◌<◌}
use mathlib.Core.Path.{◌≡◌, refl, sym, ap, ap₂, ◌∙◌, subst}
use mathlib.Core.List.{List}
use native.Mathlib.Nat.{add_assoc, zero-add, div-one}
use native.Mathlib.Omega.{arith}
use lib.Bits.{bit_xor, xor_comm}
use lib.Dec.{lit≤}
use lib.ListN.{length}
use lib.Pow.{high, low, shl_exact}
use Rattle.base.specs.Tab.{tab}
use Rattle.base.proofs.TabLaws.{length_tab, tab_agree, tab_split}
use Rattle.line.specs.Bit.{bit_at, field}
use Rattle.line.proofs.BitLaws.{bit_lt, field_lt, field_add, field_within, field_digits}
use Rattle.crc.specs.Remainder.{zeros, after}
use Rattle.crc.specs.Fold.{xors}
use Rattle.crc.specs.Word.{remainder}
use Rattle.crc.proofs.Xor.{xor_assoc}
use Rattle.crc.proofs.Laws.{tab_bits, after_append}
use Rattle.crc.proofs.Digits.{digits, digits_low}
use Rattle.crc.proofs.Order.{order_6, bits_add}
use Rattle.crc.proofs.FoldLaws.{fold_rows, xors_ext, xors_lt, xors_field, xors_parts}
use Rattle.crc.proofs.WordLaws.{remainder_sum, remainder_add, remainder_wider, remainder_times, remainder_own, digits_behind}
use Rattle.t1.specs.Raw.{raw}
use Rattle.t1.proofs.Powers.{zeros_33}
use Rattle.t1.proofs.Slides.{tab_lt, raw_slides}

module _ (s : List ℕ) where
  -- the first n bits of row r, as a number
  abbrev row_start : ℕ → ℕ → ℕ
  row_start n r = field s (96 + 504 * r) n

  -- those of all rows, added up
  abbrev pub row_sum : ℕ → ℕ
  row_sum n = xors 9 (row_start n)

  rows_lt : (n : ℕ) → row_sum n < 2 ^ n
  rows_lt n = xors_lt n 9 (row_start n) (λ r. field_lt s (96 + 504 * r) n)

  -- 56 of them stand in the windows that begin an octet early
  pub rows_begin : (x : ℕ) → x ≡ xors 9 (λ r. field s (8 * (11 + 63 * r)) 64)
      → remainder 6 128 (0 * 2 ^ 64 + x % 2 ^ 56) ≡ remainder 6 56 (row_sum 56)
  rows_begin x e =
      let one : (r : ℕ) → field s (8 * (11 + 63 * r)) 64 / 2 ^ 0 % 2 ^ 56 ≡ row_start 56 r
      = λ r. let p : 8 * (11 + 63 * r) + 8 ≡ 96 + 504 * r = omega arith in
      field_within s (8 * (11 + 63 * r)) 8 56 0 ∙ ap (λ q. field s q 56) p in
      let all : x % 2 ^ 56 ≡ row_sum 56
      = ap (λ y. y % 2 ^ 56) (e ∙ sym (div-one _)) ∙ sym (xors_field 9 0 56 (λ r. field s (8 * (11 + 63 * r)) 64))
      ∙ xors_ext 9 (λ r. field s (8 * (11 + 63 * r)) 64 / 2 ^ 0 % 2 ^ 56) (row_start 56) one in
      ap (remainder 6 128) (zero-add (x % 2 ^ 56) ∙ all) ∙ remainder_wider 6 (lit≤ tt) 56 128 (row_sum 56) (lit≤ tt) (rows_lt 56)

  -- 64 more in the windows behind
  pub rows_on : (n x : ℕ) → x ≡ xors 9 (λ r. field s (96 + 504 * r + n) 64)
      → after 6 (remainder 6 n (row_sum n)) (digits 64 x) ≡ remainder 6 (n + 64) (row_sum (n + 64))
  rows_on n x e =
      let next : ℕ → ℕ = λ r. field s (96 + 504 * r + n) 64 in
      let lt : xors 9 next < 2 ^ 64 = xors_lt 64 9 next (λ r. field_lt s (96 + 504 * r + n) 64) in
      let both : row_sum (n + 64) ≡ row_sum n * 2 ^ 64 + xors 9 next
      = xors_ext 9 (row_start (n + 64)) (λ r. row_start n r * 2 ^ 64 + next r) (λ r. field_add s (96 + 504 * r) n 64)
      ∙ xors_parts 9 64 (row_start n) next (λ r. field_lt s (96 + 504 * r + n) 64) in
      sym (remainder_add 6 (lit≤ tt) n 64 (row_sum (n + 64))
      ∙ ap₂ (λ y l. after 6 (remainder 6 n y) l)
      (ap (λ z. z / 2 ^ 64) both ∙ high (row_sum n) 64 lt)
      (digits_low 64 (row_sum (n + 64)) x
      (ap (λ z. z % 2 ^ 64) both ∙ low (row_sum n) 64 lt ∙ sym (ap (λ z. z % 2 ^ 64) e ∙ omega (arith, lt)))))

  -- a whole row, and the 96 bits in front
  pub rows_raw : bit_xor (remainder 6 504 (row_sum 504)) (remainder 6 128 (field s 0 96)) ≡ raw s 0
  unfolding raw remainder
  rows_raw =
      let f : ℕ → ℕ = λ i. bit_at s (0 + i) in
      let g : ℕ → ℕ = λ j. f (96 + j) in
      let front : remainder 6 128 (field s 0 96) ≡ after 6 0 (tab 96 f)
      = remainder_wider 6 (lit≤ tt) 96 128 (field s 0 96) (lit≤ tt) (field_lt s 0 96) ∙ ap (after 6 0) (field_digits s 0 96) in
      let each : (r : ℕ) → tab 504 (λ j. g (504 * r + j)) ≡ digits 504 (row_start 504 r)
      = λ r.
      tab_agree 504 (λ j. g (504 * r + j)) (λ j. bit_at s (96 + 504 * r + j)) (λ j h. ap (bit_at s) (omega arith))
      ∙ sym (field_digits s (96 + 504 * r) 504) in
      let back : after 6 1 (zeros (length (tab 4536 g))) ≡ 1
      = ap (λ k. after 6 1 (zeros k)) (length_tab 4536 g) ∙ (order_6 4536).1 refl in
      ap₂ bit_xor (sym (fold_rows 6 (lit≤ tt) 63 order_6 504 refl g (row_start 504) each 9)) front
      ∙ xor_comm (after 6 0 (tab 4536 g)) (after 6 0 (tab 96 f))
      ∙ sym (ap (after 6 0) (tab_split 96 4536 f) ∙ after_append 6 0 (tab 96 f) (tab 4536 g)
      ∙ bits_add 6 (lit≤ tt) (after 6 0 (tab 96 f)) (tab 4536 g) (tab_lt 96 f (λ i. bit_lt s (0 + i)))
      (tab_bits 4536 g (λ j. bit_lt s (0 + (96 + j)))) back)

-- a number of m digits moved up within a word
moved_up : (m n x : ℕ) → m + n ≤ 64 → x < 2 ^ m → remainder 6 64 (x * 2 ^ n % 2 ^ 64) ≡ after 6 (remainder 6 m x) (zeros n)
moved_up m n x l h =
    let k : ℕ = 64 - n in
    let e : k + n ≡ 64 = omega arith in
    ap (remainder 6 64) (shl_exact {a = x} m n 64 h l) ∙ ap (λ j. remainder 6 j (x * 2 ^ n)) (sym e)
    ∙ remainder_times 6 (lit≤ tt) k n x ∙ ap (λ r. after 6 r (zeros n)) (remainder_wider 6 (lit≤ tt) m k x (omega arith) h)

-- a remainder, and n digits behind it
behind : (n r v : ℕ) → 6 + n ≤ 64 → r < 64 → v < 2 ^ n → remainder 6 64 (bit_xor (r * 2 ^ n % 2 ^ 64) v) ≡ after 6 r (digits n v)
behind n r v l h hv =
    remainder_sum 6 (lit≤ tt) 64 (r * 2 ^ n % 2 ^ 64) v
    ∙ ap₂ bit_xor
    (moved_up 6 n r l h ∙ ap (λ x. after 6 x (zeros n)) (remainder_own 6 (lit≤ tt) 6 r (lit≤ tt) h))
    (remainder_wider 6 (lit≤ tt) n 64 v (omega arith) hv)
    ∙ sym (digits_behind 6 (lit≤ tt) r n v h)

-- the first o bits of a window
pub window_front : (s : List ℕ) (p o w : ℕ) → o ≤ 56 → w ≡ field s p 64 → w / 2 ^ 8 / 2 ^ (56 - o) ≡ field s p o
window_front s p o w l e =
    let n : o + (56 - o) ≡ 56 = omega arith in
    ap (λ x. x / 2 ^ 8 / 2 ^ (56 - o)) (e ∙ field_add s p 56 8)
    ∙ ap (λ x. x / 2 ^ (56 - o)) (high (field s p 56) 8 (field_lt s (p + 56) 8) ∙ ap (field s p) (sym n) ∙ field_add s p o (56 - o))
    ∙ high (field s p o) (56 - o) (field_lt s (p + o) (56 - o))

-- o bits on
pub bits_on : (s : List ℕ) (p o r gone come : ℕ) → o ≤ 56 → r < 64 → r ≡ raw s p → gone ≡ field s p o → come ≡ field s (p + 4632) o
    → remainder 6 64 (bit_xor (bit_xor (bit_xor (r * 2 ^ o % 2 ^ 64) come) (gone * 2 ^ 4 % 2 ^ 64)) (gone * 2 ^ 1 % 2 ^ 64)) ≡ raw s (p + o)
unfolding remainder
bits_on s p o r gone come l h er eg ec =
    let R : ℕ = after 6 0 (tab o (λ i. bit_at s (p + i))) in
    let moved : ℕ = bit_xor (r * 2 ^ o % 2 ^ 64) come in
    let next : List ℕ = tab o (λ i. bit_at s (p + (4632 + i))) in
    let own : remainder 6 o gone ≡ R = ap (remainder 6 o) eg ∙ ap (after 6 0) (field_digits s p o) in
    let less : gone < 2 ^ o = subst (λ x. x < 2 ^ o) (sym eg) (field_lt s p o) in
    let less' : come < 2 ^ o = subst (λ x. x < 2 ^ o) (sym ec) (field_lt s (p + 4632) o) in
    let in' : digits o come ≡ next
    = ap (digits o) ec ∙ field_digits s (p + 4632) o
    ∙ tab_agree o (λ i. bit_at s (p + 4632 + i)) (λ i. bit_at s (p + (4632 + i))) (λ i g. ap (bit_at s) (add_assoc p 4632 i)) in
    let on : remainder 6 64 moved ≡ after 6 (raw s p) next
    = behind o r come (omega arith) h less' ∙ ap₂ (after 6) er in' in
    let out : (n : ℕ) → n ≤ 8 → remainder 6 64 (gone * 2 ^ n % 2 ^ 64) ≡ after 6 R (zeros n)
    = λ n g. moved_up o n gone (omega arith) less ∙ ap (λ x. after 6 x (zeros n)) own in
    remainder_sum 6 (lit≤ tt) 64 (bit_xor moved (gone * 2 ^ 4 % 2 ^ 64)) (gone * 2 ^ 1 % 2 ^ 64)
    ∙ ap₂ bit_xor (remainder_sum 6 (lit≤ tt) 64 moved (gone * 2 ^ 4 % 2 ^ 64) ∙ ap₂ bit_xor on (out 4 (lit≤ tt))) (out 1 (lit≤ tt))
    ∙ xor_assoc (after 6 (raw s p) next) (after 6 R (zeros 4)) (after 6 R (zeros 1))
    ∙ ap (bit_xor (after 6 (raw s p) next)) (sym (zeros_33 R (tab_lt o (λ i. bit_at s (p + i)) (λ i. bit_lt s (p + i)))))
    ∙ sym (raw_slides s p o)
