-- A block's check out of the line's bits, its check bits among them: these weigh as much in the last octet.
use Rattle.std.specs.Prelude.{if◌then◌else◌}
use Prim.Native.Nat.{ℕ, zero, suc, ◌+◌, ◌*◌, ◌/◌, ◌%◌, ◌<◌}
use mathlib.Core.Path.{◌≡◌, refl, sym, ap, ap₂, ◌∙◌, subst}
use mathlib.Core.Bool.{Bool, true, false, cond}
use mathlib.Core.List.{List, [], ◌∷◌}
use native.Mathlib.Nat.{add-zero, add_assoc, div-one}
use native.Mathlib.Omega.{arith}
use borrow.Author.Tests.{eq-eqb, ne_eqb}
use lib.Bits.{bit_xor, xor_self, xor_zero_r}
use lib.Dec.{eqb, lit<, lit≤}
use lib.ListN.{get_or}
use Rattle.base.specs.Tab.{tab, tab_from}
use Rattle.base.proofs.TabLaws.{tab_agree, tab_of, tab_split}
use Rattle.line.specs.Bit.{bit_at, octet_at, octet_bits}
use Rattle.line.specs.Spelt.{digit}
use Rattle.line.proofs.BitLaws.{bit_lt, octet_bits_lem}
use Rattle.line.proofs.SpeltLaws.{digit_spelt}
use Rattle.crc.specs.Remainder.{zeros, step, after, check}
use Rattle.crc.specs.Striped.{read_as, striped}
use Rattle.crc.proofs.Laws.{tab_bits, zeros_zero, after_append, after_lt, step_lt}
use Rattle.crc.proofs.Digits.{tabs_linear, digits_linear}
use Rattle.crc.proofs.Order.{order_4, zeros_back}
use Rattle.e1.specs.Block.{block_bit, block_bits, block_check, carried}

-- the check c with a 0 behind each bit
abbrev spaced : ℕ → List ℕ
spaced c = digit 4 c 0 ∷ 0 ∷ digit 4 c 1 ∷ 0 ∷ digit 4 c 2 ∷ 0 ∷ digit 4 c 3 ∷ 0 ∷ []

-- four bits with a 0 behind each, as an octet
four_spaced : (a b c d : ℕ) → a < 2 → b < 2 → c < 2 → d < 2
    → octet_bits (128 * a + 32 * b + 8 * c + 2 * d) ≡ a ∷ 0 ∷ b ∷ 0 ∷ c ∷ 0 ∷ d ∷ 0 ∷ []
unfolding octet_bits tab_from
four_spaced a b c d ha hb hc hd =
    let x : ℕ = 128 * a + 32 * b + 8 * c + 2 * d in
    let e₀ : x / 128 % 2 ≡ a = omega arith in
    let e₁ : x / 64 % 2 ≡ 0 = omega arith in
    let e₂ : x / 32 % 2 ≡ b = omega arith in
    let e₃ : x / 16 % 2 ≡ 0 = omega arith in
    let e₄ : x / 8 % 2 ≡ c = omega arith in
    let e₅ : x / 4 % 2 ≡ 0 = omega arith in
    let e₆ : x / 2 % 2 ≡ d = omega arith in
    let e₇ : x / 1 % 2 ≡ 0 = omega arith in
    rw (e₀, e₁, e₂, e₃, e₄, e₅, e₆, e₇)

pub spaced_octet : (c : ℕ) → octet_bits (128 * (c / 8 % 2) + 32 * (c / 4 % 2) + 8 * (c / 2 % 2) + 2 * (c % 2)) ≡ spaced c
spaced_octet c =
    rw (div-one c) (four_spaced (c / 8 % 2) (c / 4 % 2) (c / 2 % 2) (c % 2) (omega arith) (omega arith) (omega arith) (omega arith))

module _ (s : List ℕ) (q : ℕ) where
  abbrev raw : ℕ → ℕ
  raw i = bit_at s (q + i)

  -- the check bits alone
  abbrev alone : ℕ → ℕ
  alone i = if eqb (i % 512) 0 then raw i else 0

  raw_lt : (i : ℕ) → raw i < 2
  raw_lt i = bit_lt s (q + i)

  alone_lt : (i : ℕ) → alone i < 2
  alone_lt i = go (eqb (i % 512) 0)
    where
      go : (c : Bool) → cond c (raw i) 0 < 2
      go true = raw_lt i
      go false = lit< tt

  -- as the check reads them, a block's bits are the line's but for the check bits
  block_bit_lem : (i : ℕ) → block_bit s q i ≡ bit_xor (raw i) (alone i)
  unfolding read_as
  block_bit_lem i = go (eqb (i % 512) 0)
    where
      go : (c : Bool) → cond c 0 (raw i) ≡ bit_xor (raw i) (cond c (raw i) 0)
      go true = sym (xor_self (raw i))
      go false = sym (xor_zero_r (raw i))

  -- a check bit and the 511 bits behind it: as two bits, for x^510 is 1
  segment : (r k : ℕ) → r < 16 → after 4 r (tab 512 (λ j. alone (512 * k + j))) ≡ after 4 r (raw (512 * k) ∷ 0 ∷ [])
  unfolding after
  segment r k h =
      let r₁ : ℕ = step 4 r (raw (512 * k)) in
      let h₁ : r₁ < 16 = step_lt 4 (lit≤ tt) r (raw (512 * k)) h (raw_lt (512 * k)) in
      ap (after 4 r) (tab_of 512 (λ j. alone (512 * k + j)) (raw (512 * k) ∷ zeros 511) refl each)
      ∙ zeros_back 4 (lit≤ tt) 510 ((order_4 510).1 refl) 4 (step 4 r₁ 0) (lit≤ tt) (step_lt 4 (lit≤ tt) r₁ 0 h₁ (lit< tt))
    where
      each : (j : ℕ) → j < 512 → alone (512 * k + j) ≡ get_or (raw (512 * k) ∷ zeros 511) j 0
      each zero l = let e : (512 * k + zero) % 512 ≡ 0 = omega arith in rw (eq-eqb _ _ e) (ap raw (add-zero (512 * k)))
      each (suc j) l = rw (ne_eqb ((512 * k + suc j) % 512) 0 (λ z. omega arith)) (sym (zeros_zero 511 j))

  segments : (k : ℕ) → after 4 0 (tab (512 * (k + 1)) alone) ≡ after 4 (after 4 0 (tab (512 * k) alone)) (raw (512 * k) ∷ 0 ∷ [])
  segments k =
      let e : 512 * (k + 1) ≡ 512 * k + 512 = omega arith in
      ap (λ n. after 4 0 (tab n alone)) e ∙ ap (after 4 0) (tab_split (512 * k) 512 alone)
      ∙ after_append 4 0 (tab (512 * k) alone) (tab 512 (λ j. alone (512 * k + j)))
      ∙ segment (after 4 0 (tab (512 * k) alone)) k
      (after_lt 4 (lit≤ tt) 0 (tab (512 * k) alone) (lit< tt) (tab_bits (512 * k) alone alone_lt))

  check_bit_of : (k : ℕ) → k < 4 → digit 4 (carried s q) k ≡ raw (512 * k)
  unfolding carried
  check_bit_of k h = digit_spelt 4 k (λ j. raw (512 * j)) (λ j. raw_lt (512 * j)) h

  -- in their places they weigh what they do in an octet
  check_bits_weigh : after 4 0 (tab 2048 alone) ≡ after 4 0 (spaced (carried s q))
  unfolding after tab_from
  check_bits_weigh =
      rw (check_bit_of 0 (lit< tt), check_bit_of 1 (lit< tt), check_bit_of 2 (lit< tt), check_bit_of 3 (lit< tt))
      (segments 3
      ∙ ap (λ x. after 4 x (raw 1536 ∷ 0 ∷ []))
      (segments 2 ∙ ap (λ x. after 4 x (raw 1024 ∷ 0 ∷ []))
      (segments 1 ∙ ap (λ x. after 4 x (raw 512 ∷ 0 ∷ [])) (segments 0))))

  -- the last octet, with the check bits in it, behind the other 2,040 bits
  pub last_octet : (r x y c : ℕ) → r ≡ after 4 0 (tab 2040 raw) → x ≡ octet_at s (q + 2040) → octet_bits y ≡ spaced c
      → c ≡ carried s q → after 4 r (octet_bits (bit_xor x y)) ≡ after 4 0 (block_bits s q)
  unfolding striped octet_bits
  last_octet r x y c er ex ey ec =
      let hr : r < 16 = subst (λ y. y < 16) (sym er) (after_lt 4 (lit≤ tt) 0 (tab 2040 raw) (lit< tt) (tab_bits 2040 raw raw_lt)) in
      let tail : tab 8 (λ j. raw (2040 + j)) ≡ octet_bits x
      = tab_agree 8 (λ j. raw (2040 + j)) (λ j. bit_at s (q + 2040 + j)) (λ j h. ap (bit_at s) (sym (add_assoc q 2040 j)))
      ∙ sym (ap octet_bits ex ∙ octet_bits_lem s (q + 2040)) in
      let line : after 4 0 (tab 2048 raw) ≡ after 4 r (octet_bits x)
      = ap (after 4 0) (tab_split 2040 8 raw) ∙ after_append 4 0 (tab 2040 raw) (tab 8 (λ j. raw (2040 + j)))
      ∙ ap₂ (after 4) (sym er) tail in
      let out : after 4 0 (tab 2048 alone) ≡ after 4 0 (octet_bits y)
      = check_bits_weigh ∙ sym (ap (after 4 0) (ey ∙ ap spaced ec)) in
      ap (λ z. after 4 z (octet_bits (bit_xor x y))) (sym (xor_zero_r r))
      ∙ digits_linear 4 (lit≤ tt) r 0 8 x y hr (lit< tt)
      ∙ sym (ap (after 4 0) (tab_agree 2048 (block_bit s q) (λ i. bit_xor (raw i) (alone i)) (λ i h. block_bit_lem i))
      ∙ tabs_linear 4 (lit≤ tt) 0 0 2048 raw alone (lit< tt) (lit< tt) raw_lt alone_lt ∙ ap₂ bit_xor line out)

  -- and the zeros behind it
  pub block_closed : (r : ℕ) → r ≡ after 4 0 (block_bits s q) → after 4 r (zeros 4) ≡ block_check s q
  unfolding block_check check
  block_closed r e = ap (λ x. after 4 x (zeros 4)) e ∙ sym (after_append 4 0 (block_bits s q) (zeros 4))
