-- What stands where in the line that is written: each bit of it, each payload octet, the data link, the signal and the
-- checks. Every superframe but the last agrees with the check that is carried after it, and the check of the last is the
-- one that is answered.
use Prim.Native.Nat.{ℕ, zero, suc, ◌+◌, ◌-◌, ◌*◌, ◌/◌, ◌%◌, ◌≤◌, ◌<◌}
use mathlib.Core.Path.{◌≡◌, refl, sym, ap, ap₂, ◌∙◌}
use mathlib.Core.Logic.{◌≢◌}
use mathlib.Core.Bool.{true}
use mathlib.Core.List.{List}
use native.Mathlib.Omega.{arith}
use borrow.Author.Tests.{eq-eqb, ne_eqb}
use lib.Dec.{eqb}
use lib.ListN.{length, get_or}
use Rattle.base.specs.Tab.{tab}
use Rattle.base.proofs.ChoiceLaws.{if_both}
use Rattle.base.proofs.TabLaws.{tab_of}
use Rattle.line.specs.Bit.{bit_at, field, octet_at}
use Rattle.line.specs.Spelt.{digit}
use Rattle.line.specs.Signal.{signal}
use Rattle.line.proofs.BitLaws.{octet_one}
use Rattle.line.proofs.SignalLaws.{signal_lt}
use Rattle.line.proofs.SpeltLaws.{Binary, spelt_agree, spelt_digits}
use Rattle.line.proofs.PackedLaws.{length_packed, bit_packed}
use Rattle.t1.specs.Superframe.{framing_at, octet_place, carried, super_check, agrees}
use Rattle.t1.specs.Payload.{data_bit}
use Rattle.t1write.specs.Writing.{framing_bit, carries, line_bit, written}
use Rattle.t1write.specs.Inputs.{Inputs}
use Rattle.t1.proofs.Laws.{data_lt, check_of_lt, check_of_agree}

pub carries_lt : (p : List ℕ) (c b : ℕ) → c < 64 → carries p c b < 64
unfolding carries
carries_lt p c zero h = h
carries_lt p c (suc b) h = check_of_lt (λ i. data_bit p (4632 * b + i)) (λ i. data_lt p (4632 * b + i))

-- what the framing bit of each frame is
module _ (l : List ℕ) (k f : ℕ) where
  pub link_frame : f % 2 ≡ 0 → framing_bit l k f ≡ get_or l (f / 2) 0
  unfolding framing_bit
  link_frame e = rw (eq-eqb (f % 2) 0 e)

  pub check_frame : f % 4 ≡ 1 → framing_bit l k f ≡ digit 6 k (f / 4 % 6)
  unfolding framing_bit
  check_frame e = let o : f % 2 ≢ 0 = λ z. omega arith in rw (ne_eqb (f % 2) 0 o, eq-eqb (f % 4) 1 e)

  pub signal_frame : f % 4 ≡ 3 → framing_bit l k f ≡ get_or signal (f / 4 % 6) 0
  unfolding framing_bit
  signal_frame e =
      let o : f % 2 ≢ 0 = λ z. omega arith in
      let q : f % 4 ≢ 1 = λ z. omega arith in
      rw (ne_eqb (f % 2) 0 o, ne_eqb (f % 4) 1 q)

  pub framing_lt : ((i : ℕ) → get_or l i 0 < 2) → framing_bit l k f < 2
  unfolding framing_bit
  framing_lt h =
      if_both (λ x. x < 2) (eqb (f % 2) 0) (h (f / 2))
      (if_both (λ x. x < 2) (eqb (f % 4) 1) (omega arith) (signal_lt (f / 4 % 6) (omega arith)))

-- the two kinds of bit of a line
module _ (p l : List ℕ) (c : ℕ) where
  pub line_framing : (i : ℕ) → i % 193 ≡ 0 → line_bit p l c i ≡ framing_bit l (carries p c (i / 4632)) (i / 193)
  unfolding line_bit
  line_framing i e = rw (eq-eqb (i % 193) 0 e)

  pub line_data : (i : ℕ) → i % 193 ≢ 0 → line_bit p l c i ≡ data_bit p i
  unfolding line_bit
  line_data i e = rw (ne_eqb (i % 193) 0 e)

  pub length_written : (n : ℕ) → length (written p l c n) ≡ 579 * n
  unfolding written
  length_written n = length_packed (579 * n) (line_bit p l c)

  -- n superframes, where the data link is of bits
  module _ (n : ℕ) (bits : (i : ℕ) → get_or l i 0 < 2) where
    line_lt : Binary (line_bit p l c)
    unfolding line_bit
    line_lt i = if_both (λ x. x < 2) (eqb (i % 193) 0) (framing_lt l (carries p c (i / 4632)) (i / 193) bits) (data_lt p i)

    -- every bit
    bit_line : (i : ℕ) → i < 4632 * n → bit_at (written p l c n) i ≡ line_bit p l c i
    unfolding written
    bit_line i h = bit_packed (579 * n) (line_bit p l c) line_lt i (omega arith)

    -- the framing bit of frame f, frames counted over all superframes
    pub framing_line : (f x : ℕ) → f < 24 * n → x ≡ 193 * f → bit_at (written p l c n) x ≡ framing_bit l (carries p c (f / 24)) f
    framing_line f x h e =
        let u : x / 4632 ≡ f / 24 = omega arith in
        let v : x / 193 ≡ f = omega arith in
        bit_line x (omega arith) ∙ line_framing x (omega arith) ∙ ap₂ (λ a b. framing_bit l (carries p c a) b) u v

    -- the check of superframe b, which the next one carries
    pub check_line : (b : ℕ) → b < n → super_check (written p l c n) (4632 * b) ≡ carries p c (suc b)
    unfolding carries
    check_line b h =
        check_of_agree (λ i. bit_at (written p l c n) (4632 * b + i)) (λ i. data_bit p (4632 * b + i))
        (λ i k z. bit_line (4632 * b + i) (omega arith) ∙ line_data (4632 * b + i) (λ e. z (omega arith)))

-- a place in the frame f
in_frame : (x f o : ℕ) → x ≡ 193 * f + 1 + o → o < 192 → (x / 193 ≡ f) × (x % 193 ≡ 1 + o)
in_frame x f o e h = (omega arith, omega arith)

-- n superframes as an accepted call writes them
module _ {p l : List ℕ} {c n : ℕ} (g : Inputs p l c n) where
  abbrev line : List ℕ
  line = written p l c n

  -- each payload octet, bit by bit and whole
  data_written : (i j x : ℕ) → i < 576 * n → j < 8 → x ≡ octet_place 0 (i / 24) (i % 24) + j
      → bit_at line x ≡ bit_at p (8 * i + j)
  unfolding data_bit
  data_written i j x h k e =
      let w = in_frame x (i / 24) (8 * (i % 24) + j) (omega arith) (omega arith) in
      bit_line p l c n g.link.bits x (omega arith) ∙ line_data p l c x (λ z. omega (arith, w.1))
      ∙ ap (bit_at p) (omega (arith, w.0, w.1))

  pub octet_written : (i : ℕ) → i < 576 * n → get_or p i 0 < 256 → octet_at line (octet_place 0 (i / 24) (i % 24)) ≡ get_or p i 0
  unfolding field
  octet_written i h k =
      let q : ℕ = octet_place 0 (i / 24) (i % 24) in
      let e : 8 * i + 0 ≡ 8 * i = omega arith in
      spelt_agree 8 (λ j. bit_at line (q + j)) (λ j. bit_at p (8 * i + j)) (λ j m. data_written i j (q + j) h m refl)
      ∙ sym (octet_one p i 0 refl k ∙ ap (octet_at p) e)

  pub payload_back : ((i : ℕ) → get_or p i 0 < 256) → tab (576 * n) (λ i. octet_at line (octet_place 0 (i / 24) (i % 24))) ≡ p
  payload_back h = tab_of (576 * n) _ p g.payload (λ i m. octet_written i m (h i))

  -- the data link
  pub link_written : (i : ℕ) → i < 12 * n → bit_at line (framing_at 0 (2 * i)) ≡ get_or l i 0
  link_written i h =
      let e : 2 * i / 2 ≡ i = omega arith in
      framing_line p l c n g.link.bits (2 * i) (framing_at 0 (2 * i)) (omega arith) (omega arith)
      ∙ link_frame l (carries p c (2 * i / 24)) (2 * i) (omega arith) ∙ ap (λ x. get_or l x 0) e

  pub link_back : tab (12 * n) (λ i. bit_at line (framing_at 0 (2 * i))) ≡ l
  link_back = tab_of (12 * n) _ l g.link.long link_written

  -- superframe b
  module _ (b : ℕ) (h : b < n) where
    -- the check that it carries
    pub carried_written : carried line (4632 * b) ≡ carries p c b
    unfolding carried
    carried_written =
        spelt_agree 6 (λ i. bit_at line (framing_at (4632 * b) (4 * i + 1))) (digit 6 (carries p c b)) at
        ∙ spelt_digits 6 (carries p c b) (carries_lt p c b g.six_bits)
      where
        at : (i : ℕ) → i < 6 → bit_at line (framing_at (4632 * b) (4 * i + 1)) ≡ digit 6 (carries p c b) i
        at i k =
            let f : ℕ = 24 * b + (4 * i + 1) in
            let u : f / 24 ≡ b = omega arith in
            let v : f / 4 % 6 ≡ i = omega arith in
            framing_line p l c n g.link.bits f (framing_at (4632 * b) (4 * i + 1)) (omega arith) (omega arith)
            ∙ check_frame l (carries p c (f / 24)) f (omega arith) ∙ ap₂ (λ x y. digit 6 (carries p c x) y) u v

    -- its signal
    pub signal_written : (i : ℕ) → i < 6 → bit_at line (framing_at (4632 * b) (4 * i + 3)) ≡ get_or signal i 0
    signal_written i k =
        let f : ℕ = 24 * b + (4 * i + 3) in
        let v : f / 4 % 6 ≡ i = omega arith in
        framing_line p l c n g.link.bits f (framing_at (4632 * b) (4 * i + 3)) (omega arith) (omega arith)
        ∙ signal_frame l (carries p c (f / 24)) f (omega arith) ∙ ap (λ x. get_or signal x 0) v

    -- its check, which the next one carries
    pub check_written : super_check line (4632 * b) ≡ carries p c (suc b)
    check_written = check_line p l c n g.link.bits b h

  -- every superframe but the last agrees with the check that is carried after it
  pub agrees_written : (b : ℕ) → b + 1 < n → agrees line (4632 * b) ≡ true
  unfolding agrees
  agrees_written b h =
      let e : 4632 * b + 4632 ≡ 4632 * suc b = omega arith in
      eq-eqb _ _ (check_written b (omega arith) ∙ sym (ap (carried line) e ∙ carried_written (suc b) (omega arith)))

  -- and the check of the last is the one that is answered
  pub last_check : 1 ≤ n → super_check line (4632 * (n - 1)) ≡ carries p c n
  last_check h = let e : suc (n - 1) ≡ n = omega arith in check_written (n - 1) (omega arith) ∙ ap (carries p c) e
