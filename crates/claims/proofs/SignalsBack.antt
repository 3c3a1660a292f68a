-- What is written as signalling is read back.
use Rattle.std.specs.Prelude.{if◌then◌else◌}
use Prim.Native.Nat.{ℕ, ◌+◌, ◌-◌, ◌*◌, ◌/◌, ◌%◌, ◌≤◌, ◌<◌}
use mathlib.Core.Path.{◌≡◌, refl, sym, ap, ap₂, ◌∙◌}
use mathlib.Core.Bool.{Bool, true, false, ◌&&◌}
use mathlib.Core.List.{List, ◌++◌}
use native.Mathlib.Omega.{arith}
use borrow.Author.Tests.{eq-eqb, ne_eqb, leb-true, leb-false, le-ltb, lt-ltb}
use lib.Dec.{leb, ltb}
use lib.ListN.{length, get_or, take, drop, length-drop}
use lib.Seq.{take_at, get_or-take, get_or-drop}
use Rattle.base.specs.Tab.{tab}
use Rattle.base.proofs.TabLaws.{length_tab, get_d_tab, tab_agree, tab_of}
use Rattle.line.specs.Bit.{octet_at}
use Rattle.e1.specs.Frame.{slot_at}
use Rattle.write.specs.Writing.{written}
use Rattle.write.specs.Inputs.{Inputs}
use Rattle.write.proofs.Laws.{payload_at}
use Rattle.read.specs.Entry.{GoodLength}
use Rattle.read.proofs.EntryLaws.{placed_0}
use Rattle.signals.specs.Signalling.{starts_in, read_in, first_in, losses_in, held_in, abcd_at, abcd_in, xy_in}
use Rattle.signals.specs.Entry.{slot16_of, slot16_in, filled, refusal, accept, Signalled}
use Rattle.signals.specs.Answer.{Signalling}
use Rattle.signals.proofs.EntryLaws.{placed_then, signals_number, signals_accepted}
use Rattle.signalled.specs.Slot16.{abcd_of, slot16, with_slot16}
use Rattle.signalled.specs.Given.{Given}
use Rattle.signalled.proofs.Laws.{with_length, with_slot16_lem, with_octets}
use Rattle.claims.specs.Signals.{SignalsBack}
use Rattle.claims.proofs.Demand2 as demand2
use Rattle.claims.proofs.Framed.{stands_at_once}
use Rattle.claims.proofs.Regular.{Regular, first_16, all_known}

-- slot 16 as it is written
module _ (xy v : List ℕ) (n : ℕ) (g : Given xy v n) where
  abbrev pub slots16 : List ℕ
  slots16 = tab (16 * n) (slot16 xy v)

  long : length slots16 ≡ 16 * n
  long = length_tab (16 * n) (slot16 xy v)

  at : (f : ℕ) → f < 16 * n → get_or slots16 f 0 ≡ slot16 xy v f
  at f l = get_d_tab (16 * n) (slot16 xy v) f 0 l

  -- frame 0 of the signalling multiframe m, and frame i
  at_0 : (m : ℕ) → m < n → get_or slots16 (16 * m) 0 ≡ get_or xy m 0
  unfolding slot16
  at_0 m l =
      let q : 16 * m / 16 ≡ m = omega arith in
      let r : 16 * m % 16 ≡ 0 = omega arith in
      at (16 * m) (omega arith) ∙ rw (q, r) refl

  slot16_abcd : (f : ℕ) → (f % 16 ≡ 0 → ⊥) → slot16 xy v f ≡ 16 * abcd_of v (f / 16) (f % 16) + abcd_of v (f / 16) (f % 16 + 15)
  unfolding slot16
  slot16_abcd f h = rw (ne_eqb (f % 16) 0 h) refl

  at_i : (m i : ℕ) → m < n → 1 ≤ i → i ≤ 15 → get_or slots16 (16 * m + i) 0 ≡ 16 * abcd_of v m i + abcd_of v m (i + 15)
  at_i m i l a b =
      let q : (16 * m + i) / 16 ≡ m = omega arith in
      let r : (16 * m + i) % 16 ≡ i = omega arith in
      at (16 * m + i) (omega arith) ∙ slot16_abcd (16 * m + i) (λ z. omega arith) ∙ ap₂ (λ m i. 16 * abcd_of v m i + abcd_of v m (i + 15)) q r

  -- no ABCD is 0000: so there is a 1 among the high four bits of every frame but frame 0
  pub one_high : (f : ℕ) → f < 16 * n → (f % 16 ≡ 0 → ⊥) → 16 ≤ slot16 xy v f
  one_high f l h =
      let a = g.its_abcd.least (30 * (f / 16) + (f % 16 - 1)) (omega arith) in
      omega (arith, slot16_abcd f h)

  pub regular : Regular slots16 n
  regular =
      record {
        right = λ m l. eq-eqb (get_or slots16 (16 * m) 0 / 16) 0 (omega (arith, at_0 m l, g.its_xy.most m));
        other = λ f l h. ne_eqb (get_or slots16 f 0 / 16) 0 (λ z. omega (arith, at f l, one_high f l h));
      }

  -- A to D of a channel
  channel : (m c : ℕ) → m < n → 1 ≤ c → c ≤ 30 → abcd_at slots16 (16 * m) c ≡ abcd_of v m c
  channel m c l a b = go (leb c 15) refl
    where
      go : (t : Bool) → leb c 15 ≡ t → abcd_at slots16 (16 * m) c ≡ abcd_of v m c
      go true e =
          let k = leb-true c 15 e in
          let d = at_i m c l a k in
          let s = g.its_abcd.most (30 * m + (c + 15 - 1)) in
          rw e (omega arith)
      go false e =
          let k = leb-false c 15 e in
          let d = at_i m (c - 15) l (omega arith) (omega arith) in
          let z : c - 15 + 15 ≡ c = omega arith in
          let y : abcd_of v m (c - 15 + 15) ≡ abcd_of v m c = ap (abcd_of v m) z in
          let s = g.its_abcd.most (30 * m + (c - 1)) in
          rw e (omega arith)

  module _ (two : 2 ≤ n) where
    abbrev all : ℕ
    all = 16 * n

    read_all : read_in slots16 all ≡ n - 1
    read_all = sym (all_known regular two).0

    start : (m : ℕ) → m < n - 1 → get_or (starts_in slots16 all) m 0 ≡ 16 * (m + 1)
    start m l = ap (λ s. get_or s m 0) (all_known regular two).1 ∙ get_d_tab (n - 1) (λ i. 16 * (i + 1)) m 0 l

    pub abcd_back : abcd_in slots16 all ≡ drop 30 v
    unfolding abcd_in
    abcd_back =
        ap (λ k. tab (30 * k) (λ i. abcd_at slots16 (get_or (starts_in slots16 all) (i / 30) 0) (i % 30 + 1))) read_all
        ∙ tab_of (30 * (n - 1)) _ (drop 30 v) (length-drop 30 v ∙ omega (arith, g.its_abcd.long))
        (λ i l.
        let z : 30 * (i / 30 + 1) + (i % 30 + 1 - 1) ≡ 30 + i = omega arith in
        ap (λ f. abcd_at slots16 f (i % 30 + 1)) (start (i / 30) (omega arith))
        ∙ channel (i / 30 + 1) (i % 30 + 1) (omega arith) (omega arith) (omega arith)
        ∙ ap (λ j. get_or v j 0) z ∙ sym (get_or-drop 30 v i 0))

    pub xy_back : xy_in slots16 all ≡ get_or xy (n - 1) 0
    unfolding xy_in
    xy_back =
        let h : held_in slots16 all ≡ true = (all_known regular two).3 in
        let k : ltb 0 (read_in slots16 all) ≡ true = lt-ltb 0 (read_in slots16 all) (omega (arith, read_all)) in
        let z : read_in slots16 all - 1 ≡ n - 2 = omega (arith, read_all) in
        let y : 16 * (n - 2 + 1) ≡ 16 * (n - 1) = omega arith in
        ap₂ (λ a b. if a && b then get_or slots16 (get_or (starts_in slots16 all) (read_in slots16 all - 1) 0) 0 else 11) h k
        ∙ ap (λ m. get_or slots16 (get_or (starts_in slots16 all) m 0) 0) z
        ∙ ap (λ f. get_or slots16 f 0) (start (n - 2) (omega arith) ∙ y)
        ∙ at_0 (n - 1) (omega arith)

    -- so much for the list; all that is answered of it
    pub answered : (r : Signalling) → r ≡ accept slots16 → (out out' : List ℕ) → out' ≡ abcd_in slots16 (length slots16) ++ drop (filled slots16) out
        → r.number ≡ 0 → SignalsBack xy v n r out'
    unfolding accept
    answered r e out out' o z =
        let l = long in
        let b : take (30 * (n - 1)) out' ≡ drop 30 v =
        ap (take (30 * (n - 1))) (o ∙ ap (λ k. abcd_in slots16 k ++ drop (filled slots16) out) l ∙ ap (λ a. a ++ drop (filled slots16) out) abcd_back)
        ∙ take_at (drop 30 v) (drop (filled slots16) out) (30 * (n - 1)) (length-drop 30 v ∙ omega (arith, g.its_abcd.long)) in
        let x : xy_in slots16 (length slots16) ≡ get_or xy (n - 1) 0 = ap (xy_in slots16) l ∙ xy_back in
        record {
          number = z;
          all_but_one = ap (λ (r : Signalling). r.multiframes) e ∙ ap (read_in slots16) l ∙ read_all;
          first = ap (λ (r : Signalling). r.first) e ∙ ap (first_in slots16) l ∙ first_16 regular two;
          losses = ap (λ (r : Signalling). r.losses) e ∙ ap (losses_in slots16) l ∙ (all_known regular two).2;
          held = ap (λ (r : Signalling). r.held) e ∙ ap (held_in slots16) l ∙ (all_known regular two).3;
          x0 = ap (λ (r : Signalling). r.x0) e ∙ ap (λ x. x / 8 % 2) x;
          x1 = ap (λ (r : Signalling). r.x1) e ∙ ap (λ x. x / 2 % 2) x;
          x2 = ap (λ (r : Signalling). r.x2) e ∙ ap (λ x. x % 2) x;
          y = ap (λ (r : Signalling). r.y) e ∙ ap (λ x. x / 4 % 2) x;
          bits = λ m c h k h' k'.
              let i = 30 * (m - 1) + (c - 1) in
              let q : 30 + i ≡ 30 * m + (c - 1) = omega arith in
              sym (get_or-take (30 * (n - 1)) out' i 0 (omega arith)) ∙ ap (λ a. get_or a i 0) b ∙ get_or-drop 30 v i 0 ∙ ap (λ j. get_or v j 0) q;
          abcd = b;
        }

-- the line
module _ (p o : List ℕ) (c : ℕ) (xy v : List ℕ) (n : ℕ) (g : Given xy v n) (i : Inputs (with_slot16 p xy v) o c n) (octets : (i : ℕ) → get_or p i 0 < 256)
    (four : 4 ≤ n) (few : n ≤ 16) where
  abbrev q : List ℕ
  q = with_slot16 p xy v

  abbrev line : List ℕ
  line = written q o c (2 * n)

  os : (i : ℕ) → get_or q i 0 < 256
  os = with_octets p xy v n g octets

  slots : slot16_in line ≡ slots16 xy v n g
  unfolding slot16_of
  slots =
      ap₂ (slot16_of line) (demand2.start q o c n i os four few) (demand2.used_n q o c n i os four few)
      ∙ tab_agree (16 * n) (λ f. octet_at line (slot_at 0 f 16)) (slot16 xy v)
      (λ f l.
      let e = with_slot16_lem p xy v f (omega (arith, with_length p xy v, i.payload_length)) in
      payload_at i f 16 l (omega arith) (omega arith) (os (31 * f + (16 - 1))) ∙ e)

  pub line_back : (buffer : List ℕ) (r : Signalling) (buffer' : List ℕ) → 30 * (n - 1) ≤ length buffer → Signalled line buffer r buffer'
      → SignalsBack xy v n r buffer'
  line_back buffer r buffer' room h =
      let l = demand2.long q o c n i in
      let good : GoodLength line = record { long = omega arith; short = omega arith } in
      let k : filled (slot16_in line) ≡ 30 * (n - 1) =
      ap filled slots ∙ ap (λ m. 30 * read_in (slots16 xy v n g) m) (long xy v n g) ∙ ap (λ m. 30 * m) (read_all xy v n g (omega arith)) in
      let z : refusal line (length buffer) ≡ 0 =
      placed_then line (length buffer) (placed_0 line good (record { place = 0; k = 0 }) (stands_at_once line n (demand2.framed q o c n i) four)) false
      (le-ltb (length buffer) (filled (slot16_in line)) (omega arith)) in
      let y = signals_number line buffer r buffer' h ∙ z in
      let d = signals_accepted line buffer r buffer' h y in
      answered xy v n g (omega arith) r (d.0 ∙ ap accept slots) buffer buffer'
      (d.1 ∙ ap (λ t. abcd_in t (length t) ++ drop (filled t) buffer) slots) y
