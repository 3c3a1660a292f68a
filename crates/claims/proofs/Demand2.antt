-- Demand 2 holds.
use Prim.Native.Nat.{ℕ, suc, ◌+◌, ◌-◌, ◌*◌, ◌%◌, ◌≤◌, ◌<◌}
use mathlib.Core.Path.{◌≡◌, refl, sym, ap, ap₂, ◌∙◌}
use mathlib.Core.Bool.{Bool, false, ◌||◌}
use mathlib.Core.List.{List, ◌++◌}
use mathlib.Core.Logic.Iff
use mathlib.Core.Logic.{◌↔◌, ◌⊎◌, ⊎_elim, inl, inr}
use Rattle.std.specs.Prelude.{Option, None, Some}
use native.Mathlib.Omega.{arith}
use borrow.Author.Tests.{le-ltb}
use lib.Dec.{ltb}
use lib.ListN.{length, get_or, take, drop, get_or-append}
use lib.Seq.{take_at}
use Rattle.line.specs.Bit.{bit_at, octet_at}
use Rattle.base.proofs.TabLaws.{tab_agree, sum_ext}
use Rattle.base.proofs.AnswerLaws.{accepted_so}
use Rattle.line.specs.Signal.{signal}
use Rattle.e1.specs.Frame.{frame_at, slot_at}
use Rattle.e1.proofs.WordLaws.{word_holds}
use Rattle.e1.specs.Payload.{index_of, multiframes}
use Rattle.align.specs.Place.{first_basic, found_in, place_of}
use Rattle.align.specs.Stands.{Basic, BasicFirst, Stands}
use Rattle.align.specs.declared.Found.{Found}
use Rattle.align.specs.declared.Found.TheVariants.{At, BasicAt, Nothing}
use Rattle.measure.specs.Reading.{whole, loss, lost_at, cause_of, used_of, slots, payload_of, slot0_of, word_errors, word_bits}
use Rattle.measure.specs.Reading.{compared, errored, zeros_e, far_end}
use Rattle.read.specs.Entry as reading
use Rattle.read.specs.Entry.{Read, GoodLength}
use Rattle.measure.proofs.Laws as reads
use Rattle.read.proofs.EntryLaws.{told_3, told_15, refused_3, refused_15, accepts, place_is, start_is}
use Rattle.read.proofs.EntryLaws.{read_number, read_accepted, read_refused, read_place}
use Rattle.crc.proofs.Division.{check_divides, check_unique}
use Rattle.align.proofs.Laws.{some_k, none_at_all, none_basic, basic_first, finds_at, finds_basic, finds_nothing}
use Rattle.claims.proofs.Standard.{standard_single}
use Rattle.claims.specs.Demand2.{Accepted, OneOf, Standard, zero_es, ReadBack, Demand2}
use Rattle.read.specs.Answer.{Reading}
use Rattle.write.specs.Writing.{carries, written, overhead_of}
use Rattle.write.specs.Inputs.{Inputs}
use Rattle.write.proofs.Laws as writes
use Rattle.write.proofs.Calls.{wrote_check, wrote_line, wrote_accepted, two_calls}
use Rattle.claims.proofs.Framed as unbroken
use Rattle.claims.proofs.Framed.{Framed}

-- what is accepted of a line, of any length
module _ (s : List ℕ) (r : Reading) (is : r ≡ reading.accept s) where
  -- a value of it
  got {ℓ} : {A : Type ℓ} (f : Reading → A) → f r ≡ f (reading.accept s)
  got f = ap f is

  from : r.start ≡ reading.start_in s
  unfolding reading.accept
  from = got (λ x. x.start)

  all : r.whole ≡ reading.whole_in s
  unfolding reading.accept
  all = got (λ x. x.whole)

  upto : r.used ≡ reading.used_in s
  unfolding reading.accept
  upto = got (λ x. x.used)

-- and its outputs, which it fills at their front
module _ (s payload slot0 : List ℕ) (r : Reading) (payload' slot0' : List ℕ) (is : r ≡ reading.accept s) (p k : ℕ)
    (at : found_in s ≡ At p k) (behind behind-0 : List ℕ)
    (front : payload' ≡ payload_of s (reading.start_in s) (reading.used_in s) ++ behind)
    (front-0 : slot0' ≡ slot0_of s (reading.start_in s) (reading.used_in s) ++ behind-0) where
  octet_read : (f j : ℕ) → f < 16 * r.used → 1 ≤ j → j ≤ 31
      → get_or payload' (index_of f j) 0 ≡ octet_at s (slot_at r.start f j)
  octet_read f j l a b =
      let p = payload_of s r.start r.used in
      ap (λ x. get_or x (index_of f j) 0) (front ∙ sym (ap₂ (λ x y. payload_of s x y ++ behind) (from s r is) (upto s r is)))
      ∙ get_or-append p behind 0 (index_of f j) (omega (arith, reads.payload_length s r.start r.used))
      ∙ reads.slot_of_lem s r.start (16 * r.used) f j l a b

  octet_0_read : (f : ℕ) → f < 16 * r.used → get_or slot0' f 0 ≡ octet_at s (slot_at r.start f 0)
  octet_0_read f l =
      let o = slot0_of s r.start r.used in
      ap (λ x. get_or x f 0) (front-0 ∙ sym (ap₂ (λ x y. slot0_of s x y ++ behind-0) (from s r is) (upto s r is)))
      ∙ get_or-append o behind-0 0 f (omega (arith, reads.slot0_length s r.start r.used))
      ∙ reads.slot0_of_lem s r.start (16 * r.used) f l

  pub accepted_of : Accepted s payload slot0 r payload' slot0'
  unfolding reading.accept reading.place_in reading.start_in
  accepted_of =
      let from = from s r is in
      let all = all s r is in
      let upto = upto s r is in
      let here : p ≡ r.place = sym (got s r is (λ x. x.place) ∙ ap place_of at) in
      let found : found_in s ≡ At r.place k = at ∙ ap (λ p. At p k) here in
      record {
        k = k;
        found = found;
        first = (finds_at s r.place k).0 found;
        start = from;
        all_whole = all ∙ sym (ap (whole s) from);
        lost = got s r is (λ x. x.lost) ∙ sym (ap₂ (λ x y. lost_at (loss s x y)) from all);
        cause = got s r is (λ x. x.cause) ∙ sym (ap₂ (λ x y. cause_of (loss s x y)) from all);
        used = upto ∙ sym (ap₂ (λ x y. used_of (loss s x y) y) from all);
        words = got s r is (λ x. x.words) ∙ sym (ap₂ (word_errors s) from upto);
        wrong_word_bits = got s r is (λ x. x.wordbits) ∙ sym (ap₂ (word_bits s) from upto);
        compares = got s r is (λ x. x.compared) ∙ sym (ap compared upto);
        errors = got s r is (λ x. x.errored) ∙ sym (ap₂ (errored s) from upto);
        far_end_errors = got s r is (λ x. x.farend) ∙ sym (ap₂ (far_end s) from upto);
        octet = octet_read;
        octet_0 = octet_0_read;
      }

-- an accepted call
module _ (s payload slot0 : List ℕ) (r : Reading) (payload' slot0' : List ℕ) (h : Read s payload slot0 r payload' slot0') (z : r.number ≡ 0) where
  front : payload' ≡ payload_of s (reading.start_in s) (reading.used_in s) ++ drop (496 * reading.used_in s) payload
  front = h.its_payload ∙ accepted_so r.number _ payload z

  pub reads_so : Accepted s payload slot0 r payload' slot0'
  reads_so =
      let d = read_place s payload slot0 r payload' slot0' h z in
      accepted_of s payload slot0 r payload' slot0' (read_accepted s payload slot0 r payload' slot0' h z)
      r.place d.0 ((finds_at s r.place d.0).1 d.1)
      (drop (496 * reading.used_in s) payload) (drop (16 * reading.used_in s) slot0)
      front (h.its_slot0 ∙ accepted_so r.number _ slot0 z)

-- the line that is written from p, o and c
module _ (p o : List ℕ) (c n : ℕ) (g : Inputs p o c n) where
  abbrev line : List ℕ
  line = written p o c (2 * n)

  pub long : length line ≡ 512 * n
  long = writes.length_written p o c (2 * n) ∙ omega arith

  pub framed : Framed line n
  framed =
      record {
        long = long;
        word = writes.word_at_lem g;
        bit_2 = writes.bit_2_at g;
        signals = λ m i hm hi.
            let f : 16 * m + (2 * i + 1) ≡ 2 * (8 * m + i) + 1 = omega arith in
            let e : (8 * m + i) % 8 ≡ i = omega arith in
            ap (λ x. bit_at line (frame_at 0 x)) f ∙ writes.signal_at_lem g (8 * m + i) (omega arith) (omega arith) ∙ ap (λ x. get_or signal x 0) e;
        agree = writes.agrees_at g;
      }

  module _ (octets : (i : ℕ) → get_or p i 0 < 256) where
    standard : 1 ≤ n → Standard line p o c (carries p o c (2 * n)) n
    unfolding carries
    standard least =
        record {
          long = long;
          payload = λ f j l a b. writes.payload_at g f j l a b (octets (index_of f j));
          word = λ i l. (word_holds line (frame_at 0 (2 * i))).0 (writes.word_at_lem g i l);
          first_check = writes.carried_at g 0 (omega arith);
          check = λ b l.
              let e : b + 1 ≡ suc b = omega arith in
              writes.carried_at g (b + 1) l ∙ ap (carries p o c) e ∙ sym (writes.check_at_lem p o c (2 * n) b (omega arith));
          last_check = writes.last_check g least;
          signals = writes.signal_at_lem g;
          e_bit = writes.e_bit_at g;
          bit_2 = writes.bit_2_at g;
          spare = writes.spare_at g;
        }

    module _ (four : 4 ≤ n) (few : n ≤ 16) where
      pub start : reading.start_in line ≡ 0
      start = sym (start_is line (record { place = 0; k = 0 }) (unbroken.stands_at_once line n framed four))

      whole_n : reading.whole_in line ≡ n
      whole_n = ap (whole line) start ∙ unbroken.all_whole line n framed

      no_loss : reading.loss_in line ≡ None
      no_loss = ap₂ (loss line) start whole_n ∙ unbroken.never_lost line n framed

      pub used_n : reading.used_in line ≡ n
      used_n = ap₂ used_of no_loss whole_n

      neither : (a b : Bool) → a ≡ false → b ≡ false → a || b ≡ false
      neither a b x y = rw (x, y)

      e_bits : (m : ℕ) → m < n → zeros_e line 0 m ≡ zero_es o m
      e_bits m l =
          let f : 2 * (8 * m + 6) + 1 ≡ 16 * m + 13 = omega arith in
          let f' : 2 * (8 * m + 7) + 1 ≡ 16 * m + 15 = omega arith in
          ap₂ (λ x y. (1 - x) + (1 - y))
          (ap (λ x. bit_at line (frame_at 0 x)) (sym f) ∙ writes.e_bit_at g (8 * m + 6) (omega arith) (omega arith))
          (ap (λ x. bit_at line (frame_at 0 x)) (sym f') ∙ writes.e_bit_at g (8 * m + 7) (omega arith) (omega arith))

      module _ (payload slot0 : List ℕ) (r : Reading) (payload' slot0' : List ℕ) (room : 496 * n ≤ length payload) (room_0 : 16 * n ≤ length slot0)
          (h : Read line payload slot0 r payload' slot0') where
        number : r.number ≡ 0
        number =
            read_number line payload slot0 r payload' slot0' h
            ∙ accepts line (length payload) (length slot0) (record {
              long =
                  omega (arith, long);
              short = omega (arith, long);
            }) (record { place = 0; k = 0 })
            (unbroken.stands_at_once line n framed four)
            (neither (ltb (length payload) (496 * reading.used_in line)) (ltb (length slot0) (16 * reading.used_in line))
            (le-ltb (length payload) (496 * reading.used_in line) (omega (arith, used_n)))
            (le-ltb (length slot0) (16 * reading.used_in line) (omega (arith, used_n))))

        a : Accepted line payload slot0 r payload' slot0'
        a = reads_so line payload slot0 r payload' slot0' h number

        taken : r ≡ reading.accept line
        taken = read_accepted line payload slot0 r payload' slot0' h number

        at_0 : r.start ≡ 0
        at_0 = from line r taken ∙ start

        all_n : r.used ≡ n
        all_n = upto line r taken ∙ used_n

        value : (f : Reading → ℕ) → f r ≡ f (reading.accept line)
        value f = got line r taken f

        reads_clean : ReadBack p o n r payload' slot0'
        unfolding slots far_end reading.accept
        reads_clean =
            record {
              number = number;
              place = value (λ x. x.place)
                  ∙ sym (place_is line (record { place = 0; k = 0 }) (unbroken.stands_at_once line n framed four));
              start = at_0;
              whole = all line r taken ∙ whole_n;
              used = all_n;
              lost = value (λ x. x.lost) ∙ ap lost_at no_loss;
              cause = value (λ x. x.cause) ∙ ap cause_of no_loss;
              words = a.words ∙ ap₂ (word_errors line) at_0 all_n ∙ unbroken.no_word_errors line n framed;
              wordbits = a.wrong_word_bits ∙ ap₂ (word_bits line) at_0 all_n ∙ unbroken.no_word_bits line n framed;
              compared = a.compares ∙ ap compared all_n;
              errored = a.errors ∙ ap₂ (errored line) at_0 all_n ∙ unbroken.none_errored line n framed;
              farend = a.far_end_errors ∙ ap₂ (far_end line) at_0 all_n ∙ sum_ext n (zeros_e line 0) (zero_es o) e_bits;
              payload = ap (take (496 * n)) (front line payload slot0 r payload' slot0' h number
                  ∙ ap₂ (λ x y. payload_of line x y ++ drop (496 * y) payload) start used_n)
                  ∙ take_at (payload_of line 0 n) (drop (496 * n) payload) (496 * n) (reads.payload_length line 0 n)
                  ∙ writes.payload_back g octets;
              overhead =
                  tab_agree (8 * n) (λ h. overhead_of h (get_or slot0' (2 * h + 1) 0))
                  (λ h. overhead_of h (octet_at line (slot_at 0 (2 * h + 1) 0)))
                  (λ i l. ap (overhead_of i) (a.octet_0 (2 * i + 1) (omega (arith, all_n)) ∙ ap (λ x. octet_at line (slot_at x (2 * i + 1) 0)) at_0))
                  ∙ writes.overhead_back g;
            }

-- what the numbers 3 and 15 tell
module _ (s payload slot0 : List ℕ) (r : Reading) (payload' slot0' : List ℕ) (h : Read s payload slot0 r payload' slot0') where
  is : r.number ≡ reading.refusal s (length payload) (length slot0)
  is = read_number s payload slot0 r payload' slot0' h

  pub found_none : r.number ≡ 3 → GoodLength s × (found_in s ≡ Nothing)
  found_none e = told_3 s (length payload) (length slot0) (sym is ∙ e)

  pub found_only : r.number ≡ 15 → GoodLength s × (found_in s ≡ BasicAt r.place)
  found_only e =
      let t = told_15 s (length payload) (length slot0) (sym is ∙ e) in
      let at : r.place ≡ reading.place_in s = ap (λ (x : Reading). x.place) (read_refused s payload slot0 r payload' slot0' 14 h e).0 in
      (t.0, t.1 ∙ ap BasicAt (sym at))

  pub basic_place : r.number ≡ 15 → BasicFirst s r.place
  basic_place e = ((finds_basic s r.place).0 (found_only e).1).0

  module _ (good : GoodLength s) where
    no_basic : r.number ≡ 3 ↔ ((p : ℕ) → p + 16384 ≤ 8 * length s → Basic s p → ⊥)
    no_basic = (
      λ e. (finds_nothing s).0 (found_none e).1,
      λ n. is ∙ refused_3 s (length payload) (length slot0) good ((finds_nothing s).1 n),
    )

    basic_only : r.number ≡ 15 ↔ ((p : ℕ) × BasicFirst s p) × ((p k : ℕ) → Stands s p k → ⊥)
    basic_only = (
      λ e. let f = (finds_basic s r.place).0 (found_only e).1 in ((r.place, f.0), f.1),
      λ w. is ∙ refused_15 s (length payload) (length slot0) good w.0.0 ((finds_basic s w.0.0).1 (w.0.1, w.1)),
    )

    pub none_so : (r.number ≡ 3) ⊎ (r.number ≡ 15) ↔ ((p k : ℕ) → Stands s p k → ⊥)
    none_so = (⊎_elim (λ e p k w. no_basic.0 e p w.room w.basic) (λ e. (basic_only.0 e).1), λ n. back n (first_basic s) refl)
      where
        back : ((p k : ℕ) → Stands s p k → ⊥) → (o : Option ℕ) → first_basic s ≡ o → (r.number ≡ 3) ⊎ (r.number ≡ 15)
        back n None e = inl (no_basic.1 ((none_basic s).0 e))
        back n (Some p) e = inr (basic_only.1 ((p, (basic_first s p).0 e), n))

    one_of_three : OneOf (r.number ≡ 3) (r.number ≡ 15) ((p : ℕ) × (k : ℕ) × Stands s p k)
    one_of_three =
        record {
          some = by (found_in s) refl;
          not_ab = λ e f. omega arith;
          not_ac = λ e w. none_so.0 (inl e) w.0 w.1 w.2;
          not_bc = λ e w. none_so.0 (inr e) w.0 w.1 w.2;
        }
      where
        by : (f : Found) → found_in s ≡ f → (r.number ≡ 3) ⊎ ((r.number ≡ 15) ⊎ ((p : ℕ) × (k : ℕ) × Stands s p k))
        by Nothing e = inl (is ∙ refused_3 s (length payload) (length slot0) good e)
        by (BasicAt p) e = inr (inl (is ∙ refused_15 s (length payload) (length slot0) good p e))
        by (At p k) e = inr (inr (p, k, ((finds_at s p k).0 e).stands))

pub demand_2 : Demand2
demand_2 =
    record {
      reads = reads_so;
      none = λ s payload slot0 r payload' slot0' good h. none_so s payload slot0 r payload' slot0' h good;
      none_at_all = λ s payload slot0 r payload' slot0' good h.
          Iff.trans (none_so s payload slot0 r payload' slot0' h good) (none_at_all s);
      no_basic = λ s payload slot0 r payload' slot0' good h. no_basic s payload slot0 r payload' slot0' h good;
      basic_only = λ s payload slot0 r payload' slot0' good h. basic_only s payload slot0 r payload' slot0' h good;
      basic_place = basic_place;
      one_of_three = λ s payload slot0 r payload' slot0' good h. one_of_three s payload slot0 r payload' slot0' h good;
      some_k = some_k;
      found_at = finds_at;
      found_basic = finds_basic;
      found_nothing = finds_nothing;
      writes = λ p o c out r out' octets w z.
          let a = wrote_accepted w z in
          rw (wrote_line w z, wrote_check w z) (standard p o c (multiframes p) a.inputs octets a.least);
      reads_back = λ p o c out w out' octets h z four payload slot0 r payload' slot0' room room_0 d.
          let a = wrote_accepted h z in
          reads_clean p o c (multiframes p) a.inputs octets four a.most payload slot0 r payload' slot0' room room_0 (rw (wrote_line h z) at d);
      joins = λ p p' o o' c x x' y y' r r' w z w' z'. two_calls w z w' z';
      standard_single = standard_single;
      check_divides = check_divides;
      check_unique = check_unique;
    }
