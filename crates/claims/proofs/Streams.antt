-- The proof of Streams.
use Rattle.std.specs.Prelude.{if◌then◌else◌}
use Prim.Native.Nat.{ℕ, zero, suc, ◌+◌, ◌-◌, ◌*◌, ◌/◌, ◌%◌, ◌^◌, ◌≤◌, ◌<◌}
use mathlib.Core.Path.{◌≡◌, refl, sym, ap, ap₂, subst, ◌∙◌}
use mathlib.Core.Bool.{Bool, true, false, not, true≢false}
use mathlib.Core.List.{List, [], ◌∷◌, ◌++◌, append-nil}
use mathlib.Core.Logic.{◌↔◌, ◌≢◌}
use mathlib.Mathlib.Data.Bool.Basic.{or-eq-false-eq-eq-false-and-eq-false}
use native.Mathlib.Omega.{arith}
use borrow.Author.Tests.{le-ltb, eqb-true}
use lib.Dec.{eqb}
use lib.ListN.{length, get_or, take, drop, length-append, length-take}
use lib.Seq.{take_at}
use Rattle.base.specs.Answer.{accepted, Refusal, first_number}
use Rattle.base.proofs.AnswerLaws.{accepted_so, accepted_not, first_tells}
use Rattle.base.specs.Tab.{tab_from}
use Rattle.base.proofs.TabLaws.{length_tab, get_d_tab}
use Rattle.line.specs.Bit.{bit_at, field, octet_at}
use Rattle.line.proofs.BitLaws.{bit_of_field}
use Rattle.align.specs.Place.{found_in, number_of, place_of, start_of}
use Rattle.align.specs.Stands.{Basic, BasicFirst, Stands}
use Rattle.align.specs.declared.Found.{Found}
use Rattle.align.specs.declared.Found.TheVariants.{At, BasicAt, Nothing}
use Rattle.align.proofs.Laws.{finds_basic, finds_nothing}
use Rattle.measure.specs.Reading.{payload_of, slot0_of, errored}
use Rattle.measure.proofs.Laws.{payload_length, slot0_length}
use Rattle.read.specs.Entry as reads
use Rattle.read.specs.Entry.{GoodLength, place_in, start_in, used_in, Read}
use Rattle.read.specs.Answer.{Reading}
use Rattle.read.proofs.EntryLaws.{short_output, read_number, read_accepted, read_refused}
use Rattle.growth.specs.Growth.{Grown, nothing}
use Rattle.growth.specs.declared.Line.{Line}
use Rattle.growth.proofs.Sees.{Sees}
use Rattle.growth.proofs.Counts.{check_seen, carried_seen}
use Rattle.growth.proofs.Bounds.{grown_short, grown_sizes}
use Rattle.growth.proofs.AtOnce.{found_at_once}
use Rattle.growth.proofs.SearchCut.{fed_cut}
use Rattle.chunk.specs.Taking.{lacks_room, over}
use Rattle.stream.specs.Entry.{is_over, grown_of, feed_refusals, feed_refusal, feed_accept, end_refusal, ending, Feeds}
use Rattle.stream.specs.Runs.{Call, chunk, end, Run, begun, called, run, line_refusals, line_reading, line_payload, line_slot0}
use Rattle.stream.specs.declared.Stream.{Stream}
use Rattle.stream.specs.Answer.{Fed}
use Rattle.stream.specs.Answer.{Ended}
use Rattle.stream.proofs.EntryLaws.{sound, ended_21}
use Rattle.stream.proofs.RunLaws.{fed_number, fed_taken, fed_refused, end_number, end_refused, left, follows, lost_none}
use Rattle.stream.proofs.RunLaws.{waits_with, holds_last, grown_few, Joined, begun_joined, run_joined, came, over_is_ended}
use Rattle.stream.proofs.RunLaws.{end_is_the_lines, left_is_the_lines}
use Rattle.claims.specs.Demand2.{Accepted}
use Rattle.claims.specs.Demand3.{Agreeing, OnlyThere}
use Rattle.claims.specs.Streams.{Reached, Steps, HoldsLast, cut_at, AgreeingFrom, EndsClean, Streams}
use Rattle.claims.proofs.Counts.{none_differs}
use Rattle.claims.proofs.Demand2.{accepted_of}
use Rattle.claims.proofs.Demand3.{demand_3}
use Rattle.claims.proofs.Accepts.{stood}

-- an output that an accepted call fills by l has it at its front
front : {n : ℕ} (l out : List ℕ) {out' : List ℕ} (k m : ℕ) → out' ≡ accepted n (l ++ drop k out) out → n ≡ 0
    → length l ≡ k → m ≡ k → l ≡ take m out'
front {n} l out k m e z long same =
    sym (ap₂ take same (e ∙ accepted_so n (l ++ drop k out) out z) ∙ take_at l (drop k out) k long)

-- A call is a step

module _ (r : Run) (t payload slot0 : List ℕ) (f : Fed) (window' payload' slot0' : List ℕ)
    (h : Feeds r.stream r.window t payload slot0 f window' payload' slot0') where
  abbrev gains : Grown
  gains = grown_of r.stream r.window t

  abbrev stepped : ℕ → Run
  stepped n =
      accepted n (record {
        stream = (feed_accept gains).stream;
        window = over gains.window r.window;
        line = r.line ++ t;
        payload = r.payload ++ gains.payload;
        slot0 = r.slot0 ++ gains.slot0;
      }) r

  feeds : Steps r t f window' payload' slot0' (called r (chunk t (length payload) (length slot0)))
  unfolding called
  feeds = by (feed_refusal r.stream r.window t (length payload) (length slot0)) (fed_number h)
    where
      by : (n : ℕ) → f.number ≡ n → Steps r t f window' payload' slot0' (stepped n)
      by zero z =
          let e = fed_taken h z in
          let many : f.multiframes ≡ gains.multiframes = ap (λ (f : Fed). f.multiframes) e in
          let sizes = grown_sizes r.stream.line (take r.stream.fill r.window ++ t) in
          record {
            stream = sym (ap (λ (f : Fed). f.stream) e);
            window = sym (h.its_window ∙ accepted_so f.number (over gains.window r.window) r.window z);
            line = sym (accepted_so f.number (r.line ++ t) r.line z);
            payload = ap (λ l. r.payload ++ l)
                (front gains.payload payload (length gains.payload) (496 * f.multiframes) h.its_payload z refl
                (ap (λ m. 496 * m) many ∙ sym sizes.0));
            slot0 = ap (λ l. r.slot0 ++ l)
                (front gains.slot0 slot0 (length gains.slot0) (16 * f.multiframes) h.its_slot0 z refl
                (ap (λ m. 16 * m) many ∙ sym sizes.1));
          }
      by (suc n) z =
          let e = fed_refused n h z in
          let many : f.multiframes ≡ 0 = ap (λ (f : Fed). f.multiframes) e.0 in
          record {
            stream = sym (ap (λ (f : Fed). f.stream) e.0);
            window = sym e.1;
            line = sym (ap (λ k. accepted k (r.line ++ t) r.line) z);
            payload = sym (ap (λ m. r.payload ++ take (496 * m) payload') many ∙ append-nil r.payload);
            slot0 = sym (ap (λ m. r.slot0 ++ take (16 * m) slot0') many ∙ append-nil r.slot0);
          }

finishes : (r : Run)
    → called r end
    ≡ record {
      stream = (ending r.stream).stream;
      window = r.window;
      line = r.line;
      payload = r.payload;
      slot0 = r.slot0;
    }
unfolding called
finishes r = by (end_refusal r.stream) refl
  where
    after : Stream → Run
    after st = record { stream = st; window = r.window; line = r.line; payload = r.payload; slot0 = r.slot0 }

    by : (n : ℕ) → end_refusal r.stream ≡ n
        → accepted n (after (ending r.stream).stream) r ≡ after (ending r.stream).stream
    by zero e = refl
    by (suc n) e = ap after (sym (ap (λ (x : Ended). x.stream) (end_refused r.stream n (end_number r.stream ∙ e))))

-- After the end

over_21 : (st : Stream) (w t : List ℕ) (a b : ℕ) → is_over st ≡ true → feed_refusal st w t a b ≡ 21
unfolding feed_refusal
over_21 st w t a b e = rw e

stays : (r : Run) (calls : List Call) → r.stream.ended ≡ true → run r calls ≡ r
unfolding run called is_over
stays r [] e = refl
stays r (c ∷ cs) e = ap (λ x. run x cs) (unchanged c) ∙ stays r cs e
  where
    is_over_lem : is_over r.stream ≡ true
    is_over_lem = rw e

    unchanged : (c : Call) → called r c ≡ r
    unchanged (chunk t a b) =
        let n = over_21 r.stream r.window t a b is_over_lem in
        accepted_not (feed_refusal r.stream r.window t a b) _ r (λ z. omega arith)
    unchanged end =
        let n = ended_21 r.stream is_over_lem in accepted_not (end_refusal r.stream) _ r (λ z. omega arith)

-- Any run from the start

joined : (r : Run) → Reached r → Joined r
joined r h = subst Joined (sym h.there) (run_joined (begun h.window) h.calls (begun_joined h.window h.sized))

ends : (r : Run) → Reached r → (ending r.stream).reading ≡ line_reading r.stream.ended r.line
ends r h = end_is_the_lines r (joined r h)

outputs : (r : Run) → Reached r → (r.payload ≡ line_payload r.line) × (r.slot0 ≡ line_slot0 r.line)
outputs r h = left_is_the_lines r (joined r h)

-- its number
module _ (r : Run) (h : Reached r) where
  said : (ending r.stream).reading.number ≡ first_number (line_refusals r.stream.ended r.line)
  unfolding line_reading reads.accept
  said = ap (λ (x : Reading). x.number) (ends r h) ∙ by (first_number (line_refusals r.stream.ended r.line))
    where
      by : (n : ℕ) → (accepted n (reads.accept r.line) (reads.refuse n (reads.refused_place r.line n))).number ≡ n
      by zero = refl
      by (suc n) = refl

-- an end that is accepted
module _ (r : Run) (h : Reached r) (z : (ending r.stream).reading.number ≡ 0) where
  abbrev refusals : List Refusal
  refusals = line_refusals r.stream.ended r.line

  none_applies : first_number refusals ≡ 0
  none_applies = sym (said r h) ∙ z

  taken : (ending r.stream).reading ≡ reads.accept r.line
  unfolding line_reading
  taken = ends r h ∙ accepted_so (first_number refusals) (reads.accept r.line) _ none_applies

  placed : (p : ℕ) × (k : ℕ) × (found_in r.line ≡ At p k)
  placed =
      let t = rw none_applies at (first_tells refusals refl) in
      stood (found_in r.line) t.1.1.0 t.1.1.1.0

  reads_so : Accepted r.line [] [] (ending r.stream).reading r.payload r.slot0
  unfolding line_payload line_slot0
  reads_so =
      let s = r.line in
      let q = start_in s in
      let g = used_in s in
      let o = outputs r h in
      let w = placed in
      let n = ap number_of w.2 in
      accepted_of s [] [] (ending r.stream).reading r.payload r.slot0 taken w.0 w.1 w.2 [] []
      (o.0 ∙ accepted_so (number_of (found_in s)) (payload_of s q g) [] n ∙ sym (append-nil (payload_of s q g)))
      (o.1 ∙ accepted_so (number_of (found_in s)) (slot0_of s q g) [] n ∙ sym (append-nil (slot0_of s q g)))

-- one that is refused for what is found

line_number : (s : List ℕ) → 2048 ≤ length s → first_number (line_refusals false s) ≡ number_of (found_in s)
line_number s h = rw (le-ltb (length s) 2048 h) (by (found_in s))
  where
    by : (f : Found) → (if eqb (number_of f) 3 then 3 else if eqb (number_of f) 15 then 15 else 0) ≡ number_of f
    by (At p k) = refl
    by (BasicAt p) = refl
    by Nothing = refl

found_3 : (f : Found) → number_of f ≡ 3 → f ≡ Nothing
found_3 (At p k) e = absurd (omega arith)
found_3 (BasicAt p) e = absurd (omega arith)
found_3 Nothing e = refl

found_15 : (f : Found) → number_of f ≡ 15 → f ≡ BasicAt (place_of f)
found_15 (At p k) e = absurd (omega arith)
found_15 (BasicAt p) e = refl
found_15 Nothing e = absurd (omega arith)

module _ (r : Run) (h : Reached r) where
  module _ (going : r.stream.ended ≡ false) (long : 2048 ≤ length r.line) where
    number_found : (ending r.stream).reading.number ≡ number_of (found_in r.line)
    number_found = said r h ∙ ap (λ b. first_number (line_refusals b r.line)) going ∙ line_number r.line long

    no_basic : (ending r.stream).reading.number ≡ 3 ↔ ((p : ℕ) → p + 16384 ≤ 8 * length r.line → Basic r.line p → ⊥)
    no_basic = (
      λ e. (finds_nothing r.line).0 (found_3 (found_in r.line) (sym number_found ∙ e)),
      λ n. number_found ∙ ap number_of ((finds_nothing r.line).1 n),
    )

    basic_only : (ending r.stream).reading.number ≡ 15
        ↔ ((p : ℕ) × BasicFirst r.line p) × ((p k : ℕ) → Stands r.line p k → ⊥)
    basic_only = (
      λ e.
          let p = place_of (found_in r.line) in
          let w = (finds_basic r.line p).0 (found_15 (found_in r.line) (sym number_found ∙ e)) in
          ((p, w.0), w.1),
      λ n. number_found ∙ ap number_of ((finds_basic r.line n.0.0).1 (n.0.1, n.1)),
    )

  basic_place : (ending r.stream).reading.number ≡ 15 → BasicFirst r.line (ending r.stream).reading.place
  unfolding line_reading place_in
  basic_place e =
      let s = r.line in
      let n = sym (said r h) ∙ e in
      let t = rw n at (first_tells (line_refusals r.stream.ended s) refl) in
      let f = found_15 (found_in s) (eqb-true (number_of (found_in s)) 15 t.1.1.1) in
      let at : (ending r.stream).reading.place ≡ place_of (found_in s) =
      ap (λ (x : Reading). x.place) (ends r h)
      ∙ ap (λ n. (accepted n (reads.accept s) (reads.refuse n (reads.refused_place s n))).place) n in
      rw at ((finds_basic s (place_of (found_in s))).0 f).0

-- A line that is an image

module _ (s : List ℕ) (good : GoodLength s) where
  image_number : (a b : ℕ) → reads.refusal s a b ≢ 4 → reads.refusal s a b ≡ number_of (found_in s)
  unfolding reads.refusal
  image_number a b other =
      let e : reads.refusal s a b ≡ numbered (found_in s) (short_output s a b) =
      rw (le-ltb (length s) 2048 good.long, le-ltb 8192 (length s) good.short) in
      e ∙ by (found_in s) (short_output s a b) (λ d. other (e ∙ d))
    where
      numbered : Found → Bool → ℕ
      numbered f short =
          if eqb (number_of f) 3 then 3 else if eqb (number_of f) 15 then 15 else if short then 4 else 0

      by : (f : Found) (short : Bool) → numbered f short ≢ 4 → numbered f short ≡ number_of f
      by (At p k) true o = absurd (o refl)
      by (At p k) false o = refl
      by (BasicAt p) short o = refl
      by Nothing short o = refl

as_read : (r : Run) → Reached r → r.stream.ended ≡ false → GoodLength r.line
    → (payload slot0 : List ℕ) (x : Reading) (payload' slot0' : List ℕ)
    → Read r.line payload slot0 x payload' slot0' → x.number ≢ 4
    → ((ending r.stream).reading ≡ x)
    × (r.payload ≡ take (496 * x.used) payload')
    × (r.slot0 ≡ take (16 * x.used) slot0')
unfolding line_reading reads.reading reads.accept line_payload line_slot0
as_read r h going good payload slot0 x payload' slot0' d other =
    let o = outputs r h in
    let w = by (number_of (found_in s)) refl in (
      ends r h ∙ ap (λ b. line_reading b s) going
          ∙ ap (λ n. accepted n (reads.accept s) (reads.refuse n (reads.refused_place s n))) (line_number s good.long ∙ sym found)
          ∙ sym d.its_answer,
      o.0 ∙ w.0,
      o.1 ∙ w.1,
    )
  where
    s : List ℕ
    s = r.line

    number : x.number ≡ reads.refusal s (length payload) (length slot0)
    number = read_number s payload slot0 x payload' slot0' d

    found : reads.refusal s (length payload) (length slot0) ≡ number_of (found_in s)
    found = image_number s good (length payload) (length slot0) (λ e. other (number ∙ e))

    by : (n : ℕ) → number_of (found_in s) ≡ n
        → (line_payload s ≡ take (496 * x.used) payload') × (line_slot0 s ≡ take (16 * x.used) slot0')
    by zero e =
        let q = start_in s in
        let g = used_in s in
        let z = number ∙ found ∙ e in
        let u = ap (λ (x : Reading). x.used) (read_accepted s payload slot0 x payload' slot0' d z) in (
          accepted_so (number_of (found_in s)) (payload_of s q g) [] e
              ∙ front (payload_of s q g) payload (496 * g) (496 * x.used) d.its_payload z (payload_length s q g)
              (ap (λ g. 496 * g) u),
          accepted_so (number_of (found_in s)) (slot0_of s q g) [] e
              ∙ front (slot0_of s q g) slot0 (16 * g) (16 * x.used) d.its_slot0 z (slot0_length s q g)
              (ap (λ g. 16 * g) u),
        )
    by (suc n) e =
        let z = number ∙ found ∙ e in
        let u : x.used ≡ 0 = ap (λ (x : Reading). x.used) (read_refused s payload slot0 x payload' slot0' n d z).0 in (
          ap (λ k. accepted k (payload_of s (start_in s) (used_in s)) []) e ∙ sym (ap (λ g. take (496 * g) payload') u),
          ap (λ k. accepted k (slot0_of s (start_in s) (used_in s)) []) e ∙ sym (ap (λ g. take (16 * g) slot0') u),
        )

-- What is held

held : (r : Run) → Reached r → HoldsLast r
unfolding start_in
held r g =
    let h = joined r g in
    let s = r.line in
    let before : r.stream.line.before ≡ (left s).line.before = sym (ap (λ (c : Line). c.before) h.line) in
    let used : r.stream.line.used ≡ (left s).line.used = sym (ap (λ (c : Line). c.used) h.line) in
    let lost : r.stream.line.lost ≡ (left s).line.lost = sym (ap (λ (c : Line). c.lost) h.line) in
    let found : r.stream.line.found ≡ found_in s = sym (ap (λ (c : Line). c.found) h.line) ∙ found_at_once s in
    let number : number_of r.stream.line.found ≡ number_of (found_in s) = ap number_of found in
    record {
      octets = came r h;
      last = sym h.window ∙ holds_last s ∙ ap (λ n. drop n s) (sym before);
      window = h.sized;
      most = omega (arith, h.fill, grown_short nothing s);
      waiting = λ n. before ∙ waits_with s (omega (arith, number));
      following = λ n l.
          before ∙ (follows s (sym number ∙ n)).before (sym lost ∙ l)
          ∙ sym (ap₂ (λ q u. q / 8 + 512 * (u - 1)) (ap start_of found) used);
      fewer = λ n. omega (arith, h.fill, (follows s (sym number ∙ n)).short);
      none = λ l. sym h.fill ∙ lost_none s (λ z. l (lost ∙ z));
    }

-- Room for any chunk

room : (st : Stream) (window t : List ℕ) (a b : ℕ)
    → 496 * (length t / 512 + 4) ≤ a → 16 * (length t / 512 + 4) ≤ b → feed_refusal st window t a b ≢ 4
unfolding feed_refusal lacks_room
room st window t a b p o e =
    let d = rw e at (first_tells (feed_refusals st window t a b) refl) in
    let h = (or-eq-false-eq-eq-false-and-eq-false (is_over st) (not (eqb (length window) 2048))).0 d.0 in
    let s = take st.fill window ++ t in
    let m = (grown_of st window t).multiframes in
    let long : length s ≤ 2048 + length t =
    omega (arith, length-append (take st.fill window) t, length-take st.fill window, (sound st h.0).fill) in
    let few : m ≤ length t / 512 + 4 = omega (arith, long, grown_few st.line s) in
    let no : lacks_room a b m ≡ false = rw (le-ltb a (496 * m) (omega arith), le-ltb b (16 * m) (omega arith)) in
    true≢false (sym d.1.1 ∙ no)

-- Demand 3

bit_is : (s : List ℕ) (p : ℕ) → bit_at s p ≡ get_or s (p / 8) 0 / 2 ^ (7 - p % 8) % 2
unfolding bit_at
bit_is s p = refl

module _ (s : List ℕ) (q n : ℕ) where
  cut_length : length (cut_at s q n) ≡ 512 * n
  unfolding cut_at
  cut_length = length_tab (512 * n) (λ i. octet_at s (q + 8 * i))

  cut_octet : (i : ℕ) → i < 512 * n → get_or (cut_at s q n) i 0 ≡ octet_at s (q + 8 * i)
  unfolding cut_at
  cut_octet i h = get_d_tab (512 * n) (λ i. octet_at s (q + 8 * i)) i 0 h

  cut_bits : (p : ℕ) → p < 4096 * n → bit_at (cut_at s q n) p ≡ bit_at s (q + p)
  cut_bits p h =
      let a = q + 8 * (p / 8) in
      let o = p % 8 in
      let e : 8 ≡ o + 1 + (7 - o) = omega arith in
      let d : a + o ≡ q + p = omega arith in
      bit_is (cut_at s q n) p
      ∙ ap (λ x. x / 2 ^ (7 - o) % 2) (cut_octet (p / 8) (omega arith) ∙ ap (field s a) e)
      ∙ bit_of_field s a o (7 - o)
      ∙ ap (bit_at s) d

  -- blocks that agree on the line agree in what is cut out
  cut_agrees : AgreeingFrom s q n → Agreeing (cut_at s q n) n
  cut_agrees agree b h =
      let t = cut_at s q n in
      let sees : Sees s t q (4096 * n) = λ p l. sym (cut_bits p l) in
      let at = q + 2048 * b in
      sym (check_seen s t q (4096 * n) sees at (2048 * b) refl (omega arith))
      ∙ agree b h
      ∙ carried_seen s t q (4096 * n) sees (at + 2048) (2048 * b + 2048) (omega arith) (omega arith)

burst : (n q : ℕ) (s t : List ℕ) → AgreeingFrom s q n → AgreeingFrom t q n → OnlyThere n (cut_at s q n) (cut_at t q n)
unfolding cut_at tab_from
burst zero q s t u v = λ a only p ne. absurd (ne refl)
burst (suc n) q s t u v =
    demand_3.burst (suc n) (cut_at s q (suc n)) (cut_at t q (suc n))
    (record { some = omega arith; whole = cut_length s q (suc n) })
    (record { some = omega arith; whole = cut_length t q (suc n) })
    (cut_agrees s q (suc n) u) (cut_agrees t q (suc n) v)

clean_agrees : (n q : ℕ) (r : Run) → EndsClean r q n → AgreeingFrom r.line q n
unfolding reads.accept
clean_agrees n q r c =
    let s = r.line in
    let x = taken r c.reached c.number in
    let start : start_in s ≡ q = sym (ap (λ (x : Reading). x.start) x) ∙ c.start in
    let used : used_in s ≡ n = sym (ap (λ (x : Reading). x.used) x) ∙ c.used in
    let z : errored s (start_in s) (used_in s) ≡ 0 = sym (ap (λ (x : Reading). x.errored) x) ∙ c.errored in
    (none_differs s q n).0 (sym (ap₂ (errored s) start used) ∙ z)

pub streams : Streams
streams =
    record {
      feeds = feeds;
      finishes = finishes;
      ends = ends;
      left = outputs;
      reads = reads_so;
      no_basic = no_basic;
      basic_only = basic_only;
      basic_place = basic_place;
      cut_anywhere = λ r r' h h' e d.
          let o = outputs r h in
          let o' = outputs r' h' in (
            ends r h ∙ ap₂ line_reading d e ∙ sym (ends r' h'),
            o.0 ∙ ap line_payload e ∙ sym o'.0,
            o.1 ∙ ap line_slot0 e ∙ sym o'.1,
          );
      as_read = as_read;
      cut = fed_cut;
      over = λ r h. over_is_ended r (joined r h);
      stays = stays;
      limit = λ r h. (joined r h).limited;
      held = held;
      room = room;
      aligned = λ s q n h. (record { some = h; whole = cut_length s q n }, cut_bits s q n);
      burst = burst;
      clean = λ n q r r' c c'. burst n q r.line r'.line (clean_agrees n q r c) (clean_agrees n q r' c');
    }
