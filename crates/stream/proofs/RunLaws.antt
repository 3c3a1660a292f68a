-- The laws of calls and of runs: two results of a call are equal, and what any calls leave of a stream is what the joined
-- line leaves that comes at once.
use Rattle.std.specs.Prelude.{if◌then◌else◌, Result, Ok, Err}
use Prim.Native.Nat.{ℕ, zero, suc, ◌+◌, ◌-◌, ◌*◌, ◌/◌, ◌%◌, ◌≤◌, ◌<◌}
use mathlib.Core.Path.{◌≡◌, refl, sym, ap, ap₂, subst, ◌∙◌}
use mathlib.Core.Bool.{Bool, true, false, not, ◌||◌, true≢false}
use mathlib.Core.List.{List, [], ◌∷◌, ◌++◌}
use mathlib.Core.Logic.{◌≢◌, ⊎_elim}
use Rattle.std.specs.Prelude.{Option, None, Some}
use native.Mathlib.Nat.{zero-add}
use native.Mathlib.Omega.{arith}
use borrow.Author.Tests.{le-ltb, ltb-false, ne_eqb}
use lib.Dec.{eqb, ltb, lit≤}
use lib.ListN.{length, take, drop, length-append, length-drop}
use lib.Seq.{take-append_seam, drop-drop}
use Rattle.base.specs.Answer.{accepted, first_number}
use Rattle.base.specs.Number.{refusal_number, refusal_place}
use Rattle.base.specs.declared.Refused.{Refused}
use Rattle.base.specs.declared.Refused.TheVariants.{NoSignals}
use Rattle.base.proofs.NumberLaws.{same_refusal, refusal_above_0}
use Rattle.base.specs.Tab.{first}
use Rattle.base.proofs.AnswerLaws.{accepted_so, accepted_not, accepted_single, first_tells}
use Rattle.align.specs.Place.{first_standing, first_basic, found_in, number_of, place_of, start_of}
use Rattle.align.specs.declared.Found.{Found}
use Rattle.align.specs.declared.Found.TheVariants.{At, BasicAt, Nothing}
use Rattle.align.proofs.Laws.{found_at, first_within, finds_basic}
use Rattle.measure.specs.Reading.{whole, loss, loss_from, lost_at, cause_of, used_of, compared, payload_of, slot0_of}
use Rattle.measure.proofs.LossLaws.{loss_is}
use Rattle.measure.proofs.FromLaws.{from_late, used_upto}
use Rattle.read.specs.declared.Reading as code
use Rattle.read.proofs.AnswerLaws.{same_answer}
use Rattle.read.specs.Entry as reads
use Rattle.read.specs.Entry.{place_in, start_in, used_in, loss_in}
use Rattle.growth.specs.Growth.{Grown, unread, nothing, kept_of, read_on, read_from, searched, grown_by, grown, after}
use Rattle.growth.specs.Small.{Small}
use Rattle.growth.specs.declared.Line.{Line}
use Rattle.growth.proofs.SearchCut.{grown_cut}
use Rattle.growth.proofs.Bounds.{grown_octets, grown_short, grown_small, start_within}
use Rattle.growth.proofs.AtOnce.{AtOnce, at_once, found_at_once, none_left}
use Rattle.chunk.specs.Taking.{lacks_room, over}
use Rattle.stream.specs.Entry.{is_far, is_over, octets_came, grown_of, feed_refusals, feed_refusal, feed_accept, feed_refuse}
use Rattle.stream.specs.Entry.{feeding, Feeds, end_refusal, cause_by, end_accept, end_place, ending}
use Rattle.stream.specs.Runs.{Call, chunk, end, Run, begun, called, run, line_refusals, line_reading, line_payload, line_slot0}
use Rattle.stream.specs.declared.Stream.{Stream}
use Rattle.stream.specs.Answer.{Fed, Ended, fed_answer, end_answer}
use Rattle.stream.proofs.EntryLaws.{refused_as, not_ended, ended_so}

-- A call

-- a chunk is answered by its number
module _ {st : Stream} {w t payload slot0 : List ℕ} {r : Fed} {w' payload' slot0' : List ℕ}
    (h : Feeds st w t payload slot0 r w' payload' slot0') where
  abbrev number : ℕ
  number = feed_refusal st w t (length payload) (length slot0)

  pub fed_number : r.number ≡ number
  unfolding feeding
  fed_number = ap (λ (x : Fed). x.number) h.its_answer ∙ go number
    where
      go : (n : ℕ) → (accepted n (feed_accept (grown_of st w t)) (feed_refuse st n)).number ≡ n
      go zero = refl
      go (suc n) = refl

  pub fed_taken : r.number ≡ 0 → r ≡ feed_accept (grown_of st w t)
  unfolding feeding
  fed_taken z =
      h.its_answer ∙ accepted_so number (feed_accept (grown_of st w t)) (feed_refuse st number) (sym fed_number ∙ z)

pub fed_single : {st : Stream} {w t payload slot0 : List ℕ} {r r' : Fed} {x x' p p' o o' : List ℕ}
    → Feeds st w t payload slot0 r x p o → Feeds st w t payload slot0 r' x' p' o'
    → (r ≡ r') × (x ≡ x') × (p ≡ p') × (o ≡ o')
fed_single h h' =
    let e = h.its_answer ∙ sym h'.its_answer in
    let n = ap (λ (x : Fed). x.number) e in (
      e,
      accepted_single _ _ _ _ _ _ n h.its_window h'.its_window,
      accepted_single _ _ _ _ _ _ n h.its_payload h'.its_payload,
      accepted_single _ _ _ _ _ _ n h.its_slot0 h'.its_slot0,
    )

-- two results with which the stream is fed are equal, and so is the stream then

no_place : (e : Refused) → (refusal_number e ≡ 15 → ⊥) → refusal_place e ≡ 0
no_place (NoSignals p) h = absurd (h refl)
no_place _ h = refl

first_of : (a b c : Bool) → ◌≡◌ {A = ℕ} (if a then 21 else if b then 17 else if c then 4 else 0) 15 → ⊥
first_of true b c k = omega (arith, k)
first_of false true c k = omega (arith, k)
first_of false false true k = omega (arith, k)
first_of false false false k = omega (arith, k)

fed_no_place : {st : Stream} {w t payload slot0 : List ℕ} (st' : Stream) (e : Refused) {w' payload' slot0' : List ℕ}
    → Feeds st w t payload slot0 (fed_answer st' (Err e)) w' payload' slot0' → refusal_place e ≡ 0
unfolding feed_refusal
fed_no_place {st} {w} {t} {payload} {slot0} st' e h =
    no_place e
    (λ k. first_of (is_over st || not (eqb (length w) 2048)) (ltb 16777216 (octets_came st + length t))
    (lacks_room (length payload) (length slot0) (grown_of st w t).multiframes) (sym (fed_number h) ∙ k))

same_fed : (st st' : Stream) (r r' : Result ℕ Refused) → ((e : Refused) → r ≡ Err e → refusal_place e ≡ 0)
    → ((e : Refused) → r' ≡ Err e → refusal_place e ≡ 0) → fed_answer st r ≡ fed_answer st' r' → r ≡ r'
same_fed st st' (Ok n) (Ok m) p q e = ap Ok (ap (λ (x : Fed). x.multiframes) e)
same_fed st st' (Ok n) (Err f) p q e = absurd (refusal_above_0 f (sym (ap (λ (x : Fed). x.number) e)))
same_fed st st' (Err f) (Ok n) p q e = absurd (refusal_above_0 f (ap (λ (x : Fed). x.number) e))
same_fed st st' (Err f) (Err g) p q e =
    ap Err (same_refusal f g (ap (λ (x : Fed). x.number) e) (p f refl ∙ sym (q g refl)))

pub feed_single : {st : Stream} {w t payload slot0 : List ℕ} (st' st'' : Stream) (r r' : Result ℕ Refused) {x x' p p' o o' : List ℕ}
    → Feeds st w t payload slot0 (fed_answer st' r) x p o → Feeds st w t payload slot0 (fed_answer st'' r') x' p' o'
    → (st' ≡ st'') × (r ≡ r') × (x ≡ x') × (p ≡ p') × (o ≡ o')
feed_single st' st'' r r' h h' =
    let s = fed_single h h' in (
      stream_of st' r ∙ ap (λ (x : Fed). x.stream) s.0 ∙ sym (stream_of st'' r'),
      same_fed st' st'' r r' (λ e z. fed_no_place st' e (rw z at h)) (λ e z. fed_no_place st'' e (rw z at h')) s.0,
      s.1,
      s.2,
      s.3,
    )
  where
    stream_of : (st : Stream) (r : Result ℕ Refused) → st ≡ (fed_answer st r).stream
    stream_of st (Ok n) = refl
    stream_of st (Err e) = refl

-- and two with which it is ended
pub end_single : (st st' st'' : Stream) (r r' : Result code.Reading Refused) → end_answer st' r ≡ ending st → end_answer st'' r' ≡ ending st
    → (st' ≡ st'') × (r ≡ r')
end_single st st' st'' r r' h h' =
    let e = h ∙ sym h' in
    (ap (λ (x : Ended). x.stream) e, same_answer r r' (ap (λ (x : Ended). x.reading) e))

-- a refusal leaves all as it was
pub fed_refused : {st : Stream} {w t payload slot0 : List ℕ} {r : Fed} {w' payload' slot0' : List ℕ} (n : ℕ)
    → Feeds st w t payload slot0 r w' payload' slot0' → r.number ≡ suc n
    → (r ≡ feed_refuse st (suc n)) × (w' ≡ w) × (payload' ≡ payload) × (slot0' ≡ slot0)
fed_refused {st} {w} {t} {payload} {slot0} n h e =
    fed_single h (refused_as st w t payload slot0 n (sym (fed_number h) ∙ e))

-- an end too
module _ (st : Stream) where
  pub end_number : (ending st).reading.number ≡ end_refusal st
  unfolding end_accept
  end_number = go (end_refusal st) refl
    where
      go : (n : ℕ) → end_refusal st ≡ n → (ending st).reading.number ≡ n
      go zero e = ap (λ (x : Ended). x.reading.number) (sym (ended_so st e (end_accept st) refl))
      go (suc n) e = ap (λ (x : Ended). x.reading.number) (sym (not_ended st n e (end_place st (suc n)) refl))

  pub end_refused : (n : ℕ) → (ending st).reading.number ≡ suc n
      → ending st ≡ record { stream = st; reading = reads.refuse (suc n) (end_place st (suc n)) }
  end_refused n e = sym (not_ended st n (sym end_number ∙ e) (end_place st (suc n)) refl)

  -- one that is accepted
  pub ended_by : end_refusal st ≡ 0 → (ending st).stream ≡ record { ended = true; fill = st.fill; line = st.line }
  ended_by e = ap (λ (x : Ended). x.stream) (sym (ended_so st e (end_accept st) refl))

late : (s : List ℕ) (q m f : ℕ) → loss s q m ≡ Some f → 4 ≤ f
late s q m f e = ⊎_elim (λ w. w.wrong.enough) (λ w. w.wrong.enough) (loss_is s q m f e).here

-- A line that comes at once

nothing_small : Small nothing 0
nothing_small =
    record {
      before = lit≤ tt;
      start = lit≤ tt;
      used = lit≤ tt;
      lost = lit≤ tt;
      words = lit≤ tt;
      errored = lit≤ tt;
      farend = lit≤ tt;
      wordbits = lit≤ tt;
    }

module _ (s : List ℕ) where
  -- what it leaves
  abbrev pub left : Grown
  left = grown nothing s

  pub all_came : left.line.before + length left.window ≡ length s
  all_came = grown_octets nothing s ∙ zero-add (length s)

  -- Its numbers are those of no more bits than it has

  few : Small left.line (0 + length s)
  few = grown_small nothing s 0 nothing_small

  far : (f : Found) → found_in s ≡ f → length s ≤ 16777216 → is_far f ≡ false
  unfolding is_far
  far (At p k) e h =
      let w = start_within s p k e in
      rw (le-ltb 134217728 p (omega arith), le-ltb 134217728 k (omega arith))
  far (BasicAt p) e h = le-ltb 134217728 p (omega (arith, ((finds_basic s p).0 e).0.room))
  far Nothing e h = refl

  lost_few : (f : Found) → found_in s ≡ f → left.line.lost ≤ 8 * length s
  unfolding whole
  lost_few (At p k) e = let q = p + 512 * k in omega (arith, (at_once s p k e).lost, go q (loss s q (whole s q)) refl)
    where
      go : (q : ℕ) (l : Option ℕ) → loss s q (whole s q) ≡ l → lost_at l ≤ 8 * length s
      go q None e = omega arith
      go q (Some f) e = omega (arith, (loss_is s q (whole s q) f e).among)
  lost_few (BasicAt p) e =
      let z : left.line.lost ≡ 0 = ap (λ f. (searched 0 Nothing s f).line.lost) e in omega arith
  lost_few Nothing e =
      let z : left.line.lost ≡ 0 = ap (λ f. (searched 0 Nothing s f).line.lost) e in omega arith

  -- so it counts as ended exactly where it has
  pub over_at_once : length s ≤ 16777216 → (ended : Bool) (fill : ℕ) → fill ≤ 2048
      → is_over (record { ended = ended; fill = fill; line = left.line }) ≡ ended
  unfolding is_over
  over_at_once h true fill l = refl
  over_at_once h false fill l =
      let c = left.line in
      rw (
        le-ltb 2048 fill l,
        found_at_once s,
        far (found_in s) refl h,
        le-ltb 134217728 c.before (omega (arith, few.before)),
        le-ltb 134217728 c.used (omega (arith, few.used)),
        le-ltb 134217728 c.lost (omega (arith, lost_few (found_in s) refl)),
        le-ltb 134217728 c.words (omega (arith, few.words)),
        le-ltb 134217728 c.errored (omega (arith, few.errored)),
        le-ltb 134217728 c.farend (omega (arith, few.farend)),
        le-ltb 134217728 c.wordbits (omega (arith, few.wordbits)),
      )

  -- What is answered of it, and what leaves

  module _ (p k : ℕ) (e : found_in s ≡ At p k) where
    -- read from the start that is found
    pub read_at_once : AtOnce s (start_in s) left
    unfolding start_in
    read_at_once = subst (λ q. AtOnce s q left) (sym (ap start_of e)) (at_once s p k e)

  cause_by_lem : (q m : ℕ) (l : Option ℕ) → loss s q m ≡ l → cause_by (lost_at l) ≡ cause_of l
  cause_by_lem q m None e = refl
  cause_by_lem q m (Some f) e =
      ap (λ b. if b then 0 else 1 + f % 2) (ne_eqb f 0 (λ z. omega (arith, late s q m f e)))

  stood : (f : Found) → eqb (number_of f) 3 ≡ false → eqb (number_of f) 15 ≡ false → number_of f ≡ 0
  stood (At p k) e d = refl
  stood (BasicAt p) e d = absurd (true≢false d)
  stood Nothing e d = absurd (true≢false e)

  -- a stream that knows it
  module _ (st : Stream) (known : left.line ≡ st.line) (came : octets_came st ≡ length s) where
    found : st.line.found ≡ found_in s
    found = sym (ap (λ (c : Line). c.found) known) ∙ found_at_once s

    accepts : (f : Found) → found_in s ≡ f → number_of f ≡ 0 → end_accept st ≡ reads.accept s
    unfolding end_accept reads.accept place_in start_in whole
    accepts (At p k) e z =
        let a = read_at_once p k e in
        let q = start_in s in
        let used = sym (ap (λ (c : Line). c.used) known) ∙ a.used in
        let lost = sym (ap (λ (c : Line). c.lost) known) ∙ a.lost in
        λ i. record {
          number = 0;
          place = ap place_of found i;
          start = ap start_of found i;
          whole = ap₂ (λ n q. (8 * n - q) / 4096) came (ap start_of found) i;
          used = used i;
          lost = lost i;
          words = (sym (ap (λ (c : Line). c.words) known) ∙ a.words) i;
          compared = compared (used i);
          errored = (sym (ap (λ (c : Line). c.errored) known) ∙ a.errored) i;
          farend = (sym (ap (λ (c : Line). c.farend) known) ∙ a.farend) i;
          wordbits = (sym (ap (λ (c : Line). c.wordbits) known) ∙ a.wordbits) i;
          cause = (ap cause_by lost ∙ cause_by_lem q (whole s q) (loss_in s) refl) i;
        }
    accepts (BasicAt p) e z = absurd (omega arith)
    accepts Nothing e z = absurd (omega arith)

    numbered : is_over st ≡ st.ended → end_refusal st ≡ first_number (line_refusals st.ended s)
    unfolding end_refusal
    numbered over = rw (over, came, found)

    -- an end answers what is said of the line
    pub end_at_once : is_over st ≡ st.ended → (ending st).reading ≡ line_reading st.ended s
    unfolding ending line_reading place_in
    end_at_once over =
        ap (λ n. (answered n).reading) (numbered over) ∙ by (first_number (line_refusals st.ended s)) refl
      where
        answered : ℕ → Ended
        answered n =
            accepted n (record { stream = record { ended = true; fill = st.fill; line = st.line }; reading = end_accept st })
            (record { stream = st; reading = reads.refuse n (end_place st n) })

        by : (n : ℕ) → first_number (line_refusals st.ended s) ≡ n
            → (answered n).reading ≡ accepted n (reads.accept s) (reads.refuse n (reads.refused_place s n))
        by zero e =
            let t = rw e at (first_tells (line_refusals st.ended s) refl) in
            accepts (found_in s) refl (stood (found_in s) t.1.1.0 t.1.1.1.0)
        by (suc n) e = ap (λ p. reads.refuse (suc n) (if eqb (suc n) 15 then p else 0)) (ap place_of found)

  -- and what has left is what the line fills
  pub left_at_once : (left.payload ≡ line_payload s) × (left.slot0 ≡ line_slot0 s)
  unfolding line_payload line_slot0
  left_at_once = by (found_in s) refl
    where
      not_placed : (f : Found) → found_in s ≡ f → 0 < number_of f → (left.payload ≡ line_payload s) × (left.slot0 ≡ line_slot0 s)
      not_placed f e h =
          let z : number_of (found_in s) ≡ 0 → ⊥ = λ z. omega (arith, ap number_of e) in
          let w = none_left s (omega (arith, ap number_of e)) in (
            w.0 ∙ sym (accepted_not (number_of (found_in s)) (payload_of s (start_in s) (used_in s)) [] z),
            w.1 ∙ sym (accepted_not (number_of (found_in s)) (slot0_of s (start_in s) (used_in s)) [] z),
          )

      by : (f : Found) → found_in s ≡ f → (left.payload ≡ line_payload s) × (left.slot0 ≡ line_slot0 s)
      by (At p k) e =
          let a = read_at_once p k e in (
            a.payload ∙ sym (accepted_so (number_of (found_in s)) (payload_of s (start_in s) (used_in s)) [] (ap number_of e)),
            a.slot0 ∙ sym (accepted_so (number_of (found_in s)) (slot0_of s (start_in s) (used_in s)) [] (ap number_of e)),
          )
      by (BasicAt p) e = not_placed (BasicAt p) e (lit≤ tt)
      by Nothing e = not_placed Nothing e (lit≤ tt)

  -- What is held of it

  -- where a place stands: the octets from the last multiframe on, and none after a loss
  pub record Following (x : Grown) : Type 0 where
    pub last : x.window ≡ drop x.line.before s
    pub before : x.line.lost ≡ 0 → x.line.before ≡ start_in s / 8 + 512 * (x.line.used - 1)
    pub short : length x.window ≤ 1024
    pub lost : 0 < x.line.lost → length x.window ≡ 0

  module _ (p k : ℕ) (e : found_in s ≡ At p k) where
    abbrev from : ℕ
    from = p + 512 * k

    abbrev part : List ℕ
    part = drop (from / 8) s

    abbrev bit : ℕ
    bit = (8 * 0 + p + 512 * k) % 8

    followed : Following left
    unfolding start_in read_on whole
    followed =
        subst Following (sym (ap (searched 0 Nothing s) e)) (by (loss_from part bit 0 (whole part bit)) refl)
      where
        at : start_in s ≡ from
        at = ap start_of e

        room : from + 7168 ≤ 8 * length s
        room =
            let w = first_within s p k (found_at (first_standing s) (first_basic s) p k e) in
            omega (arith, w.0, w.1)

        by : (l : Option ℕ) → loss_from part bit 0 (whole part bit) ≡ l
            → Following (read_on (unread (0 + from / 8) (At (8 * 0 + p) k)) part bit 0 l (used_of l (whole part bit)))
        by None d =
            let m = whole part bit in
            let z : from / 8 + 512 * (m - 1) ≡ 0 + from / 8 + 512 * (m - 1) = omega arith in
            record {
              last = drop-drop (512 * (m - 1)) (from / 8) s ∙ ap (λ n. drop n s) z;
              before = λ h. omega (arith, at);
              short = omega (arith, length-drop (512 * (m - 1)) part, length-drop (from / 8) s, room);
              lost = λ h. absurd (omega arith);
            }
        by (Some f) d =
            let n = length part in
            let z : from / 8 + n ≡ 0 + from / 8 + n = omega arith in
            let no_octets : length (drop n part) ≡ 0 = omega (arith, length-drop n part) in
            record {
              last = drop-drop n (from / 8) s ∙ ap (λ n. drop n s) z;
              before = λ h. absurd (omega (arith, from_late part bit 0 (whole part bit) f d));
              short = omega (arith, no_octets);
              lost = λ h. no_octets;
            }

  pub follows : number_of (found_in s) ≡ 0 → Following left
  follows = by (found_in s) refl
    where
      by : (f : Found) → found_in s ≡ f → number_of f ≡ 0 → Following left
      by (At p k) e z = followed p k e
      by (BasicAt p) e z = absurd (omega arith)
      by Nothing e z = absurd (omega arith)

  pub lost_none : left.line.lost ≢ 0 → length left.window ≡ 0
  lost_none = by (found_in s) refl
    where
      by : (f : Found) → found_in s ≡ f → left.line.lost ≢ 0 → length left.window ≡ 0
      by (At p k) e h = (followed p k e).lost (omega arith)
      by (BasicAt p) e h = absurd (h (ap (λ f. (searched 0 Nothing s f).line.lost) e))
      by Nothing e h = absurd (h (ap (λ f. (searched 0 Nothing s f).line.lost) e))

  -- where none stands yet: the last 2,048
  pub waits_with : 0 < number_of (found_in s) → left.line.before ≡ length s - 2048
  waits_with = by (found_in s)
    where
      by : (f : Found) → 0 < number_of f → (searched 0 Nothing s f).line.before ≡ length s - 2048
      by (At p k) h = absurd (omega arith)
      by (BasicAt p) h = zero-add (length s - 2048)
      by Nothing h = zero-add (length s - 2048)

  -- and always its last octets
  pub holds_last : left.window ≡ drop left.line.before s
  holds_last = by (found_in s) refl
    where
      waiting : (f : Found) → found_in s ≡ f → (searched 0 Nothing s f).window ≡ drop (length s - 2048) s → 0 < number_of f
          → left.window ≡ drop left.line.before s
      waiting f e w h =
          ap (λ f. (searched 0 Nothing s f).window) e ∙ w
          ∙ ap (λ n. drop n s) (sym (waits_with (omega (arith, ap number_of e))))

      by : (f : Found) → found_in s ≡ f → left.window ≡ drop left.line.before s
      by (At p k) e = (followed p k e).last
      by (BasicAt p) e = waiting (BasicAt p) e refl (lit≤ tt)
      by Nothing e = waiting Nothing e refl (lit≤ tt)

-- no more multiframes leave of an image than it is long
read_few : (c : Line) (s : List ℕ) → 512 * (read_from c s).multiframes ≤ length s
unfolding read_on whole
read_few c s =
    let q = start_of c.found % 8 in
    omega (arith, used_upto s q (kept_of c.used) (whole s q))

pub grown_few : (c : Line) (s : List ℕ) → 512 * (grown c s).multiframes ≤ length s
grown_few c s = by c.found c.lost
  where
    found : (before : ℕ) (known f : Found) → 512 * (searched before known s f).multiframes ≤ length s
    found before known (At p k) =
        let q = p + 512 * k in
        let part = drop (q / 8) s in
        omega (arith, read_few (unread (before + q / 8) (At (8 * before + p) k)) part, length-drop (q / 8) s)
    found before known (BasicAt p) = omega arith
    found before known Nothing = omega arith

    by : (f : Found) (l : ℕ) → 512 * (grown_by f l c s).multiframes ≤ length s
    by (At p k) zero = read_few c s
    by (At p k) (suc l) = omega arith
    by (BasicAt p) l = found c.before (BasicAt p) (found_in s)
    by Nothing l = found c.before Nothing (found_in s)

-- A run

-- what the calls so far have left is what the joined line leaves
pub record Joined (r : Run) : Type 0 where
  pub line : (left r.line).line ≡ r.stream.line
  pub window : (left r.line).window ≡ take r.stream.fill r.window
  pub fill : length (left r.line).window ≡ r.stream.fill
  pub payload : (left r.line).payload ≡ r.payload
  pub slot0 : (left r.line).slot0 ≡ r.slot0
  pub sized : length r.window ≡ 2048
  pub limited : length r.line ≤ 16777216

nothing_found : found_in [] ≡ Nothing
unfolding first_standing first_basic first
nothing_found = refl

pub begun_joined : (window : List ℕ) → length window ≡ 2048 → Joined (begun window)
begun_joined window h =
    let e : left [] ≡ searched 0 Nothing [] Nothing = ap (searched 0 Nothing []) nothing_found in
    record {
      line = ap (λ (x : Grown). x.line) e;
      window = ap (λ (x : Grown). x.window) e;
      fill = ap (λ (x : Grown). length x.window) e;
      payload = ap (λ (x : Grown). x.payload) e;
      slot0 = ap (λ (x : Grown). x.slot0) e;
      sized = h;
      limited = omega arith;
    }

module _ (r : Run) (h : Joined r) where
  pub came : octets_came r.stream ≡ length r.line
  came = sym (ap₂ (λ (c : Line) n. c.before + n) h.line h.fill) ∙ all_came r.line

  -- a chunk that is taken
  fed_joined : (t : List ℕ) (a b : ℕ) → feed_refusal r.stream r.window t a b ≡ 0
      → (let x = grown_of r.stream r.window t in
      Joined (record {
        stream = (feed_accept x).stream;
        window = over x.window r.window;
        line = r.line ++ t;
        payload = r.payload ++ x.payload;
        slot0 = r.slot0 ++ x.slot0;
      }))
  unfolding feed_refusal
  fed_joined t a b e =
      let x = grown_of r.stream r.window t in
      let y = left r.line in
      let z : grown y.line (y.window ++ t) ≡ x = ap₂ (λ c w. grown c (w ++ t)) h.line h.window in
      let g : left (r.line ++ t) ≡ after y x = grown_cut nothing r.line t ∙ ap (after y) z in
      let short = grown_short r.stream.line (take r.stream.fill r.window ++ t) in
      let told = rw e at (first_tells (feed_refusals r.stream r.window t a b) refl) in
      record {
        line = ap (λ (x : Grown). x.line) g;
        window = ap (λ (x : Grown). x.window) g ∙ sym (take-append_seam x.window (drop (length x.window) r.window));
        fill = ap (λ (x : Grown). length x.window) g;
        payload = ap (λ (x : Grown). x.payload) g ∙ ap (λ p. p ++ x.payload) h.payload;
        slot0 = ap (λ (x : Grown). x.slot0) g ∙ ap (λ p. p ++ x.slot0) h.slot0;
        sized = length-append x.window (drop (length x.window) r.window)
            ∙ omega (arith, length-drop (length x.window) r.window, short, h.sized);
        limited =
            omega (arith, ltb-false 16777216 (octets_came r.stream + length t) told.1.0, came, length-append r.line t);
      }

  pub called_joined : (c : Call) → Joined (called r c)
  unfolding called
  called_joined (chunk t a b) = by (feed_refusal r.stream r.window t a b) refl
    where
      x : Grown
      x = grown_of r.stream r.window t

      by : (n : ℕ) → feed_refusal r.stream r.window t a b ≡ n
          → Joined (accepted n (record {
            stream = (feed_accept x).stream;
            window = over x.window r.window;
            line = r.line ++ t;
            payload = r.payload ++ x.payload;
            slot0 = r.slot0 ++ x.slot0;
          }) r)
      by zero e = fed_joined t a b e
      by (suc n) e = h
  called_joined end = by (end_refusal r.stream) refl
    where
      by : (n : ℕ) → end_refusal r.stream ≡ n
          → Joined (accepted n (record {
            stream = (ending r.stream).stream;
            window = r.window;
            line = r.line;
            payload = r.payload;
            slot0 = r.slot0;
          }) r)
      by zero e =
          subst
          (λ st. Joined (record { stream = st; window = r.window; line = r.line; payload = r.payload; slot0 = r.slot0 }))
          (sym (ended_by r.stream e))
          (record {
            line = h.line;
            window = h.window;
            fill = h.fill;
            payload = h.payload;
            slot0 = h.slot0;
            sized = h.sized;
            limited = h.limited;
          })
      by (suc n) e = h

pub run_joined : (r : Run) (calls : List Call) → Joined r → Joined (run r calls)
unfolding run
run_joined r [] h = h
run_joined r (c ∷ cs) h = run_joined (called r c) cs (called_joined r h c)

-- the end of any run, and what has left
module _ (r : Run) (h : Joined r) where
  pub over_is_ended : is_over r.stream ≡ r.stream.ended
  over_is_ended =
      let short : r.stream.fill ≤ 2048 = omega (arith, h.fill, grown_short nothing r.line) in
      ap (λ c. is_over (record { ended = r.stream.ended; fill = r.stream.fill; line = c })) (sym h.line)
      ∙ over_at_once r.line h.limited r.stream.ended r.stream.fill short

  pub end_is_the_lines : (ending r.stream).reading ≡ line_reading r.stream.ended r.line
  end_is_the_lines = end_at_once r.line r.stream h.line (came r h) over_is_ended

  pub left_is_the_lines : (r.payload ≡ line_payload r.line) × (r.slot0 ≡ line_slot0 r.line)
  left_is_the_lines =
      let w = left_at_once r.line in (sym h.payload ∙ w.0, sym h.slot0 ∙ w.1)
