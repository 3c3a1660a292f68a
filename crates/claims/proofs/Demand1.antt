-- The proof of Demand1.
use Rattle.std.specs.Prelude.{if◌then◌else◌}
use Prim.Native.Nat.{ℕ, suc, ◌*◌, ◌≤◌}
use mathlib.Core.Path.{◌≡◌, refl, sym, ap, ◌∙◌}
use mathlib.Core.Bool.{true, not, ◌||◌}
use mathlib.Core.List.{List, [], ◌∷◌, ◌++◌}
use native.Mathlib.Omega.{arith}
use borrow.Author.Tests.{le-leb, ne_eqb}
use lib.Dec.{eqb}
use lib.ListN.{length, take, drop}
use lib.Seq.{drop_at}
use Rattle.base.specs.Answer.{accepted}
use Rattle.base.proofs.AnswerLaws.{accepted_so, first_listed}
use Rattle.e1.specs.Payload.{multiframes}
use Rattle.align.specs.Place.{place_of}
use Rattle.align.specs.Why.{why, why_refusals, why_refusal}
use Rattle.align.proofs.WhyLaws.{why_answers, why_zeros}
use Rattle.read.specs.Entry as reads
use Rattle.read.specs.Entry.{start_in, used_in}
use Rattle.measure.specs.Reading.{payload_of, slot0_of}
use Rattle.measure.proofs.Laws.{payload_length, slot0_length}
use Rattle.read.proofs.EntryLaws.{read_number, read_accepted, read_refused}
use Rattle.read.specs.Answer.{Reading}
use Rattle.growth.proofs.Bounds.{grown_sizes}
use Rattle.stream.specs.Entry.{is_over, grown_of, feed_refusals, feed_refusal, Feeds, end_refusals, end_refusal, ending}
use Rattle.stream.specs.declared.Stream.{Stream}
use Rattle.stream.specs.Answer.{Fed}
use Rattle.stream.specs.Answer.{Ended}
use Rattle.stream.proofs.EntryLaws.{with_21, ended_21}
use Rattle.stream.proofs.RunLaws.{fed_number, fed_taken, fed_refused, end_number, end_refused, ended_by}
use Rattle.write.specs.Entry as writes
use Rattle.write.specs.Writing.{written}
use Rattle.write.proofs.Laws.{length_written}
use Rattle.write.proofs.Calls.{wrote_number, wrote_refused}
use Rattle.signals.specs.Signalling.{abcd_in}
use Rattle.signals.specs.Entry as signals
use Rattle.signals.specs.Entry.{slot16_in, filled, Signalled}
use Rattle.signals.specs.Answer.{Signalling}
use Rattle.signals.proofs.EntryLaws.{abcd_length, signals_number, signals_accepted, signals_refused}
use Rattle.signalled.specs.Entry as signalled
use Rattle.signalled.specs.Slot16.{with_slot16}
use Rattle.signalled.proofs.Calls as signalling
use Rattle.exchange.specs.declared.State.{State}
use Rattle.exchange.specs.Mapping.{entry_at, mapped_payload, mapped}
use Rattle.exchange.specs.Answer.{accept}
use Rattle.exchange.specs.Machine.{hosted, host_refusal, host_after, host_entry, between, outside, locked}
use Rattle.exchange.specs.Machine.{unstaged}
use Rattle.exchange.specs.Runs.{after_call}
use Rattle.exchange.proofs.Laws as laws
use Rattle.exchange.proofs.RunLaws as runs
use Rattle.exchange.proofs.MapLaws.{mapped_length}
use Rattle.claims.specs.Demand1.{Demand1}

-- an output that an accepted call fills by l is kept behind it
behind : {n : ℕ} (l out : List ℕ) {out' : List ℕ} (k : ℕ) → out' ≡ accepted n (l ++ drop k out) out → n ≡ 0
    → length l ≡ k → drop k out' ≡ drop k out
behind {n} l out k e z h = ap (drop k) (e ∙ accepted_so n (l ++ drop k out) out z) ∙ drop_at l (drop k out) k h

kind_3 : (s : State) (a b h : ℕ) → 1 ≤ a → a ≤ 31 → hosted s (3 ∷ a ∷ b ∷ h ∷ []) ≡ accept s (entry_at s.live a)
unfolding host_refusal host_after host_entry between outside locked unstaged
kind_3 s a b h l u = rw (le-leb 1 a l, le-leb a 31 u)

-- how many octets a reading of signalling fills
heard_kept : (s out : List ℕ) (r : Signalling) (out' : List ℕ) → Signalled s out r out' → r.number ≡ 0
    → 30 * r.multiframes ≡ filled (slot16_in s)
unfolding signals.accept
heard_kept s out r out' h z = ap (λ (x : Signalling). 30 * x.multiframes) (signals_accepted s out r out' h z).0

-- a chunk that is taken leaves what it leaves at the front
module _ (st : Stream) (window t payload slot0 : List ℕ) (r : Fed) (window' payload' slot0' : List ℕ)
    (h : Feeds st window t payload slot0 r window' payload' slot0') (z : r.number ≡ 0) where
  fed_kept : (drop r.stream.fill window' ≡ drop r.stream.fill window)
      × (drop (496 * r.multiframes) payload' ≡ drop (496 * r.multiframes) payload)
      × (drop (16 * r.multiframes) slot0' ≡ drop (16 * r.multiframes) slot0)
  fed_kept =
      let x = grown_of st window t in
      let e = fed_taken h z in
      let sizes = grown_sizes st.line (take st.fill window ++ t) in
      let fill : r.stream.fill ≡ length x.window = ap (λ (f : Fed). f.stream.fill) e in
      let many : r.multiframes ≡ x.multiframes = ap (λ (f : Fed). f.multiframes) e in
      let p : 496 * r.multiframes ≡ length x.payload = ap (λ n. 496 * n) many ∙ sym sizes.0 in
      let o : 16 * r.multiframes ≡ length x.slot0 = ap (λ n. 16 * n) many ∙ sym sizes.1 in (
        rw fill (behind x.window window (length x.window) h.its_window z refl),
        rw p (behind x.payload payload (length x.payload) h.its_payload z refl),
        rw o (behind x.slot0 slot0 (length x.slot0) h.its_slot0 z refl),
      )

-- after an end that is accepted
over_then : (st : Stream) → (ending st).reading.number ≡ 0 → is_over (ending st).stream ≡ true
unfolding is_over
over_then st z = ap is_over (ended_by st (sym (end_number st) ∙ z))

pub demand_1 : Demand1
unfolding feed_refusal end_refusal why_refusal reads.refusal reads.accept writes.refusal signals.refusal signalled.refusal mapped after_call
demand_1 =
    record {
      read_number = λ s payload slot0 r payload' slot0' h.
          rw (read_number s payload slot0 r payload' slot0' h)
          (first_listed (reads.refusals s (length payload) (length slot0)));
      feed_number = λ st window t payload slot0 r window' payload' slot0' h.
          rw (fed_number h) (first_listed (feed_refusals st window t (length payload) (length slot0)));
      end_number = λ st. rw (end_number st) (first_listed (end_refusals st));
      signals_number = λ s out r out' h. rw (signals_number s out r out' h) (first_listed (signals.refusals s (length out)));
      why_answers = λ s p. rw (why_answers s p) (first_listed (why_refusals s p));
      write_number = λ p o c out r out' h. rw (wrote_number h) (first_listed (writes.refusals p o c (length out)));
      write_signalled_number = λ p o c xy v out r out' h.
          rw (signalling.wrote_number h) (first_listed (signalled.refusals p o c xy v (length out)));
      call_number = laws.number_is_listed;
      read_refused = λ s payload slot0 r payload' slot0' n h e.
          let f = read_refused s payload slot0 r payload' slot0' n h e in
          let at = ap (λ (x : Reading). x.place) f.0 in
          (f.0 ∙ ap (reads.refuse (suc n)) (sym at), f.1, f.2);
      read_no_place = λ s payload slot0 r payload' slot0' n h e other.
          ap (λ (x : Reading). x.place) (read_refused s payload slot0 r payload' slot0' n h e).0
          ∙ ap (λ t. if t then reads.place_in s else 0) (ne_eqb (suc n) 15 other);
      feed_refused = λ st window t payload slot0 r window' payload' slot0' h n e. fed_refused n h e;
      end_refused = λ st n e.
          let f = end_refused st n e in
          let at = ap (λ (x : Ended). x.reading.place) f in
          f ∙ ap (λ p. record { stream = st; reading = reads.refuse (suc n) p }) (sym at);
      end_no_place = λ st n e other.
          ap (λ (x : Ended). x.reading.place) (end_refused st n e)
          ∙ ap (λ t. if t then place_of st.line.found else 0) (ne_eqb (suc n) 15 other);
      feed_after_end = λ st z window t payload slot0 r window' payload' slot0' h.
          fed_number h
          ∙ with_21 (ending st).stream window t payload slot0
          (ap (λ b. b || not (eqb (length window) 2048)) (over_then st z));
      end_after_end = λ st z. end_number (ending st).stream ∙ ended_21 (ending st).stream (over_then st z);
      signals_refused = λ s out r out' n h e. signals_refused s out r out' n h e;
      why_refused = λ s p n e. why_zeros (why s p) n e;
      write_refused = λ p o c out r out' n h e. wrote_refused n h e;
      write_signalled_refused = λ p o c xy v out r out' n h e. signalling.wrote_refused n h e;
      call_refused = laws.refused_changes_nothing;
      read_kept = λ s payload slot0 r payload' slot0' h z.
          let q = start_in s in
          let g = used_in s in
          let a = read_accepted s payload slot0 r payload' slot0' h z in
          let used : r.used ≡ g = ap (λ (x : Reading). x.used) a in
          rw used (
            behind (payload_of s q g) payload (496 * g) h.its_payload z (payload_length s q g),
            behind (slot0_of s q g) slot0 (16 * g) h.its_slot0 z (slot0_length s q g),
          );
      feed_kept = fed_kept;
      write_kept = λ p o c out r out' h z.
          let n = multiframes p in
          behind (written p o c (2 * n)) out (512 * n) h.its_out z (length_written p o c (2 * n) ∙ omega arith);
      signals_kept = λ s out r out' h z.
          let t = slot16_in s in
          let e = heard_kept s out r out' h z in
          rw e (behind (abcd_in t (length t)) out (filled t) h.its_out z (abcd_length t (length t)));
      write_signalled_kept = λ p o c xy v out r out' h z.
          let n = multiframes p in
          behind (written (with_slot16 p xy v) o c (2 * n)) out (512 * n) h.its_out z
          (length_written (with_slot16 p xy v) o c (2 * n) ∙ omega arith);
      map_kept = λ map payload out r out' h z.
          behind (mapped_payload map payload) out (length payload) h.its_out
          (sym h.its_number ∙ z)
          (mapped_length map payload);
      flag = runs.flag_is_last_key;
      locked_out = λ s cs ds off e.
          let t = runs.same_after s cs ds off e in (
            ap (λ (x : State). x.flag) t,
            ap (λ (x : State). x.live) t,
            runs.same_heard s cs ds off e,
            runs.same_later s cs ds off e,
          );
      boundary_alone = runs.live_without_boundary;
      commit_first = runs.live_without_commit;
      none_survives = runs.live_without_key;
      all_forgotten = runs.key_off_forgets;
      any_host = laws.host_number_changes_nothing;
      no_octet = λ s p out. refl;
      kind_3 = kind_3;
      entries = λ cs j. let m = runs.entries_small cs in (m.0 j, m.1 j, m.2 j);
    }
