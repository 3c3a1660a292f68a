-- The proof of Single.
use mathlib.Core.Path.{◌≡◌, refl, sym, ap, ◌∙◌}
use Rattle.std.specs.Prelude.{Result, Ok, Err}
use Rattle.base.specs.Number.{number_in}
use Rattle.base.specs.declared.Refused.{Refused}
use Rattle.base.proofs.NumberLaws.{same_refusal, refusal_above_0}
use lib.ListN.{length}
use Rattle.read.proofs.EntryLaws.{read_single}
use Rattle.read.proofs.AnswerLaws as reads
use Rattle.stream.proofs.RunLaws.{fed_single, feed_single, end_single}
use Rattle.write.proofs.Calls.{wrote_single, results_single}
use Rattle.read.specs.Entry.{refused_place}
use Rattle.signals.proofs.EntryLaws.{signals_single}
use Rattle.signals.specs.Answer as heard
use Rattle.signals.specs.declared.Signalling as code
use Rattle.signalled.proofs.Calls as signalled
use Rattle.exchange.proofs.AnswerLaws.{host_single, key_single, boundary_single, map_single}
use Rattle.t1read.proofs.EntryLaws as t1reading
use Rattle.t1read.proofs.AnswerLaws as t1reads
use Rattle.t1write.proofs.Calls.{wrote, wrote_signalled, told_single}
use Rattle.t1write.proofs.AnswerLaws as t1writes
use Rattle.jikhvanto.specs.Octets.{pair_places}
use Rattle.jikhvanto.specs.Stream.{feeding_of}
use Rattle.jikhvanto.proofs.Laws.{jk_read_single, jk_signals_single, jk_why_single, jk_write_single, jk_write_signalled_single}
use Rattle.jikhvanto.proofs.Laws.{jk_start_single, jk_host_single, jk_key_single, jk_boundary_single, jk_map_single}
use Rattle.jikhvanto.proofs.T1Laws.{jk_t1_read_single, jk_t1_write_single, jk_t1_write_signalled_single}
use Rattle.claims.specs.Single.{Single}

-- two results of `signals` with one answer and one place are equal

same_signalling : (r r' : Result code.Signalling Refused) → heard.answered r ≡ heard.answered r'
    → heard.place_with r ≡ heard.place_with r' → r ≡ r'
same_signalling (Ok r) (Ok r') e p =
    let its : r ≡ r' = λ i.
    record {
      multiframes = (e i).multiframes;
      first = (e i).first;
      losses = (e i).losses;
      held = (e i).held;
      x0 = (e i).x0;
      x1 = (e i).x1;
      x2 = (e i).x2;
      y = (e i).y;
      starts = (e i).starts;
    } in
    ap Ok its
same_signalling (Ok r) (Err f) e p = absurd (refusal_above_0 f (sym (ap (λ (x : heard.Signalling). x.number) e)))
same_signalling (Err d) (Ok r) e p = absurd (refusal_above_0 d (ap (λ (x : heard.Signalling). x.number) e))
same_signalling (Err d) (Err f) e p = ap Err (same_refusal d f (ap (λ (x : heard.Signalling). x.number) e) p)

number_answered : (r : Result code.Signalling Refused) → number_in r ≡ (heard.answered r).number
number_answered (Ok r) = refl
number_answered (Err e) = refl

same_number : (r r' : Result code.Signalling Refused) → heard.answered r ≡ heard.answered r' → number_in r ≡ number_in r'
same_number r r' e = number_answered r ∙ ap (λ (x : heard.Signalling). x.number) e ∙ sym (number_answered r')

pub single : Single
single =
    record {
      read = λ s payload slot0 r r' p p' o o' h h'.
          let e = read_single s payload slot0 _ _ p p' o o' h h' in
          (reads.same_answer r r' e.0, e.1, e.2);
      stream_start = λ st st' e e'. e ∙ sym e';
      feed = λ st window t payload slot0 x x' r r' w w' p p' o o' h h'. feed_single x x' r r' h h';
      end = end_single;
      signals = λ s out r r' x x' h p h' p'.
          let e = signals_single s out _ _ x x' h h' in
          (same_signalling r r' e.0 (p ∙ ap (refused_place s) (same_number r r' e.0) ∙ sym p'), e.1);
      why = λ s p r r' e e'. e ∙ sym e';
      write = λ p o c out r r' x x' h h'. (results_single h h', (wrote_single h h').1);
      write_signalled = λ p o c xy v out r r' x x' h h'. (signalled.results_single h h', (signalled.wrote_single h h').1);
      map_payload = map_single;
      start = λ s s' e e'. e ∙ sym e';
      host = host_single;
      key = key_single;
      boundary = boundary_single;
      t1_read = λ s payload link r r' p p' l l' h h'.
          let e = t1reading.read_single s payload link _ _ p p' l l' h h' in
          (t1reads.same_result r r' e.0, e.1, e.2);
      t1_write = λ p l c out r r' x x' h h'.
          let e = told_single (wrote.0 h) (wrote.0 h') in
          (t1writes.same_result r r' e.0, e.1);
      t1_write_signalled = λ p l c g out r r' x x' h h'.
          let e = told_single (wrote_signalled.0 h) (wrote_signalled.0 h') in
          (t1writes.same_result r r' e.0, e.1);
      jk_read = λ image payload slot0 r r' p p' o o' a a' h h'. jk_read_single h h';
      jk_stream_start = λ s s' h h'. h.its_stream ∙ sym h'.its_stream;
      jk_feed = λ stream chunk payload slot0 r r' s s' p p' o o' a a' h h'.
          let e = fed_single h.its_outputs h'.its_outputs in
          let n = h.its_number ∙ sym h'.its_number in
          let many = (feeding_of stream chunk (length payload) (length slot0)).multiframes in (
            n,
            h.its_stream ∙ sym h'.its_stream,
            e.2,
            e.3,
            h.its_answer ∙ ap (λ x. pair_places x many) n ∙ sym h'.its_answer,
          );
      jk_end = λ stream r r' s s' a a' h h'. (
        h.its_number ∙ sym h'.its_number,
        h.its_stream ∙ sym h'.its_stream,
        h.its_answer ∙ sym h'.its_answer,
      );
      jk_signals = λ image abcd r r' x x' a a' h h'. jk_signals_single h h';
      jk_why = λ image place r r' a a' h h'. jk_why_single h h';
      jk_write = λ payload overhead check out r r' x x' a a' h h'. jk_write_single h h';
      jk_write_signalled = λ payload overhead check xy abcd out r r' x x' a a' h h'. jk_write_signalled_single h h';
      jk_t1_read = λ image payload link r r' p p' l l' a a' h h'. jk_t1_read_single h h';
      jk_t1_write = λ payload link check out r r' x x' a a' h h'. jk_t1_write_single h h';
      jk_t1_write_signalled = λ payload link check signalling out r r' x x' a a' h h'. jk_t1_write_signalled_single h h';
      jk_start = λ s s' h h'. jk_start_single h h';
      jk_host = λ state octets r r' s s' a a' h h'. jk_host_single h h';
      jk_key = λ state position r r' s s' h h'. jk_key_single h h';
      jk_boundary = λ state r r' s s' h h'. jk_boundary_single h h';
      jk_map = λ state payload out r r' x x' h h'. jk_map_single h h';
    }
