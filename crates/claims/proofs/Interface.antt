-- The proof of Interface.
use Prim.Native.Nat.{ℕ}
use mathlib.Core.Path.{refl, sym, ap, ◌∙◌}
use lib.ListN.{length, replicate, length-replicate}
use Rattle.exchange.specs.declared.State.{State}
use Rattle.exchange.specs.Machine.{start_state, hosted}
use Rattle.exchange.specs.Runs.{answer, after_run}
use Rattle.exchange.proofs.RunLaws.{flag_is_last_key, same_after}
use Rattle.jikhvanto.specs.Octets.{state_of, octets_of, pair_places}
use Rattle.jikhvanto.specs.Runs.{stepped, ran}
use Rattle.jikhvanto.proofs.RunLaws.{runs_as_machine, gives_as_machine, locked_stays, ran_length, reading_stays}
use Rattle.jikhvanto.proofs.RunLaws.{refused_stays, same_gives, start_back, start_length}
use Rattle.stream.specs.Entry.{ending}
use Rattle.stream.specs.Runs.{begun, run}
use Rattle.stream.specs.declared.Stream.{Stream}
use Rattle.stream.proofs.RunLaws.{begun_joined, run_joined, end_is_the_lines}
use Rattle.jikhvanto.specs.Octets.{reading_places}
use Rattle.jikhvanto.specs.Stream.{stream_of, feeding_of}
use Rattle.jikhvanto.specs.Runs.{stream_stepped}
use Rattle.jikhvanto.proofs.StreamBack.{starting_zeros, zeros_start}
use Rattle.jikhvanto.proofs.StreamRuns.{ran_from_start, packed_from_start, refused_feed_stays, refused_end_stays}
use Rattle.claims.specs.Interface.{Interface}

pub interface : Interface
unfolding answer stepped stream_stepped
interface =
    record {
      jk_start = λ state' h. (ap length h.its_state ∙ start_length, ap state_of h.its_state ∙ start_back);
      jk_host = λ state octets r state' answer' h. (
        h.its_number,
        h.its_answer ∙ ap (λ n. pair_places n (hosted (state_of state) octets).entry) h.its_number,
        h.its_state,
      );
      jk_key = λ state position r state' h. (h.its_number, h.its_state);
      jk_boundary = λ state r state' h. (h.its_number, h.its_state);
      jk_map = λ state payload out r out' h. (h.its_mapping.its_number, h.its_mapping.its_out, refl);
      runs = λ state cs e. (runs_as_machine state cs e, gives_as_machine state cs e);
      flag = λ cs.
          let same = runs_as_machine (octets_of start_state) cs start_length ∙ ap (λ s. after_run s cs) start_back in
          ap (λ (s : State). s.flag) same ∙ flag_is_last_key cs;
      locked_out = λ state cs ds e off q.
          let go = runs_as_machine state in
          let same = go cs e ∙ same_after (state_of state) cs ds off q ∙ sym (go ds e) in
          let long = ran_length state in
          (same, λ later. same_gives (ran state cs) (ran state ds) later (long cs e) (long ds e) same);
      refused = refused_stays;
      reading = reading_stays;
      while_off = locked_stays;
      jk_stream_start = λ stream' h. (h.its_stream ∙ sym starting_zeros, ap stream_of h.its_stream ∙ zeros_start.0);
      jk_feed = λ stream t payload slot0 r stream' payload' slot0' answer' h. (
        h.its_number,
        h.its_answer ∙ ap (λ n. pair_places n (feeding_of stream t (length payload) (length slot0)).multiframes) h.its_number,
        h.its_stream,
        h.its_outputs,
      );
      jk_end = λ stream r stream' answer' h. (h.its_number, h.its_answer, h.its_stream);
      stream_runs = λ calls. let h = ran_from_start calls in (packed_from_start calls, h.stream, h.window);
      stream_ends = λ calls n stream' answer' d.
          let zeros = replicate {A = ℕ} 2048 0 in
          let r = run (begun zeros) calls in
          let h = run_joined (begun zeros) calls (begun_joined zeros (length-replicate {A = ℕ} 2048 0)) in
          d.its_answer
          ∙ ap (λ (st : Stream). reading_places (ending st).reading) (ran_from_start calls).stream
          ∙ ap reading_places (end_is_the_lines r h);
      feed_refused = refused_feed_stays;
      end_refused = refused_end_stays;
    }
