-- Runs of calls over the octets of a stream go as on the machine.
use Prim.Native.Nat.{ℕ, zero, suc, ◌+◌, ◌≤◌}
use mathlib.Core.Path.{◌≡◌, refl, sym, ap, ap₂, subst, ◌∙◌}
use mathlib.Core.Bool.{false, not}
use mathlib.Core.List.{List, [], ◌∷◌, ◌++◌}
use mathlib.Mathlib.Data.Bool.Basic.{or-eq-false-eq-eq-false-and-eq-false}
use native.Mathlib.Omega.{arith}
use borrow.Author.Tests.{ltb-false}
use lib.Dec.{eqb}
use lib.ListN.{length, take, drop, replicate, length-append, length-drop, length-replicate}
use Rattle.base.specs.Answer.{accepted}
use Rattle.base.proofs.AnswerLaws.{accepted_not, first_tells}
use Rattle.chunk.specs.Taking.{over}
use Rattle.growth.specs.Growth.{Grown}
use Rattle.growth.proofs.Bounds.{grown_short}
use Rattle.stream.specs.Entry.{is_over, octets_came, grown_of, feed_refusals, feed_refusal, feed_accept, feed_refuse, feeding}
use Rattle.stream.specs.Entry.{end_refusal, ending}
use Rattle.stream.specs.Runs.{Call, chunk, end, Run, begun, called, run}
use Rattle.stream.specs.declared.Stream.{Stream}
use Rattle.stream.specs.Answer.{Fed}
use Rattle.stream.proofs.RunLaws.{end_number, ended_by}
use Rattle.jikhvanto.specs.Stream.{stream_of, window_of, octets_of_stream, feeding_of, feed_stored, end_stored}
use Rattle.jikhvanto.specs.Runs.{stream_stepped, stream_ran}
use Rattle.jikhvanto.proofs.StreamLaws.{window_length}
use Rattle.jikhvanto.proofs.StreamBack.{Fits, stream_back, packed_window, packed_stream_length, starting_zeros, zeros_start}
use Rattle.jikhvanto.proofs.StreamBack.{unpacked_fits, fed_fits}

-- the octets are a run's stream and its window
pub record Holds (octets : List ℕ) (r : Run) : Type 0 where
  pub sized : length octets ≡ 2144
  pub stream : stream_of octets ≡ r.stream
  pub window : window_of octets ≡ r.window

packed : (then : Stream) (window : List ℕ) (r : Run) → Fits then → length window ≡ 2048 → then ≡ r.stream → window ≡ r.window
    → Holds (octets_of_stream then window) r
packed then window r f l q v =
    record {
      sized = packed_stream_length then window l;
      stream = stream_back then window f ∙ q;
      window = packed_window then window ∙ v;
    }

-- a call on the octets that hold it
module _ (octets : List ℕ) (e : length octets ≡ 2144) (line payload slot0 : List ℕ) where
  abbrev st : Stream
  st = stream_of octets

  abbrev w : List ℕ
  w = window_of octets

  abbrev held : Run
  held = record { stream = st; window = w; line = line; payload = payload; slot0 = slot0 }

  stays : Holds octets held
  stays = record { sized = e; stream = refl; window = refl }

  going : (t : List ℕ) (a b : ℕ) → feed_refusal st w t a b ≡ 0 → (is_over st ≡ false) × (length t ≤ 16777216)
  unfolding feed_refusal
  going t a b z =
      let told = rw z at (first_tells (feed_refusals st w t a b) refl) in (
        ((or-eq-false-eq-eq-false-and-eq-false (is_over st) (not (eqb (length w) 2048))).0 told.0).0,
        omega (arith, ltb-false 16777216 (octets_came st + length t) told.1.0),
      )

  fed_steps : (t : List ℕ) (a b : ℕ) → Holds (feed_stored octets t a b) (called held (chunk t a b))
  unfolding feed_stored feeding called
  fed_steps t a b = by (feed_refusal st w t a b) refl
    where
      x : Grown
      x = grown_of st w t

      answered : ℕ → Fed
      answered n = accepted n (feed_accept x) (feed_refuse st n)

      taken : Run
      taken =
          record {
            stream = (feed_accept x).stream;
            window = over x.window w;
            line = line ++ t;
            payload = payload ++ x.payload;
            slot0 = slot0 ++ x.slot0;
          }

      by : (n : ℕ) → feed_refusal st w t a b ≡ n
          → Holds (accepted (answered n).number (octets_of_stream (answered n).stream (over x.window w)) octets) (accepted n taken held)
      by zero z =
          let g = going t a b z in
          let short = grown_short st.line (take st.fill w ++ t) in
          packed (feed_accept x).stream (over x.window w) taken (fed_fits st g.0 w t g.1)
          (length-append x.window (drop (length x.window) w)
          ∙ omega (arith, length-drop (length x.window) w, short, window_length octets e))
          refl refl
      by (suc n) z = stays

  ended_steps : Holds (end_stored octets) (called held end)
  unfolding end_stored called
  ended_steps = by (end_refusal st) refl
    where
      ended : Run
      ended = record { stream = (ending st).stream; window = w; line = line; payload = payload; slot0 = slot0 }

      fits : end_refusal st ≡ 0 → Fits (ending st).stream
      fits z =
          let f = unpacked_fits octets in
          subst Fits (sym (ended_by st z))
          (record {
            fill = f.fill;
            before = f.before;
            place = f.place;
            k = f.k;
            used = f.used;
            lost = f.lost;
            words = f.words;
            errored = f.errored;
            farend = f.farend;
            wordbits = f.wordbits;
          })

      by : (n : ℕ) → end_refusal st ≡ n
          → Holds (accepted (ending st).reading.number (octets_of_stream (ending st).stream w) octets) (accepted n ended held)
      by zero z =
          subst (λ n. Holds (accepted n (octets_of_stream (ending st).stream w) octets) ended) (sym (end_number st ∙ z))
          (packed (ending st).stream w ended (fits z) (window_length octets e) refl refl)
      by (suc n) z =
          subst (λ n. Holds (accepted n (octets_of_stream (ending st).stream w) octets) held) (sym (end_number st ∙ z)) stays

  call_steps : (c : Call) → Holds (stream_stepped octets c) (called held c)
  unfolding stream_stepped
  call_steps (chunk t a b) = fed_steps t a b
  call_steps end = ended_steps

pub steps_as_run : (octets : List ℕ) (r : Run) (c : Call) → Holds octets r → Holds (stream_stepped octets c) (called r c)
steps_as_run octets r c h =
    subst (λ x. Holds (stream_stepped octets c) (called x c)) same (call_steps octets h.sized r.line r.payload r.slot0 c)
  where
    same : held octets h.sized r.line r.payload r.slot0 ≡ r
    same = λ i.
        record { stream = h.stream i; window = h.window i; line = r.line; payload = r.payload; slot0 = r.slot0 }

pub runs_as_run : (octets : List ℕ) (r : Run) (cs : List Call) → Holds octets r → Holds (stream_ran octets cs) (run r cs)
unfolding stream_ran run
runs_as_run octets r [] h = h
runs_as_run octets r (c ∷ cs) h = runs_as_run (stream_stepped octets c) (called r c) cs (steps_as_run octets r c h)

-- Octets that are packed stay so.

abbrev packing : Run → List ℕ
packing r = octets_of_stream r.stream r.window

step_packed : (octets : List ℕ) (r : Run) (c : Call) → Holds octets r → octets ≡ packing r → stream_stepped octets c ≡ packing (called r c)
unfolding stream_stepped feed_stored end_stored feeding called
step_packed octets r (chunk t a b) h p =
    ap₂ (λ st w. left_by (feeding st w t a b) (over (grown_of st w t).window w)) h.stream h.window
    ∙ go (feed_refusal r.stream r.window t a b)
  where
    x : Grown
    x = grown_of r.stream r.window t

    left_by : Fed → List ℕ → List ℕ
    left_by f w = accepted f.number (octets_of_stream f.stream w) octets

    go : (n : ℕ) → left_by (accepted n (feed_accept x) (feed_refuse r.stream n)) (over x.window r.window)
        ≡ packing (accepted n (record {
          stream = (feed_accept x).stream;
          window = over x.window r.window;
          line = r.line ++ t;
          payload = r.payload ++ x.payload;
          slot0 = r.slot0 ++ x.slot0;
        }) r)
    go zero = refl
    go (suc n) = p
step_packed octets r end h p =
    ap₂ (λ st w. accepted (ending st).reading.number (octets_of_stream (ending st).stream w) octets) h.stream h.window
    ∙ ap (λ n. accepted n (octets_of_stream then r.window) octets) (end_number r.stream)
    ∙ go (end_refusal r.stream)
  where
    then : Stream
    then = (ending r.stream).stream

    go : (n : ℕ) → accepted n (octets_of_stream then r.window) octets
        ≡ packing (accepted n (record { stream = then; window = r.window; line = r.line; payload = r.payload; slot0 = r.slot0 }) r)
    go zero = refl
    go (suc n) = p

pub run_packed : (octets : List ℕ) (r : Run) (cs : List Call) → Holds octets r → octets ≡ packing r
    → stream_ran octets cs ≡ packing (run r cs)
unfolding stream_ran run
run_packed octets r [] h p = p
run_packed octets r (c ∷ cs) h p =
    run_packed (stream_stepped octets c) (called r c) cs (steps_as_run octets r c h) (step_packed octets r c h p)

-- from the octets of jk_stream_start on

pub start_holds : Holds (replicate 2144 0) (begun (replicate 2048 0))
start_holds = record { sized = length-replicate {A = ℕ} 2144 0; stream = zeros_start.0; window = zeros_start.1 }

module _ (cs : List Call) where
  pub ran_from_start : Holds (stream_ran (replicate 2144 0) cs) (run (begun (replicate 2048 0)) cs)
  ran_from_start = runs_as_run (replicate 2144 0) (begun (replicate 2048 0)) cs start_holds

  pub packed_from_start : stream_ran (replicate 2144 0) cs ≡ packing (run (begun (replicate 2048 0)) cs)
  packed_from_start = run_packed (replicate 2144 0) (begun (replicate 2048 0)) cs start_holds (sym starting_zeros)

-- a refused call changes no octet

pub refused_feed_stays : (octets t : List ℕ) (a b : ℕ) → ((feeding_of octets t a b).number ≡ 0 → ⊥) → feed_stored octets t a b ≡ octets
unfolding feed_stored
refused_feed_stays octets t a b h = accepted_not (feeding_of octets t a b).number _ octets h

pub refused_end_stays : (octets : List ℕ) → ((ending (stream_of octets)).reading.number ≡ 0 → ⊥) → end_stored octets ≡ octets
unfolding end_stored
refused_end_stays octets h = accepted_not (ending (stream_of octets)).reading.number _ octets h
