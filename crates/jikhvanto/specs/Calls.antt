-- What each call of the C interface promises: r is the number that it returns, and a buffer with a mark is what the
-- call leaves in it.
use Rattle.std.specs.Prelude.{ℕ, ◌≡◌, List, length, replicate}
use Rattle.align.specs.Why.{why, why_number}
use Rattle.read.specs.Entry.{Read, reading}
use Rattle.stream.specs.Entry.{Feeds, ending}
use Rattle.write.specs.Entry.{Wrote, writing}
use Rattle.signals.specs.Entry.{Signalled, signalling}
use Rattle.signalled.specs.Entry as signalled
use Rattle.t1read.specs.Entry as t1read
use Rattle.t1write.specs.Entry as t1write
use Rattle.t1write.specs.Writing.{with_signals}
use Rattle.t1write.specs.Answer.{Written}
use Rattle.exchange.specs.Mapping.{Mapped}
use Rattle.exchange.specs.Machine.{start_state, hosted, keyed, crossed}
use Rattle.jikhvanto.specs.Octets.{state_of, octets_of, stored, host_stored, reading_places, why_places}
use Rattle.jikhvanto.specs.Octets.{signalling_places, t1_reading_places, pair_places}
use Rattle.jikhvanto.specs.Stream.{stream_of, window_of, feeding_of, feed_stored, end_stored}

pub record JkRead (image payload slot0 : List ℕ) (r : ℕ) (payload' slot0' answer' : List ℕ) : Type 0 where
  pub its_outputs : Read image payload slot0 (reading image (length payload) (length slot0)) payload' slot0'
  pub its_number : r ≡ (reading image (length payload) (length slot0)).number
  pub its_answer : answer' ≡ reading_places (reading image (length payload) (length slot0))

-- a stream that nothing has come to is all zeros
pub record JkStreamStart (stream' : List ℕ) : Type 0 where
  pub its_stream : stream' ≡ replicate 2144 0

pub record JkFeed (stream chunk payload slot0 : List ℕ) (r : ℕ)
    (stream' payload' slot0' answer' : List ℕ) : Type 0 where
  pub its_outputs : let f = feeding_of stream chunk (length payload) (length slot0) in
      Feeds (stream_of stream) (window_of stream) chunk payload slot0 f (window_of stream') payload' slot0'
  pub its_number : r ≡ (feeding_of stream chunk (length payload) (length slot0)).number
  pub its_stream : stream' ≡ feed_stored stream chunk (length payload) (length slot0)
  pub its_answer : answer' ≡ pair_places r (feeding_of stream chunk (length payload) (length slot0)).multiframes

pub record JkEnd (stream : List ℕ) (r : ℕ) (stream' answer' : List ℕ) : Type 0 where
  pub its_number : r ≡ (ending (stream_of stream)).reading.number
  pub its_stream : stream' ≡ end_stored stream
  pub its_answer : answer' ≡ reading_places (ending (stream_of stream)).reading

pub record JkSignals (image abcd : List ℕ) (r : ℕ) (abcd' answer' : List ℕ) : Type 0 where
  pub its_output : Signalled image abcd (signalling image (length abcd)) abcd'
  pub its_number : r ≡ (signalling image (length abcd)).number
  pub its_answer : answer' ≡ signalling_places (signalling image (length abcd))

pub record JkWhy (image : List ℕ) (place r : ℕ) (answer' : List ℕ) : Type 0 where
  pub its_number : r ≡ why_number (why image place)
  pub its_answer : answer' ≡ why_places (why image place)

pub record JkWrite (payload overhead : List ℕ) (check : ℕ) (out : List ℕ) (r : ℕ) (out' answer' : List ℕ) : Type 0 where
  pub its_output : Wrote payload overhead check out (writing payload overhead check (length out)) out'
  pub its_number : r ≡ (writing payload overhead check (length out)).number
  pub its_answer : answer' ≡ pair_places r (writing payload overhead check (length out)).check

pub record JkWriteSignalled (payload overhead : List ℕ) (check : ℕ) (xy abcd out : List ℕ) (r : ℕ) (out' answer' : List ℕ) : Type 0 where
  pub its_output : let w = signalled.writing payload overhead check xy abcd (length out) in
      signalled.Wrote payload overhead check xy abcd out w out'
  pub its_number : r ≡ (signalled.writing payload overhead check xy abcd (length out)).number
  pub its_answer : answer' ≡ pair_places r (signalled.writing payload overhead check xy abcd (length out)).check

pub record JkT1Read (image payload link : List ℕ) (r : ℕ) (payload' link' answer' : List ℕ) : Type 0 where
  pub its_outputs : let t = t1read.reading image (length payload) (length link) in
      t1read.Read image payload link t payload' link'
  pub its_number : r ≡ (t1read.reading image (length payload) (length link)).number
  pub its_answer : answer' ≡ t1_reading_places (t1read.reading image (length payload) (length link))

-- what the calls that write T1 answer: with signalling g, of the payload with these bits in it

abbrev pub t1_writing : List ℕ → List ℕ → ℕ → ℕ → Written
t1_writing p l c m = t1write.writing (t1write.refusal p l c m) p c

abbrev pub t1_signalled_writing : List ℕ → List ℕ → ℕ → List ℕ → ℕ → Written
t1_signalled_writing p l c g m = t1write.writing (t1write.signalled_refusal p l c g m) (with_signals p g) c

pub record JkT1Write (payload link : List ℕ) (check : ℕ) (out : List ℕ) (r : ℕ) (out' answer' : List ℕ) : Type 0 where
  pub its_output : t1write.Wrote payload link check out (t1_writing payload link check (length out)) out'
  pub its_number : r ≡ (t1_writing payload link check (length out)).number
  pub its_answer : answer' ≡ pair_places r (t1_writing payload link check (length out)).check

pub record JkT1WriteSignalled (payload link : List ℕ) (check : ℕ) (signalling out : List ℕ) (r : ℕ)
    (out' answer' : List ℕ) : Type 0 where
  pub its_output : let w = t1_signalled_writing payload link check signalling (length out) in
      t1write.WroteSignalled payload link check signalling out w out'
  pub its_number : r ≡ (t1_signalled_writing payload link check signalling (length out)).number
  pub its_answer : answer' ≡ pair_places r (t1_signalled_writing payload link check signalling (length out)).check

pub record JkStart (state' : List ℕ) : Type 0 where
  pub its_state : state' ≡ octets_of start_state

pub record JkHost (state octets : List ℕ) (r : ℕ) (state' answer' : List ℕ) : Type 0 where
  pub its_number : r ≡ (hosted (state_of state) octets).number
  pub its_state : state' ≡ host_stored state octets
  pub its_answer : answer' ≡ pair_places r (hosted (state_of state) octets).entry

pub record JkKey (state : List ℕ) (position r : ℕ) (state' : List ℕ) : Type 0 where
  pub its_number : r ≡ (keyed (state_of state) position).number
  pub its_state : state' ≡ stored state (keyed (state_of state) position)

pub record JkBoundary (state : List ℕ) (r : ℕ) (state' : List ℕ) : Type 0 where
  pub its_number : r ≡ (crossed (state_of state)).number
  pub its_state : state' ≡ stored state (crossed (state_of state))

pub record JkMap (state payload out : List ℕ) (r : ℕ) (out' : List ℕ) : Type 0 where
  pub its_mapping : Mapped (state_of state).live payload out r out'
