-- The C interface: each call is the machine's step and answer on the octets of a state, and so is every run of them;
-- the same of a stream (KIT §10).
use Rattle.std.specs.Prelude.{ℕ, ◌≡◌, false, List, ◌≢◌, length, replicate}
use Rattle.exchange.specs.Machine.{start_state, kind_of}
use Rattle.exchange.specs.Runs.{Call, host, key, boundary, mapping, answer, after_run, answers, last_key, quiet}
use Rattle.stream.specs.Entry.{starting, Feeds, ending}
use Rattle.stream.specs.Runs.{chunk, end, begun, run, line_reading}
use Rattle.stream.specs.Runs as streams
use Rattle.jikhvanto.specs.Octets.{state_of, octets_of, pair_places, reading_places}
use Rattle.jikhvanto.specs.Stream.{stream_of, window_of, octets_of_stream, feeding_of}
use Rattle.jikhvanto.specs.Calls.{JkStreamStart, JkFeed, JkEnd, JkStart, JkHost, JkKey, JkBoundary, JkMap}
use Rattle.jikhvanto.specs.Runs.{stepped, ran, gave, stream_stepped, stream_ran}

pub record Interface : Type 0 where
  -- each contract gives the machine's step and answer
  pub jk_start : (state' : List ℕ) → JkStart state' → (length state' ≡ 99) × (state_of state' ≡ start_state)
  pub jk_host : (state octets : List ℕ) (r : ℕ) (state' answer' : List ℕ) → JkHost state octets r state' answer'
      → let a = answer (state_of state) (host octets) in
      (r ≡ a.number) × (answer' ≡ pair_places a.number a.entry) × (state' ≡ stepped state (host octets))
  pub jk_key : (state : List ℕ) (position r : ℕ) (state' : List ℕ) → JkKey state position r state'
      → (r ≡ (answer (state_of state) (key position)).number) × (state' ≡ stepped state (key position))
  pub jk_boundary : (state : List ℕ) (r : ℕ) (state' : List ℕ) → JkBoundary state r state'
      → (r ≡ (answer (state_of state) boundary).number) × (state' ≡ stepped state boundary)
  pub jk_map : (state payload out : List ℕ) (r : ℕ) (out' : List ℕ) → JkMap state payload out r out'
      → let a = answer (state_of state) (mapping payload out) in
      (r ≡ a.number) × (out' ≡ a.output) × (state ≡ stepped state (mapping payload out))
  -- any run over the octets of a state goes and answers as on the machine
  pub runs : (state : List ℕ) (cs : List Call) → length state ≡ 99
      → (state_of (ran state cs) ≡ after_run (state_of state) cs) × (gave state cs ≡ answers (state_of state) cs)
  -- from jk_start on, the flag is the last accepted key position
  pub flag : (cs : List Call) → (state_of (ran (octets_of start_state) cs)).flag ≡ last_key false cs
  -- the locked-out host
  pub locked_out : (state : List ℕ) (cs ds : List Call) → length state ≡ 99 → (state_of state).flag ≡ false
      → quiet cs ≡ quiet ds
      → (state_of (ran state cs) ≡ state_of (ran state ds))
      × ((later : List Call) → gave (ran state cs) later ≡ gave (ran state ds) later)
  -- a refused call changes no octet of the state, nor does a record that only reads, nor any host record with the key
  -- off
  pub refused : (state : List ℕ) (c : Call) → ((answer (state_of state) c).number ≡ 0 → ⊥) → stepped state c ≡ state
  pub reading : (state r : List ℕ) → kind_of r ≡ 3 → stepped state (host r) ≡ state
  pub while_off : (state r : List ℕ) → (state_of state).flag ≡ false → stepped state (host r) ≡ state
  -- A stream: each contract gives the step and the answer,
  pub jk_stream_start : (stream' : List ℕ) → JkStreamStart stream'
      → (stream' ≡ octets_of_stream starting (replicate 2048 0)) × (stream_of stream' ≡ starting)
  pub jk_feed : (stream t payload slot0 : List ℕ) (r : ℕ) (stream' payload' slot0' answer' : List ℕ)
      → JkFeed stream t payload slot0 r stream' payload' slot0' answer'
      → let f = feeding_of stream t (length payload) (length slot0) in
      (r ≡ f.number) × (answer' ≡ pair_places f.number f.multiframes)
      × (stream' ≡ stream_stepped stream (chunk t (length payload) (length slot0)))
      × Feeds (stream_of stream) (window_of stream) t payload slot0 f (window_of stream') payload' slot0'
  pub jk_end : (stream : List ℕ) (r : ℕ) (stream' answer' : List ℕ) → JkEnd stream r stream' answer'
      → let e = (ending (stream_of stream)).reading in
      (r ≡ e.number) × (answer' ≡ reading_places e) × (stream' ≡ stream_stepped stream end)
  -- and from jk_stream_start on any run over the octets of a stream goes as on the stream
  pub stream_runs : (calls : List streams.Call)
      → let octets = stream_ran (replicate 2144 0) calls in
      let r = run (begun (replicate 2048 0)) calls in
      (octets ≡ octets_of_stream r.stream r.window) × (stream_of octets ≡ r.stream) × (window_of octets ≡ r.window)
  -- so that jk_end puts into its places what is said of the joined line
  pub stream_ends : (calls : List streams.Call) (r : ℕ) (stream' answer' : List ℕ)
      → JkEnd (stream_ran (replicate 2144 0) calls) r stream' answer'
      → let x = run (begun (replicate 2048 0)) calls in
      answer' ≡ reading_places (line_reading x.stream.ended x.line)
  -- a refused call changes no octet of the stream
  pub feed_refused : (stream t : List ℕ) (a b : ℕ) → (feeding_of stream t a b).number ≢ 0
      → stream_stepped stream (chunk t a b) ≡ stream
  pub end_refused : (stream : List ℕ) → (ending (stream_of stream)).reading.number ≢ 0
      → stream_stepped stream end ≡ stream
