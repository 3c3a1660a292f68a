-- Runs of C calls over the octets of one state, and of one stream.
use Rattle.std.specs.Prelude.{List, [], ◌∷◌, ℕ}
use Rattle.exchange.specs.Machine.{keyed, crossed}
use Rattle.exchange.specs.Runs.{Call, Answer, host, key, boundary, mapping, answer}
use Rattle.stream.specs.Runs.{chunk, end}
use Rattle.stream.specs.Runs as streams
use Rattle.jikhvanto.specs.Octets.{state_of, stored, host_stored}
use Rattle.jikhvanto.specs.Stream.{feed_stored, end_stored}

-- what a call leaves in the state's octets, as its contract says
unfoldable pub stepped : List ℕ → Call → List ℕ
stepped state (host r) = host_stored state r
stepped state (key p) = stored state (keyed (state_of state) p)
stepped state boundary = stored state (crossed (state_of state))
stepped state (mapping p out) = state

unfoldable pub ran : List ℕ → List Call → List ℕ
ran state [] = state
ran state (c ∷ cs) = ran (stepped state c) cs

-- what the calls of a run answer: each as the machine does, in the state that its octets are
unfoldable pub gave : List ℕ → List Call → List Answer
gave state [] = []
gave state (c ∷ cs) = answer (state_of state) c ∷ gave (stepped state c) cs

-- what a call leaves in the octets of a stream

unfoldable pub stream_stepped : List ℕ → streams.Call → List ℕ
stream_stepped stream (chunk t a b) = feed_stored stream t a b
stream_stepped stream end = end_stored stream

unfoldable pub stream_ran : List ℕ → List streams.Call → List ℕ
stream_ran stream [] = stream
stream_ran stream (c ∷ cs) = stream_ran (stream_stepped stream c) cs
