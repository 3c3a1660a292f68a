-- A line in chunks (KIT §5 and §11): of a stream is answered what is said of the joined line, wherever it was cut.
use Rattle.std.specs.Prelude.{ℕ, ◌+◌, ◌-◌, ◌*◌, ◌/◌, ◌≤◌, ◌<◌, ◌≡◌, true, false, List, [], ◌++◌, ◌↔◌, ◌≢◌, length, take, drop}
use Rattle.base.specs.Answer.{accepted}
use Rattle.base.specs.Tab.{tab}
use Rattle.line.specs.Bit.{bit_at, octet_at}
use Rattle.align.specs.Place.{number_of, start_of}
use Rattle.align.specs.Stands.{Basic, BasicFirst, Stands}
use Rattle.read.specs.Entry.{GoodLength, Read}
use Rattle.read.specs.Answer.{Reading}
use Rattle.growth.specs.Growth.{fed, after}
use Rattle.growth.specs.declared.Line.{Line}
use Rattle.stream.specs.Entry.{is_over, octets_came, feed_refusal, ending, Feeds}
use Rattle.stream.specs.Runs.{Call, chunk, end, Run, begun, called, run, line_reading, line_payload, line_slot0}
use Rattle.stream.specs.declared.Stream.{Stream}
use Rattle.stream.specs.Answer.{Fed}
use Rattle.claims.specs.Counts.{Agrees}
use Rattle.claims.specs.Demand2.{Accepted}
use Rattle.claims.specs.Demand3.{Aligned, OnlyThere}

-- a run from the start, with any window of 2,048 octets
pub record Reached (r : Run) : Type 0 where
  pub window : List ℕ
  pub sized : length window ≡ 2048
  pub calls : List Call
  pub there : r ≡ run (begun window) calls

-- r' is the run r after the chunk t, by what was answered and by what stands in the buffers then
pub record Steps (r : Run) (t : List ℕ) (f : Fed) (window' payload' slot0' : List ℕ) (r' : Run) : Type 0 where
  pub stream : r'.stream ≡ f.stream
  pub window : r'.window ≡ window'
  pub line : r'.line ≡ accepted f.number (r.line ++ t) r.line
  pub payload : r'.payload ≡ r.payload ++ take (496 * f.multiframes) payload'
  pub slot0 : r'.slot0 ≡ r.slot0 ++ take (16 * f.multiframes) slot0'

-- what is held of the joined line: its last octets
pub record HoldsLast (r : Run) : Type 0 where
  pub octets : octets_came r.stream ≡ length r.line
  pub last : take r.stream.fill r.window ≡ drop r.stream.line.before r.line
  pub window : length r.window ≡ 2048
  pub most : r.stream.fill ≤ 2048
  -- while no place stands, the last 2,048
  pub waiting : number_of r.stream.line.found ≢ 0 → r.stream.line.before ≡ length r.line - 2048
  -- then from the octet on in which the last multiframe that left begins, 1,024 at most, and none after a loss
  pub following : number_of r.stream.line.found ≡ 0 → r.stream.line.lost ≡ 0
      → r.stream.line.before ≡ start_of r.stream.line.found / 8 + 512 * (r.stream.line.used - 1)
  pub fewer : number_of r.stream.line.found ≡ 0 → r.stream.fill ≤ 1024
  pub none : r.stream.line.lost ≢ 0 → r.stream.fill ≡ 0

-- n multiframes of a line from its start q on, as an image
unfoldable pub cut_at : List ℕ → ℕ → ℕ → List ℕ
cut_at s q n = tab (512 * n) (λ i. octet_at s (q + 8 * i))

-- every block of them but the last agrees with the check carried in the next
abbrev pub AgreeingFrom : List ℕ → ℕ → ℕ → Type 0
AgreeingFrom s q n = (b : ℕ) → b + 1 < 2 * n → Agrees s q b

-- a run whose end is accepted with the start q, all of n whole multiframes used, and no errored block
pub record EndsClean (r : Run) (q n : ℕ) : Type 0 where
  pub reached : Reached r
  pub number : (ending r.stream).reading.number ≡ 0
  pub start : (ending r.stream).reading.start ≡ q
  pub whole : (ending r.stream).reading.whole ≡ n
  pub used : (ending r.stream).reading.used ≡ n
  pub errored : (ending r.stream).reading.errored ≡ 0

pub record Streams : Type 0 where
  -- A run is what the calls do: after each of them the contracts give the next stream, window and outputs
  pub feeds : (r : Run) (t payload slot0 : List ℕ) (f : Fed) (window' payload' slot0' : List ℕ)
      → Feeds r.stream r.window t payload slot0 f window' payload' slot0'
      → Steps r t f window' payload' slot0' (called r (chunk t (length payload) (length slot0)))
  pub finishes : (r : Run)
      → called r end
      ≡ record {
        stream = (ending r.stream).stream;
        window = r.window;
        line = r.line;
        payload = r.payload;
        slot0 = r.slot0;
      }
  -- After any calls, refused ones among them, an end answers what is said of the joined line
  pub ends : (r : Run) → Reached r → (ending r.stream).reading ≡ line_reading r.stream.ended r.line
  -- and all used multiframes of it have left, with nothing else
  pub left : (r : Run) → Reached r → (r.payload ≡ line_payload r.line) × (r.slot0 ≡ line_slot0 r.line)
  -- In the words of Demand 2 that is the first place that stands, every count and every octet of the joined line;
  pub reads : (r : Run) → Reached r → (ending r.stream).reading.number ≡ 0
      → Accepted r.line [] [] (ending r.stream).reading r.payload r.slot0
  -- with 3 exactly when no place with room has basic alignment, with 15 exactly when one has, and none stands; and the
  -- place beside 15 is the first such
  pub no_basic : (r : Run) → Reached r → r.stream.ended ≡ false → 2048 ≤ length r.line
      → (ending r.stream).reading.number ≡ 3
      ↔ ((p : ℕ) → p + 16384 ≤ 8 * length r.line → Basic r.line p → ⊥)
  pub basic_only : (r : Run) → Reached r → r.stream.ended ≡ false → 2048 ≤ length r.line
      → (ending r.stream).reading.number ≡ 15
      ↔ ((p : ℕ) × BasicFirst r.line p) × ((p k : ℕ) → Stands r.line p k → ⊥)
  pub basic_place : (r : Run) → Reached r → (ending r.stream).reading.number ≡ 15
      → BasicFirst r.line (ending r.stream).reading.place
  -- so two runs that join the same line, ended both or neither, answer the same end, and the same has left
  pub cut_anywhere : (r r' : Run) → Reached r → Reached r' → r.line ≡ r'.line → r.stream.ended ≡ r'.stream.ended
      → ((ending r.stream).reading ≡ (ending r'.stream).reading)
      × (r.payload ≡ r'.payload)
      × (r.slot0 ≡ r'.slot0)
  -- of a line that is an image it is what `read` answers and fills, where that has room
  pub as_read : (r : Run) → Reached r → r.stream.ended ≡ false → GoodLength r.line
      → (payload slot0 : List ℕ) (x : Reading) (payload' slot0' : List ℕ)
      → Read r.line payload slot0 x payload' slot0' → x.number ≢ 4
      → ((ending r.stream).reading ≡ x)
      × (r.payload ≡ take (496 * x.used) payload')
      × (r.slot0 ≡ take (16 * x.used) slot0')
  -- for every line, also one that comes from no calls: feeding a and b joined is feeding a, and then b
  pub cut : (c : Line) (window a b : List ℕ)
      → fed c window (a ++ b) ≡ after (fed c window a) (fed (fed c window a).line (fed c window a).window b)
  -- no call makes a stream that counts as ended before its end, and after it no call changes anything
  pub over : (r : Run) → Reached r → is_over r.stream ≡ r.stream.ended
  pub stays : (r : Run) (calls : List Call) → r.stream.ended ≡ true → run r calls ≡ r
  -- the joined line keeps to the limit, and its last octets are held
  pub limit : (r : Run) → Reached r → length r.line ≤ 16777216
  pub held : (r : Run) → Reached r → HoldsLast r
  -- with room for n / 512 + 4 multiframes a chunk of n octets never lacks any, whatever the stream
  pub room : (st : Stream) (window t : List ℕ) (a b : ℕ)
      → 496 * (length t / 512 + 4) ≤ a → 16 * (length t / 512 + 4) ≤ b → feed_refusal st window t a b ≢ 4
  -- Demand 3. Multiframes that are cut out of a line at its start are an aligned image with the line's bits,
  pub aligned : (s : List ℕ) (q n : ℕ) → 1 ≤ n
      → Aligned (cut_at s q n) n × ((p : ℕ) → p < 4096 * n → bit_at (cut_at s q n) p ≡ bit_at s (q + p))
  -- and what differs within four bits of two of them, cut at the same start, is only there where no check can tell
  pub burst : (n q : ℕ) (s t : List ℕ) → AgreeingFrom s q n → AgreeingFrom t q n
      → OnlyThere n (cut_at s q n) (cut_at t q n)
  -- the same of the whole multiframes of two joined lines, as the ends answer of them
  pub clean : (n q : ℕ) (r r' : Run) → EndsClean r q n → EndsClean r' q n
      → OnlyThere n (cut_at r.line q n) (cut_at r'.line q n)
