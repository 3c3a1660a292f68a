-- What `start`, `feed` and `end` answer, and what they leave in the window and the two outputs (KIT §5): one answer for
-- every stream.
use Rattle.std.specs.Prelude.{if◌then◌else◌, ℕ, ◌+◌, ◌-◌, ◌*◌, ◌/◌, ◌%◌, Bool, true, false, not, ◌||◌, ◌≡◌, List, [], ◌∷◌, eqb, ltb, length, take}
use Rattle.base.specs.Answer.{accepted, Refusal, ◌when◌, first_number}
use Rattle.align.specs.Place.{number_of, place_of, start_of}
use Rattle.align.specs.declared.Found.{Found}
use Rattle.align.specs.declared.Found.TheVariants.{At, BasicAt, Nothing}
use Rattle.measure.specs.Reading.{compared}
use Rattle.read.specs.Entry as reads
use Rattle.read.specs.Answer.{Reading}
use Rattle.growth.specs.Growth.{Grown, nothing, fed}
use Rattle.chunk.specs.Taking.{lacks_room, over}
use Rattle.stream.specs.declared.Stream.{Stream}
use Rattle.stream.specs.Answer.{Fed}
use Rattle.stream.specs.Answer.{Ended}

-- nothing has come
abbrev pub starting : Stream
starting = record { ended = false; fill = 0; line = nothing }

-- a number over the bits of the longest line
abbrev pub is_large : ℕ → Bool
is_large n = ltb 134217728 n

unfoldable pub is_far : Found → Bool
is_far (At p k) = is_large p || is_large k
is_far (BasicAt p) = is_large p
is_far Nothing = false

-- it has ended; one whose numbers come from no calls counts as such
unfoldable pub is_over : Stream → Bool
is_over st =
    let c = st.line in
    st.ended || ltb 2048 st.fill || is_far c.found || is_large c.before || is_large c.used || is_large c.lost
    || is_large c.words || is_large c.errored || is_large c.farend || is_large c.wordbits

-- the octets that came
abbrev pub octets_came : Stream → ℕ
octets_came st = st.line.before + st.fill

-- what a chunk makes of the stream whose window holds these octets
abbrev pub grown_of : Stream → List ℕ → List ℕ → Grown
grown_of st window chunk = fed st.line (take st.fill window) chunk

-- A window has 2,048 octets; a and b are how many the two outputs have.
abbrev pub feed_refusals : Stream → List ℕ → List ℕ → ℕ → ℕ → List Refusal
feed_refusals st window chunk a b =
    21 when (is_over st || not (eqb (length window) 2048))
    ∷ 17 when ltb 16777216 (octets_came st + length chunk)
    ∷ 4 when lacks_room a b (grown_of st window chunk).multiframes
    ∷ []

unfoldable pub feed_refusal : Stream → List ℕ → List ℕ → ℕ → ℕ → ℕ
feed_refusal st window chunk a b = first_number (feed_refusals st window chunk a b)

-- a chunk is taken, or refused with the stream as it was
abbrev pub feed_accept : Grown → Fed
feed_accept x =
    record {
      stream = record { ended = false; fill = length x.window; line = x.line };
      number = 0;
      multiframes = x.multiframes;
    }

abbrev pub feed_refuse : Stream → ℕ → Fed
feed_refuse st n = record { stream = st; number = n; multiframes = 0 }

unfoldable pub feeding : Stream → List ℕ → List ℕ → ℕ → ℕ → Fed
feeding st window chunk a b =
    let n = feed_refusal st window chunk a b in
    accepted n (feed_accept (grown_of st window chunk)) (feed_refuse st n)

-- what `feed` returns, and leaves in the window and the outputs
pub record Feeds (st : Stream) (window chunk payload slot0 : List ℕ) (r : Fed) (window' payload' slot0' : List ℕ) : Type 0 where
  pub its_answer : r ≡ feeding st window chunk (length payload) (length slot0)
  pub its_window : window' ≡ accepted r.number (over (grown_of st window chunk).window window) window
  pub its_payload : payload' ≡ accepted r.number (over (grown_of st window chunk).payload payload) payload
  pub its_slot0 : slot0' ≡ accepted r.number (over (grown_of st window chunk).slot0 slot0) slot0

-- An end. Number 2 is not among these.

abbrev pub end_refusals : Stream → List Refusal
end_refusals st =
    21 when is_over st
    ∷ 1 when ltb (octets_came st) 2048
    ∷ 3 when eqb (number_of st.line.found) 3
    ∷ 15 when eqb (number_of st.line.found) 15
    ∷ []

unfoldable pub end_refusal : Stream → ℕ
end_refusal st = first_number (end_refusals st)

-- the cause, by the frame of loss or 0
abbrev pub cause_by : ℕ → ℕ
cause_by lost = if eqb lost 0 then 0 else 1 + lost % 2

unfoldable pub end_accept : Stream → Reading
end_accept st =
    let c = st.line in
    record {
      number = 0;
      place = place_of c.found;
      start = start_of c.found;
      whole = (8 * octets_came st - start_of c.found) / 4096;
      used = c.used;
      lost = c.lost;
      words = c.words;
      compared = compared c.used;
      errored = c.errored;
      farend = c.farend;
      wordbits = c.wordbits;
      cause = cause_by c.lost;
    }

-- number 15 alone has a place beside it
abbrev pub end_place : Stream → ℕ → ℕ
end_place st n = if eqb n 15 then place_of st.line.found else 0

unfoldable pub ending : Stream → Ended
ending st =
    let n = end_refusal st in
    accepted n (record { stream = record { ended = true; fill = st.fill; line = st.line }; reading = end_accept st })
    (record { stream = st; reading = reads.refuse n (end_place st n) })
