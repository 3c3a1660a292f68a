-- A stream as 2,144 octets (KIT §10): twelve numbers of 64 bits, each spelt by eight octets, the highest first, and
-- then the window.
use Rattle.std.specs.Prelude.{if◌then◌else◌, ℕ, ◌*◌, ◌/◌, ◌%◌, List, [], ◌∷◌, ◌++◌, eqb, get_or, drop}
use mir.Val.{bool_byte}
use Rattle.base.specs.Answer.{accepted}
use Rattle.base.specs.Tab.{tab}
use Rattle.line.specs.Bit.{field}
use Rattle.line.specs.Spelt.{spelt_octet}
use Rattle.align.specs.Place.{place_of, k_of}
use Rattle.align.specs.declared.Found.{Found}
use Rattle.align.specs.declared.Found.TheVariants.{At, BasicAt, Nothing}
use Rattle.chunk.specs.Taking.{over}
use Rattle.stream.specs.Entry.{grown_of, feeding, ending}
use Rattle.stream.specs.declared.Stream.{Stream}
use Rattle.stream.specs.Answer.{Fed}

-- number i of the twelve
unfoldable pub number_at : ℕ → List ℕ → ℕ
number_at i octets = field octets (64 * i) 64

-- what is found: by 2 a place that stands, by 1 one with basic alignment, by any other number nothing
unfoldable pub found_by : ℕ → ℕ → ℕ → Found
found_by n place k = if eqb n 2 then At place k else if eqb n 1 then BasicAt place else Nothing

-- Any octets are a stream, which has ended where its first number is 1.
unfoldable pub stream_of : List ℕ → Stream
stream_of octets =
    record {
      ended = eqb (number_at 0 octets) 1;
      fill = number_at 1 octets;
      line = record {
        before = number_at 2 octets;
        found = found_by (number_at 3 octets) (number_at 4 octets) (number_at 5 octets);
        used = number_at 6 octets;
        lost = number_at 7 octets;
        words = number_at 8 octets;
        errored = number_at 9 octets;
        farend = number_at 10 octets;
        wordbits = number_at 11 octets;
      };
    }

abbrev pub window_of : List ℕ → List ℕ
window_of octets = drop 96 octets

-- the numbers of a stream; a place and a k that are not there are 0

abbrev pub found_number : Found → ℕ
found_number (At p k) = 2
found_number (BasicAt p) = 1
found_number Nothing = 0

unfoldable pub stream_numbers : Stream → List ℕ
stream_numbers st =
    let c = st.line in
    bool_byte st.ended ∷ st.fill ∷ c.before ∷ found_number c.found ∷ place_of c.found ∷ k_of c.found
    ∷ c.used ∷ c.lost ∷ c.words ∷ c.errored ∷ c.farend ∷ c.wordbits ∷ []

-- the octets that spell twelve numbers
unfoldable pub spelt_numbers : List ℕ → List ℕ
spelt_numbers numbers = tab 96 (λ i. spelt_octet (get_or numbers (i / 8) 0) (i % 8))

-- a stream and its window packed
abbrev pub octets_of_stream : Stream → List ℕ → List ℕ
octets_of_stream st window = spelt_numbers (stream_numbers st) ++ window

-- what a chunk is answered, with outputs of a and b octets
abbrev pub feeding_of : List ℕ → List ℕ → ℕ → ℕ → Fed
feeding_of octets chunk a b = feeding (stream_of octets) (window_of octets) chunk a b

-- what is in the window when it is taken
abbrev pub window_then : List ℕ → List ℕ → List ℕ
window_then octets chunk = over (grown_of (stream_of octets) (window_of octets) chunk).window (window_of octets)

-- what a chunk or an end leaves in the octets: where it is refused every octet as it was

unfoldable pub feed_stored : List ℕ → List ℕ → ℕ → ℕ → List ℕ
feed_stored octets chunk a b =
    let f = feeding_of octets chunk a b in
    accepted f.number (octets_of_stream f.stream (window_then octets chunk)) octets

unfoldable pub end_stored : List ℕ → List ℕ
end_stored octets =
    let e = ending (stream_of octets) in
    accepted e.reading.number (octets_of_stream e.stream (window_of octets)) octets
