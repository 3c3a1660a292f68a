-- Runs: any calls on a stream in any order (KIT §5), and the line that they join.
use Rattle.std.specs.Prelude.{ℕ, Bool, List, [], ◌∷◌, ◌++◌, eqb, ltb, length}
use Rattle.base.specs.Answer.{accepted, Refusal, ◌when◌, first_number}
use Rattle.align.specs.Place.{found_in, number_of}
use Rattle.measure.specs.Reading.{payload_of, slot0_of}
use Rattle.read.specs.Entry.{start_in, used_in}
use Rattle.read.specs.Entry as reads
use Rattle.read.specs.Answer.{Reading}
use Rattle.chunk.specs.Taking.{over}
use Rattle.stream.specs.Entry.{starting, grown_of, feed_refusal, feed_accept, end_refusal, ending}
use Rattle.stream.specs.declared.Stream.{Stream}

-- a chunk, with outputs of so many octets; an end
pub data Call : Type 0 where
  chunk : List ℕ → ℕ → ℕ → Call
  end : Call

-- a run so far: the stream and its window, the chunks that were taken, joined, and all that has left, joined
pub record Run : Type 0 where
  pub stream : Stream
  pub window : List ℕ
  pub line : List ℕ
  pub payload : List ℕ
  pub slot0 : List ℕ

-- the beginning, with any window
abbrev pub begun : List ℕ → Run
begun window = record { stream = starting; window = window; line = []; payload = []; slot0 = [] }

-- what a call makes of a run: where it is refused, nothing
unfoldable pub called : Run → Call → Run
called r (chunk t a b) =
    let x = grown_of r.stream r.window t in
    accepted (feed_refusal r.stream r.window t a b)
    (record {
      stream = (feed_accept x).stream;
      window = over x.window r.window;
      line = r.line ++ t;
      payload = r.payload ++ x.payload;
      slot0 = r.slot0 ++ x.slot0;
    })
    r
called r end =
    accepted (end_refusal r.stream)
    (record {
      stream = (ending r.stream).stream;
      window = r.window;
      line = r.line;
      payload = r.payload;
      slot0 = r.slot0;
    })
    r

unfoldable pub run : Run → List Call → Run
run r [] = r
run r (c ∷ cs) = run (called r c) cs

-- What §5 says of a joined line, as though it were one image of any length: at its end, and of what leaves.

abbrev pub line_refusals : Bool → List ℕ → List Refusal
line_refusals ended s =
    21 when ended
    ∷ 1 when ltb (length s) 2048
    ∷ 3 when eqb (number_of (found_in s)) 3
    ∷ 15 when eqb (number_of (found_in s)) 15
    ∷ []

unfoldable pub line_reading : Bool → List ℕ → Reading
line_reading ended s =
    let n = first_number (line_refusals ended s) in
    accepted n (reads.accept s) (reads.refuse n (reads.refused_place s n))

unfoldable pub line_payload : List ℕ → List ℕ
line_payload s = accepted (number_of (found_in s)) (payload_of s (start_in s) (used_in s)) []

unfoldable pub line_slot0 : List ℕ → List ℕ
line_slot0 s = accepted (number_of (found_in s)) (slot0_of s (start_in s) (used_in s)) []
