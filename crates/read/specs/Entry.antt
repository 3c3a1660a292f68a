-- What `read` answers, and what it leaves in the two outputs (KIT §5).
use Rattle.std.specs.Prelude.{if◌then◌else◌, ℕ, ◌*◌, ◌≤◌, ◌||◌, ◌≡◌, List, [], ◌∷◌, ◌++◌, eqb, ltb, length, drop}
use Rattle.std.specs.Prelude.{Option, Result, Ok, Err}
use Rattle.align.specs.Place.{found_in, number_of, place_of, start_of}
use Rattle.base.specs.Answer.{accepted, Refusal, ◌when◌, first_number}
use Rattle.base.specs.Number.{refusal_number, refusal_place}
use Rattle.base.specs.declared.Refused.{Refused}
use Rattle.measure.specs.Reading.{whole, loss, lost_at, cause_of, used_of, payload_of, slot0_of, word_errors, word_bits}
use Rattle.measure.specs.Reading.{compared, errored, far_end}
use Rattle.read.specs.declared.Located.{Located}
use Rattle.read.specs.Answer.{Reading}
pub use Rattle.read.specs.Answer.{refuse}

-- 2,048 to 8,192 octets
pub record GoodLength (s : List ℕ) : Type 0 where
  pub long : 2048 ≤ length s
  pub short : length s ≤ 8192

-- the place, the multiframe start, M, the loss and G of an image
unfoldable pub place_in : List ℕ → ℕ
place_in s = place_of (found_in s)

unfoldable pub start_in : List ℕ → ℕ
start_in s = start_of (found_in s)

abbrev pub whole_in : List ℕ → ℕ
whole_in s = whole s (start_in s)

abbrev pub loss_in : List ℕ → Option ℕ
loss_in s = loss s (start_in s) (whole_in s)

abbrev pub used_in : List ℕ → ℕ
used_in s = used_of (loss_in s) (whole_in s)

-- what an image is refused for by every entry that reads it from the first place that stands
abbrev pub unplaced : List ℕ → List Refusal
unplaced s =
    1 when ltb (length s) 2048
    ∷ 2 when ltb 8192 (length s)
    ∷ 3 when eqb (number_of (found_in s)) 3
    ∷ 15 when eqb (number_of (found_in s)) 15
    ∷ []

-- a and b are how many octets the two outputs have
abbrev pub refusals : List ℕ → ℕ → ℕ → List Refusal
refusals s a b = unplaced s ++ 4 when (ltb a (496 * used_in s) || ltb b (16 * used_in s)) ∷ []

unfoldable pub refusal : List ℕ → ℕ → ℕ → ℕ
refusal s a b = first_number (refusals s a b)

-- what an accepted call answers
unfoldable pub accept : List ℕ → Reading
accept s =
    record {
      number = 0;
      place = place_in s;
      start = start_in s;
      whole = whole_in s;
      used = used_in s;
      lost = lost_at (loss_in s);
      words = word_errors s (start_in s) (used_in s);
      compared = compared (used_in s);
      errored = errored s (start_in s) (used_in s);
      farend = far_end s (start_in s) (used_in s);
      wordbits = word_bits s (start_in s) (used_in s);
      cause = cause_of (loss_in s);
    }

-- the place beside the number n: number 15 alone has one, the first place with basic alignment
abbrev pub refused_place : List ℕ → ℕ → ℕ
refused_place s n = if eqb n 15 then place_in s else 0

unfoldable pub reading : List ℕ → ℕ → ℕ → Reading
reading s a b =
    let n = refusal s a b in
    accepted n (accept s) (refuse n (refused_place s n))

-- what `read` returns, and leaves in the outputs
pub record Read (s payload slot0 : List ℕ) (r : Reading) (payload' slot0' : List ℕ) : Type 0 where
  pub its_answer : r ≡ reading s (length payload) (length slot0)
  pub its_payload : payload'
      ≡ accepted r.number (payload_of s (start_in s) (used_in s) ++ drop (496 * used_in s) payload) payload
  pub its_slot0 : slot0'
      ≡ accepted r.number (slot0_of s (start_in s) (used_in s) ++ drop (16 * used_in s) slot0) slot0

-- Where an image is read from, and how far: what every entry that reads it from the first place that stands begins with.
unfoldable pub located : List ℕ → Located
located s =
    record {
      place = place_in s;
      start = start_in s;
      whole = whole_in s;
      used = used_in s;
      loss = loss_in s;
      words = word_errors s (start_in s) (used_in s);
      wordbits = word_bits s (start_in s) (used_in s);
    }

-- `locate` answers that, or the refusal that applies
abbrev pub Locates : List ℕ → Result Located Refused → Type 0
Locates s (Ok l) = (first_number (unplaced s) ≡ 0) × (l ≡ located s)
Locates s (Err e) =
    (first_number (unplaced s) ≡ refusal_number e) × (refusal_place e ≡ refused_place s (refusal_number e))
