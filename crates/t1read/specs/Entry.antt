-- What `read` answers, and what it leaves in the two outputs (KIT §15).
use Rattle.std.specs.Prelude.{ℕ, ◌*◌, ◌≤◌, ◌||◌, ◌≡◌, List, [], ◌∷◌, ◌++◌, is_none, ltb, length, drop}
use Rattle.base.specs.Answer.{accepted, Refusal, ◌when◌, first_number}
use Rattle.base.specs.Choice.{value_or}
use Rattle.t1align.specs.Place.{first_standing}
use Rattle.t1read.specs.Reading.{whole, payload_of, link_of, compared, errored}
use Rattle.t1read.specs.Answer.{Reading}

-- 1,158 to 8,192 octets
pub record GoodLength (s : List ℕ) : Type 0 where
  pub long : 1158 ≤ length s
  pub short : length s ≤ 8192

-- the place of an image, 0 where none stands, and its whole superframes
unfoldable pub place_in : List ℕ → ℕ
place_in s = value_or (first_standing s) 0

abbrev pub whole_in : List ℕ → ℕ
whole_in s = whole s (place_in s)

-- a and b are how many octets the two outputs have
abbrev pub refusals : List ℕ → ℕ → ℕ → List Refusal
refusals s a b =
    1 when ltb (length s) 1158
    ∷ 2 when ltb 8192 (length s)
    ∷ 3 when is_none (first_standing s)
    ∷ 4 when (ltb a (576 * whole_in s) || ltb b (12 * whole_in s))
    ∷ []

unfoldable pub refusal : List ℕ → ℕ → ℕ → ℕ
refusal s a b = first_number (refusals s a b)

-- what an accepted call answers
unfoldable pub accept : List ℕ → Reading
accept s =
    record {
      number = 0;
      place = place_in s;
      whole = whole_in s;
      compared = compared (whole_in s);
      errored = errored s (place_in s) (whole_in s);
    }

-- a refusal: zeros beside the number
abbrev pub refuse : ℕ → Reading
refuse n = record { number = n; place = 0; whole = 0; compared = 0; errored = 0 }

unfoldable pub reading : List ℕ → ℕ → ℕ → Reading
reading s a b = accepted (refusal s a b) (accept s) (refuse (refusal s a b))

-- what `read` returns, and leaves in the outputs
pub record Read (s payload link : List ℕ) (r : Reading) (payload' link' : List ℕ) : Type 0 where
  pub its_answer : r ≡ reading s (length payload) (length link)
  pub its_payload : payload'
      ≡ accepted r.number (payload_of s (place_in s) (whole_in s) ++ drop (576 * whole_in s) payload) payload
  pub its_link : link' ≡ accepted r.number (link_of s (place_in s) (whole_in s) ++ drop (12 * whole_in s) link) link
