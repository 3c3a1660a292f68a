-- What `signals` answers, and what it leaves in the output (KIT §5).
use Rattle.std.specs.Prelude.{ℕ, ◌-◌, ◌*◌, ◌/◌, ◌%◌, ◌≡◌, List, [], ◌∷◌, ◌++◌, ltb, length, drop, replicate}
use Rattle.base.specs.Answer.{accepted, Refusal, ◌when◌, first_number}
use Rattle.base.specs.Tab.{tab}
use Rattle.line.specs.Bit.{octet_at}
use Rattle.e1.specs.Frame.{slot_at}
use Rattle.read.specs.Entry.{start_in, used_in, unplaced}
use Rattle.signals.specs.Signalling.{starts_in, read_in, first_in, losses_in, held_in, abcd_in, xy_in}
use Rattle.signals.specs.Answer.{Signalling}
pub use Rattle.signals.specs.Answer.{refuse}

-- slot 16 of the frames of g multiframes from q on, and of those of an image that are used
unfoldable pub slot16_of : List ℕ → ℕ → ℕ → List ℕ
slot16_of s q g = tab (16 * g) (λ f. octet_at s (slot_at q f 16))

abbrev pub slot16_in : List ℕ → List ℕ
slot16_in s = slot16_of s (start_in s) (used_in s)

-- how many octets of the output are filled
abbrev pub filled : List ℕ → ℕ
filled t = 30 * read_in t (length t)

-- a is how many octets the output has
abbrev pub refusals : List ℕ → ℕ → List Refusal
refusals s a = unplaced s ++ 4 when ltb a (filled (slot16_in s)) ∷ []

unfoldable pub refusal : List ℕ → ℕ → ℕ
refusal s a = first_number (refusals s a)

-- what an accepted call answers, t the slots 16; past the frames at which a signalling multiframe begins are zeros
unfoldable pub accept : List ℕ → Signalling
accept t =
    let n = length t in
    record {
      number = 0;
      multiframes = read_in t n;
      first = first_in t n;
      losses = losses_in t n;
      held = held_in t n;
      x0 = xy_in t n / 8 % 2;
      x1 = xy_in t n / 2 % 2;
      x2 = xy_in t n % 2;
      y = xy_in t n / 4 % 2;
      starts = starts_in t n ++ replicate (16 - read_in t n) 0;
    }

unfoldable pub signalling : List ℕ → ℕ → Signalling
signalling s a = accepted (refusal s a) (accept (slot16_in s)) (refuse (refusal s a))

-- what `signals` returns, and leaves in the output
pub record Signalled (s out : List ℕ) (r : Signalling) (out' : List ℕ) : Type 0 where
  pub its_answer : r ≡ signalling s (length out)
  pub its_out : let t = slot16_in s in
      out' ≡ accepted r.number (abcd_in t (length t) ++ drop (filled t) out) out
