-- For private functions alone. What is written of an accepted call.
use Rattle.std.specs.Prelude.{if◌then◌else◌, ℕ, ◌*◌, ◌/◌, ◌%◌, ◌<◌, List, ◌≡◌, ◌+◌, eqb, length, get_or, slice_range}
use Rattle.line.specs.Spelt.{digit}
use Rattle.t1.specs.Payload.{data_bit}

-- n octets of 0 or 1
pub record OfBits (l : List ℕ) (n : ℕ) : Type 0 where
  pub long : length l ≡ n
  pub bits : (i : ℕ) → get_or l i 0 < 2

-- the payload p and the data link l of n superframes, and a check c
pub record Inputs (p l : List ℕ) (c n : ℕ) : Type 0 where
  pub payload : length p ≡ 576 * n
  pub link : OfBits l (12 * n)
  pub six_bits : c < 64

-- the octets of superframe m of the payload p
abbrev pub superframe_of : List ℕ → ℕ → List ℕ
superframe_of p m = slice_range p (576 * m) (576 * m + 576)

-- bit i of eight frames with the octets o and, as a number, the framing bits b
unfoldable pub frames_bit : List ℕ → ℕ → ℕ → ℕ
frames_bit o b i = if eqb (i % 193) 0 then digit 8 b (i / 193) else data_bit o i
