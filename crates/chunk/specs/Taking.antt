-- What `take` answers, and what it leaves in the window and the two outputs.
use Rattle.std.specs.Prelude.{if◌then◌else◌, ℕ, ◌*◌, ◌≡◌, Bool, ◌||◌, List, ◌++◌, ltb, length, drop}
use Rattle.std.specs.Prelude.{Result, Ok, Err}
use Rattle.base.specs.Answer.{accepted}
use Rattle.base.specs.Number.{number_in}
use Rattle.base.specs.declared.Refused.{Refused}
use Rattle.base.specs.declared.Refused.TheVariants.{NoRoom}
use Rattle.growth.specs.Growth.{Grown}
use Rattle.chunk.specs.declared.Took.{Took}

-- n multiframes need more octets than outputs of a and b octets have
unfoldable pub lacks_room : ℕ → ℕ → ℕ → Bool
lacks_room a b n = ltb a (496 * n) || ltb b (16 * n)

-- what x makes of a line is taken
abbrev pub taking : Grown → Took
taking x = record { line = x.line; fill = length x.window; multiframes = x.multiframes }

-- or refused, where an output lacks room
abbrev pub taking_if : Bool → Grown → Result Took Refused
taking_if lacks x = if lacks then Err NoRoom else Ok (taking x)

-- what leaves, or is kept, stands at the front of a buffer, and the rest of it stays
abbrev pub over : List ℕ → List ℕ → List ℕ
over octets buffer = octets ++ drop (length octets) buffer

-- a chunk would make x of the line
pub record Takes (x : Grown) (window payload slot0 : List ℕ) (r : Result Took Refused) (window' payload' slot0' : List ℕ) : Type 0 where
  pub its_answer : r ≡ taking_if (lacks_room (length payload) (length slot0) x.multiframes) x
  pub its_window : window' ≡ accepted (number_in r) (over x.window window) window
  pub its_payload : payload' ≡ accepted (number_in r) (over x.payload payload) payload
  pub its_slot0 : slot0' ≡ accepted (number_in r) (over x.slot0 slot0) slot0
