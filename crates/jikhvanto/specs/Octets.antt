-- A state as 99 octets, and an answer as 16 places (KIT §10).
use Rattle.std.specs.Prelude.{if◌then◌else◌, ℕ, List, [], ◌∷◌, ◌++◌, eqb, get_or, take, drop, replicate, Result, Ok, Err}
use mir.Val.{bool_byte}
use Rattle.base.specs.Answer.{accepted}
use Rattle.base.specs.declared.Refused.{Refused}
use Rattle.align.specs.Why.{why_values}
use Rattle.align.specs.declared.Why.{Why}
use Rattle.exchange.specs.Machine.{kind_of, hosted}
use Rattle.exchange.specs.declared.State.{State}
use Rattle.exchange.specs.Answer.{Answered}
use Rattle.read.specs.Answer.{Reading}
use Rattle.signals.specs.Answer.{Signalling}
use Rattle.t1read.specs.Answer as t1read

-- the 32 octets of a map
unfoldable pub map_at : ℕ → List ℕ → List ℕ
map_at from octets = take 32 (drop from octets)

-- Any octets are a state: flag, staging and pending, each of them off unless its octet is 1, then the live, the staged
-- and the waiting map.
unfoldable pub state_of : List ℕ → State
state_of octets =
    record {
      flag = eqb (get_or octets 0 0) 1;
      staging = eqb (get_or octets 1 0) 1;
      pending = eqb (get_or octets 2 0) 1;
      live = map_at 3 octets;
      staged = map_at 35 octets;
      waiting = map_at 67 octets;
    }

-- a state packed, off as 0 and on as 1
abbrev pub flags_of : State → List ℕ
flags_of s = bool_byte s.flag ∷ bool_byte s.staging ∷ bool_byte s.pending ∷ []

unfoldable pub octets_of : State → List ℕ
octets_of s = flags_of s ++ s.live ++ s.staged ++ s.waiting

-- what a call leaves in the octets: its state packed, or where it is refused every octet as it was
abbrev pub stored : List ℕ → Answered → List ℕ
stored octets a = accepted a.number (octets_of a.state) octets

-- a host record of kind 3 only reads: it leaves every octet as it was
unfoldable pub host_stored : List ℕ → List ℕ → List ℕ
host_stored octets r = if eqb (kind_of r) 3 then octets else stored octets (hosted (state_of octets) r)

-- An answer: the number, the values in their order, then zeros.

abbrev pub answer_of : List ℕ → List ℕ
answer_of values = take 16 (values ++ replicate 16 0)

unfoldable pub reading_places : Reading → List ℕ
reading_places r =
    answer_of
    (r.number ∷ r.place ∷ r.start ∷ r.whole ∷ r.used ∷ r.lost
    ∷ r.words ∷ r.compared ∷ r.errored ∷ r.farend ∷ r.wordbits ∷ r.cause ∷ [])

unfoldable pub signalling_places : Signalling → List ℕ
signalling_places r =
    answer_of
    (r.number ∷ r.multiframes ∷ r.first ∷ r.losses ∷ bool_byte r.held
    ∷ r.x0 ∷ r.x1 ∷ r.x2 ∷ r.y ∷ [])

-- what is said of a place
unfoldable pub why_places : Result Why Refused → List ℕ
why_places w = answer_of (why_values w)

-- a reading of T1
unfoldable pub t1_reading_places : t1read.Reading → List ℕ
t1_reading_places r = answer_of (r.number ∷ r.place ∷ r.whole ∷ r.compared ∷ r.errored ∷ [])

-- number and value to places 0 and 1: a check that was written, or an entry that a host record reads
unfoldable pub pair_places : ℕ → ℕ → List ℕ
pair_places number value = answer_of (number ∷ value ∷ [])

-- what a result has beside its number
abbrev pub value_in : Result ℕ Refused → ℕ
value_in (Ok v) = v
value_in (Err e) = 0
