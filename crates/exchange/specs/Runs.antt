-- Runs: any calls in any order, from any state (KIT §7).
use Rattle.std.specs.Prelude.{if◌then◌else◌, ℕ, Bool, true, false, ◌&&◌, ◌||◌, List, [], ◌∷◌, eqb}
use Rattle.exchange.specs.declared.State.{State}
use Rattle.exchange.specs.Mapping.{map_refusal, mapped}
use Rattle.exchange.specs.Machine.{kind_of, host_refusal, hosted, keyed, crossed}

-- a host record; the key, to a position; a multiframe boundary; a payload and the output that is lent for it
pub data Call : Type 0 where
  host : List ℕ → Call
  key : ℕ → Call
  boundary : Call
  mapping : List ℕ → List ℕ → Call

-- what a call answers: its number, an entry, and what the output then holds
pub record Answer : Type 0 where
  pub number : ℕ
  pub entry : ℕ
  pub output : List ℕ

unfoldable pub after_call : State → Call → State
after_call s (host r) = (hosted s r).state
after_call s (key p) = (keyed s p).state
after_call s boundary = (crossed s).state
after_call s (mapping p out) = s

unfoldable pub answer : State → Call → Answer
answer s (host r) = record { number = (hosted s r).number; entry = (hosted s r).entry; output = [] }
answer s (key p) = record { number = (keyed s p).number; entry = (keyed s p).entry; output = [] }
answer s boundary = record { number = (crossed s).number; entry = (crossed s).entry; output = [] }
answer s (mapping p out) = record { number = map_refusal p out; entry = 0; output = mapped s.live p out }

-- the output that is lent for a call
unfoldable pub lent : Call → List ℕ
lent (host r) = []
lent (key p) = []
lent boundary = []
lent (mapping p out) = out

-- the numbers that each entry refuses by
unfoldable pub numbers_of : Call → List ℕ
numbers_of (host r) = 8 ∷ 9 ∷ 10 ∷ 11 ∷ 12 ∷ []
numbers_of (key p) = 13 ∷ []
numbers_of boundary = []
numbers_of (mapping p out) = 5 ∷ 4 ∷ []

-- the state after a run, and what its calls answer
unfoldable pub after_run : State → List Call → State
after_run s [] = s
after_run s (c ∷ cs) = after_run (after_call s c) cs

unfoldable pub answers : State → List Call → List Answer
answers s [] = []
answers s (c ∷ cs) = answer s c ∷ answers (after_call s c) cs

-- the last accepted key position of a run, or b where there is none
unfoldable pub last_key : Bool → List Call → Bool
last_key b [] = b
last_key b (key p ∷ cs) = last_key (if eqb p 1 then true else if eqb p 0 then false else b) cs
last_key b (host r ∷ cs) = last_key b cs
last_key b (boundary ∷ cs) = last_key b cs
last_key b (mapping p out ∷ cs) = last_key b cs

-- a run without the host records that are sent before the key is next on
unfoldable pub quiet : List Call → List Call
quiet [] = []
quiet (host r ∷ cs) = quiet cs
quiet (key p ∷ cs) = key p ∷ (if eqb p 1 then cs else quiet cs)
quiet (boundary ∷ cs) = boundary ∷ quiet cs
quiet (mapping p out ∷ cs) = mapping p out ∷ quiet cs

-- what is heard of a call: its answer, and the flag and the live map after it
pub record Heard : Type 0 where
  pub said : Answer
  pub flag : Bool
  pub live : List ℕ

abbrev pub heard_of : State → Call → Heard
heard_of s c = record { said = answer s c; flag = (after_call s c).flag; live = (after_call s c).live }

-- what is heard along a run
unfoldable pub heard_all : State → List Call → List Heard
heard_all s [] = []
heard_all s (c ∷ cs) = heard_of s c ∷ heard_all (after_call s c) cs

-- the same, but for the host records that are sent before the key is next on
unfoldable pub heard : State → List Call → List Heard
heard s [] = []
heard s (host r ∷ cs) = heard (after_call s (host r)) cs
heard s (key p ∷ cs) =
    heard_of s (key p) ∷ (if eqb p 1 then heard_all (after_call s (key p)) cs else heard (after_call s (key p)) cs)
heard s (boundary ∷ cs) = heard_of s boundary ∷ heard (after_call s boundary) cs
heard s (mapping p out ∷ cs) = heard_of s (mapping p out) ∷ heard (after_call s (mapping p out)) cs

-- Tests of a call, in the state that it meets: a boundary; the key to 1; an accepted record of kind 2.

unfoldable pub is_boundary : State → Call → Bool
is_boundary s (host r) = false
is_boundary s (key p) = false
is_boundary s boundary = true
is_boundary s (mapping p out) = false

unfoldable pub is_key_on : State → Call → Bool
is_key_on s (host r) = false
is_key_on s (key p) = eqb p 1
is_key_on s boundary = false
is_key_on s (mapping p out) = false

unfoldable pub is_commit : State → Call → Bool
is_commit s (host r) = eqb (host_refusal s r) 0 && eqb (kind_of r) 2
is_commit s (key p) = false
is_commit s boundary = false
is_commit s (mapping p out) = false

-- some call of a run passes the test
unfoldable pub any_call : (State → Call → Bool) → State → List Call → Bool
any_call t s [] = false
any_call t s (c ∷ cs) = t s c || any_call t (after_call s c) cs

-- a state whose maps are empty where they are not there
abbrev pub bare : State → State
bare s =
    record {
      flag = s.flag;
      staging = s.staging;
      pending = s.pending;
      live = s.live;
      staged = if s.staging then s.staged else [];
      waiting = if s.pending then s.waiting else [];
    }
