-- The map and the key as a machine on its state: what each call answers and what it leaves (KIT §7).
use Rattle.std.specs.Prelude.{if◌then◌else◌, ℕ, Bool, true, false, not, ◌&&◌, ◌||◌, leb, ltb, eqb}
use Rattle.std.specs.Prelude.{List, [], ◌∷◌, ◌++◌, length, get_or, set, replicate}
use Rattle.base.specs.Tab.{tab}
use Rattle.base.specs.Answer.{accepted, Refusal, ◌when◌, first_number}
use Rattle.exchange.specs.declared.State.{State}
use Rattle.exchange.specs.Answer.{Answered, accept, refuse}
use Rattle.exchange.specs.Mapping.{entry_at}

-- at the start the flag is off and slot j takes from j
abbrev pub start_state : State
start_state =
    record {
      flag = false;
      staging = false;
      pending = false;
      live = tab 32 (λ j. j);
      staged = replicate 32 0;
      waiting = replicate 32 0;
    }

-- A state with one thing changed. A map that is not staged, or not waiting, any more keeps its octets, which nothing
-- then reads.

abbrev pub with_flag : Bool → State → State
with_flag b s =
    record { flag = b; staging = s.staging; pending = s.pending; live = s.live; staged = s.staged; waiting = s.waiting }

abbrev pub with_live : List ℕ → State → State
with_live m s =
    record { flag = s.flag; staging = s.staging; pending = s.pending; live = m; staged = s.staged; waiting = s.waiting }

abbrev pub with_staged : List ℕ → State → State
with_staged m s =
    record { flag = s.flag; staging = true; pending = s.pending; live = s.live; staged = m; waiting = s.waiting }

abbrev pub with_waiting : List ℕ → State → State
with_waiting m s =
    record { flag = s.flag; staging = s.staging; pending = true; live = s.live; staged = s.staged; waiting = m }

abbrev pub none_staged : State → State
none_staged s =
    record { flag = s.flag; staging = false; pending = s.pending; live = s.live; staged = s.staged; waiting = s.waiting }

abbrev pub none_waiting : State → State
none_waiting s =
    record { flag = s.flag; staging = s.staging; pending = false; live = s.live; staged = s.staged; waiting = s.waiting }

-- A host record r is 4 octets: kind, a, b, host number.

abbrev pub kind_of : List ℕ → ℕ
kind_of r = get_or r 0 0

abbrev pub a_of : List ℕ → ℕ
a_of r = get_or r 1 0

abbrev pub b_of : List ℕ → ℕ
b_of r = get_or r 2 0

unfoldable pub between : ℕ → ℕ → ℕ → Bool
between low x high = leb low x && leb x high

-- kind 1 or 3 with a not 1 to 31, or kind 1 with b over 31
unfoldable pub outside : ℕ → ℕ → ℕ → Bool
outside kind a b = (eqb kind 1 || eqb kind 3) && not (between 1 a 31) || eqb kind 1 && ltb 31 b

-- kind 1, 2 or 4 with the flag off
unfoldable pub locked : ℕ → Bool → Bool
locked kind flag = (eqb kind 1 || (eqb kind 2 || eqb kind 4)) && not flag

-- kind 2 or 4 with nothing staged
unfoldable pub unstaged : ℕ → Bool → Bool
unstaged kind staging = (eqb kind 2 || eqb kind 4) && not staging

-- what refuses a record whatever the state is, and a record of kind k by the state
abbrev pub record_refusals : List ℕ → List Refusal
record_refusals r =
    8 when not (eqb (length r) 4)
    ∷ 9 when not (between 1 (kind_of r) 4)
    ∷ 10 when outside (kind_of r) (a_of r) (b_of r)
    ∷ []

abbrev pub state_refusals : State → ℕ → List Refusal
state_refusals s k = 11 when locked k s.flag ∷ 12 when unstaged k s.staging ∷ []

abbrev pub host_refusals : State → List ℕ → List Refusal
host_refusals s r = record_refusals r ++ state_refusals s (kind_of r)

abbrev pub record_refusal : List ℕ → ℕ
record_refusal r = first_number (record_refusals r)

abbrev pub state_refusal : State → ℕ → ℕ
state_refusal s k = first_number (state_refusals s k)

unfoldable pub host_refusal : State → List ℕ → ℕ
host_refusal s r = first_number (host_refusals s r)

-- kind 1: staged entry a is b; where nothing is staged, a copy of the live map is staged first
abbrev pub stage : State → ℕ → ℕ → State
stage s a b = with_staged (set (if s.staging then s.staged else s.live) a b) s

-- kind 2: the staged map is the waiting one, in place of any, and nothing is staged any more
abbrev pub commit : State → State
commit s = none_staged (with_waiting s.staged s)

-- kind 4: nothing is staged any more
abbrev pub discard : State → State
discard s = none_staged s

-- what an accepted record leaves; kind 3 changes nothing
unfoldable pub host_after : State → List ℕ → State
host_after s r =
    if eqb (kind_of r) 1 then stage s (a_of r) (b_of r) else
    if eqb (kind_of r) 2 then commit s else
    if eqb (kind_of r) 4 then discard s else
    s

-- kind 3 reads live entry a
unfoldable pub host_entry : State → List ℕ → ℕ
host_entry s r = if eqb (kind_of r) 3 then entry_at s.live (a_of r) else 0

abbrev pub hosted : State → List ℕ → Answered
hosted s r = accepted (host_refusal s r) (accept (host_after s r) (host_entry s r)) (refuse s (host_refusal s r))

-- The key. To 1 it sets the flag; to 0 it clears it and drops the staged and the waiting map.

abbrev pub key_on : State → State
key_on s = with_flag true s

abbrev pub key_off : State → State
key_off s = with_flag false (none_staged (none_waiting s))

abbrev pub key_refusals : ℕ → List Refusal
key_refusals position = 13 when not (eqb position 0 || eqb position 1) ∷ []

unfoldable pub key_refusal : ℕ → ℕ
key_refusal position = first_number (key_refusals position)

abbrev pub keyed : State → ℕ → Answered
keyed s position =
    accepted (key_refusal position) (accept (if eqb position 1 then key_on s else key_off s) 0)
    (refuse s (key_refusal position))

-- A multiframe boundary: the waiting map is live, if there is one, and then nothing waits any more.

abbrev pub gone_live : State → State
gone_live s = none_waiting (with_live (if s.pending then s.waiting else s.live) s)

abbrev pub crossed : State → Answered
crossed s = accept (gone_live s) 0
