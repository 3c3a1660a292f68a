-- The number of each refusal, and the place that goes with number 15 (KIT §8).
use Rattle.std.specs.Prelude.{ℕ, Result, Ok, Err}
use Rattle.base.specs.declared.Refused.{Refused}
use Rattle.base.specs.declared.Refused.TheVariants.{TooShort, TooLong, NoFrames, NoRoom, Payload, Overhead, Check}
use Rattle.base.specs.declared.Refused.TheVariants.{Record, Kind, Slot, Locked, NothingStaged, Position, Place}
use Rattle.base.specs.declared.Refused.TheVariants.{NoSignals, Signalling, Endless, Ended}

abbrev pub refusal_number : Refused → ℕ
refusal_number TooShort = 1
refusal_number TooLong = 2
refusal_number NoFrames = 3
refusal_number NoRoom = 4
refusal_number Payload = 5
refusal_number Overhead = 6
refusal_number Check = 7
refusal_number Record = 8
refusal_number Kind = 9
refusal_number Slot = 10
refusal_number Locked = 11
refusal_number NothingStaged = 12
refusal_number Position = 13
refusal_number Place = 14
refusal_number (NoSignals p) = 15
refusal_number Signalling = 16
refusal_number Endless = 17
refusal_number Ended = 21

abbrev pub refusal_place : Refused → ℕ
refusal_place TooShort = 0
refusal_place TooLong = 0
refusal_place NoFrames = 0
refusal_place NoRoom = 0
refusal_place Payload = 0
refusal_place Overhead = 0
refusal_place Check = 0
refusal_place Record = 0
refusal_place Kind = 0
refusal_place Slot = 0
refusal_place Locked = 0
refusal_place NothingStaged = 0
refusal_place Position = 0
refusal_place Place = 0
refusal_place (NoSignals p) = p
refusal_place Signalling = 0
refusal_place Endless = 0
refusal_place Ended = 0

-- the number of an answer, 0 where the call is accepted
abbrev pub number_in : {T : Type 0} → Result T Refused → ℕ
number_in (Ok v) = 0
number_in (Err e) = refusal_number e
