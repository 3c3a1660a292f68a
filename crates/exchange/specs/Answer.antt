-- What a call answers: the state that it leaves, its number, 0 where it is accepted, and the entry that it reads.
use Rattle.std.specs.Prelude.{ℕ, Result, Ok, Err}
use Rattle.base.specs.Number.{refusal_number, number_in}
use Rattle.base.specs.declared.Refused.{Refused}
use Rattle.exchange.specs.declared.State.{State}

pub record Answered : Type 0 where
  pub state : State
  pub number : ℕ
  pub entry : ℕ

-- an accepted call, and a refused one, which leaves the state as it was
abbrev pub accept : State → ℕ → Answered
accept s entry = record { state = s; number = 0; entry = entry }

abbrev pub refuse : State → ℕ → Answered
refuse s number = record { state = s; number = number; entry = 0 }

-- the answer of a call that leaves s, with the entry that it reads
abbrev pub answered : State → Result ℕ Refused → Answered
answered s (Ok entry) = accept s entry
answered s (Err e) = refuse s (refusal_number e)

-- and of one that reads none
abbrev pub told : {T : Type 0} → State → Result T Refused → Answered
told s r = refuse s (number_in r)
