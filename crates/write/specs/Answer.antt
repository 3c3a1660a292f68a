-- What `write` and `write_signalled` answer, in numbers (KIT §6, §8).
use Rattle.std.specs.Prelude.{ℕ, Result, Ok, Err}
use Rattle.base.specs.declared.Refused.{Refused}
use Rattle.base.specs.Number.{refusal_number}

-- the number, 0 where the call is accepted, and the check of the last block
pub record Written : Type 0 where
  pub number : ℕ
  pub check : ℕ

-- what an accepted call answers, and what a refused one does
abbrev pub accept : ℕ → Written
accept check = record { number = 0; check = check }

abbrev pub refuse : ℕ → Written
refuse number = record { number = number; check = 0 }

abbrev pub answered : Result ℕ Refused → Written
answered (Ok check) = accept check
answered (Err e) = refuse (refusal_number e)
