-- What `write` and `write_signalled` answer, in numbers (KIT §8): 0 and the check of the last superframe, or the refusal's
-- and its place, which is 0 here.
use Rattle.std.specs.Prelude.{ℕ, Result, Ok, Err}
use Rattle.base.specs.Number.{refusal_number, refusal_place}
use Rattle.base.specs.declared.Refused.{Refused}

pub record Written : Type 0 where
  pub number : ℕ
  pub check : ℕ

abbrev pub answered : Result ℕ Refused → Written
answered (Ok check) = record { number = 0; check = check }
answered (Err e) = record { number = refusal_number e; check = refusal_place e }
