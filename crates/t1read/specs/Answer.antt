-- What `read` answers, in numbers (KIT §8): 0 and what is read, or the refusal's, with its place and zeros beside it.
use Rattle.std.specs.Prelude.{ℕ, Result, Ok, Err}
use Rattle.base.specs.Number.{refusal_number, refusal_place}
use Rattle.base.specs.declared.Refused.{Refused}
use Rattle.t1read.specs.declared.Reading as declared

pub record Reading : Type 0 where
  pub number : ℕ
  pub place : ℕ
  pub whole : ℕ
  pub compared : ℕ
  pub errored : ℕ

abbrev pub answered : Result declared.Reading Refused → Reading
answered (Ok r) =
    record { number = 0; place = r.place; whole = r.whole; compared = r.compared; errored = r.errored }
answered (Err e) = record { number = refusal_number e; place = refusal_place e; whole = 0; compared = 0; errored = 0 }
