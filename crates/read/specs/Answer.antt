-- What `read` answers, in numbers (KIT §5, §8).
use Rattle.std.specs.Prelude.{ℕ, Result, Ok, Err}
use Rattle.base.specs.declared.Refused.{Refused}
use Rattle.base.specs.Number.{refusal_number, refusal_place}
use Rattle.measure.specs.Reading.{lost_at, cause_of}
use Rattle.read.specs.declared.Reading as code

-- the number, 0 where the call is accepted, and the values beside it
pub record Reading : Type 0 where
  pub number : ℕ
  pub place : ℕ
  pub start : ℕ
  pub whole : ℕ
  pub used : ℕ
  pub lost : ℕ
  pub words : ℕ
  pub compared : ℕ
  pub errored : ℕ
  pub farend : ℕ
  pub wordbits : ℕ
  pub cause : ℕ

-- a refusal: zeros beside the number and the place
abbrev pub refuse : ℕ → ℕ → Reading
refuse n p =
    record {
      number = n;
      place = p;
      start = 0;
      whole = 0;
      used = 0;
      lost = 0;
      words = 0;
      compared = 0;
      errored = 0;
      farend = 0;
      wordbits = 0;
      cause = 0;
    }

abbrev pub answered : Result code.Reading Refused → Reading
answered (Ok r) =
    record {
      number = 0;
      place = r.place;
      start = r.start;
      whole = r.whole;
      used = r.used;
      lost = lost_at r.loss;
      words = r.words;
      compared = r.compared;
      errored = r.errored;
      farend = r.farend;
      wordbits = r.wordbits;
      cause = cause_of r.loss;
    }
answered (Err e) = refuse (refusal_number e) (refusal_place e)
