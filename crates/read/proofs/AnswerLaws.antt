-- What is answered in numbers tells the result.
use mathlib.Core.Path.{◌≡◌, refl, sym, ap}
use native.Mathlib.Omega.{arith}
use Rattle.std.specs.Prelude.{ℕ, Option, Some, None, Result, Ok, Err}
use Rattle.base.specs.declared.Refused.{Refused}
use Rattle.base.proofs.NumberLaws.{same_refusal, refusal_above_0}
use Rattle.measure.specs.Reading.{lost_at, cause_of}
use Rattle.read.specs.Answer.{Reading, answered}
use Rattle.read.specs.declared.Reading as code

-- a loss is its frame and its cause, which is 0 where there is none
same_loss : (a b : Option ℕ) → lost_at a ≡ lost_at b → cause_of a ≡ cause_of b → a ≡ b
same_loss (Some f) (Some g) e c = ap Some e
same_loss (Some f) None e c = absurd (omega arith)
same_loss None (Some g) e c = absurd (omega arith)
same_loss None None e c = refl

-- two results with one answer are equal
pub same_answer : (r r' : Result code.Reading Refused) → answered r ≡ answered r' → r ≡ r'
same_answer (Ok r) (Ok r') e =
    let loss : r.loss ≡ r'.loss = same_loss r.loss r'.loss (ap (λ (x : Reading). x.lost) e) (ap (λ (x : Reading). x.cause) e) in
    let its : r ≡ r' = λ i.
    record {
      place = (e i).place;
      start = (e i).start;
      whole = (e i).whole;
      used = (e i).used;
      loss = loss i;
      words = (e i).words;
      compared = (e i).compared;
      errored = (e i).errored;
      farend = (e i).farend;
      wordbits = (e i).wordbits;
    } in
    ap Ok its
same_answer (Ok r) (Err f) e = absurd (refusal_above_0 f (sym (ap (λ (x : Reading). x.number) e)))
same_answer (Err f) (Ok r) e = absurd (refusal_above_0 f (ap (λ (x : Reading). x.number) e))
same_answer (Err f) (Err g) e =
    ap Err (same_refusal f g (ap (λ (x : Reading). x.number) e) (ap (λ (x : Reading). x.place) e))
