-- An answer in numbers tells the result: its number, and that two results with one answer are one.
use mathlib.Core.Path.{◌≡◌, refl, sym, ap}
use Rattle.std.specs.Prelude.{Result, Ok, Err}
use Rattle.base.specs.Number.{number_in}
use Rattle.base.proofs.NumberLaws.{same_refusal, refusal_above_0}
use Rattle.base.specs.declared.Refused.{Refused}
use Rattle.t1read.specs.Answer.{Reading, answered}
use Rattle.t1read.specs.declared.Reading as declared

pub answered_number : (r : Result declared.Reading Refused) → (answered r).number ≡ number_in r
answered_number (Ok r) = refl
answered_number (Err e) = refl

pub same_result : (r r' : Result declared.Reading Refused) → answered r ≡ answered r' → r ≡ r'
same_result (Ok r) (Ok r') h =
    ap Ok (λ i. record { place = (h i).place; whole = (h i).whole; compared = (h i).compared; errored = (h i).errored })
same_result (Ok r) (Err e) h = absurd (refusal_above_0 e (sym (ap (λ (x : Reading). x.number) h)))
same_result (Err e) (Ok r) h = absurd (refusal_above_0 e (ap (λ (x : Reading). x.number) h))
same_result (Err e) (Err e') h =
    ap Err (same_refusal e e' (ap (λ (x : Reading). x.number) h) (ap (λ (x : Reading). x.place) h))
