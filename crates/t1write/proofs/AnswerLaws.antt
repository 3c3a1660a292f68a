-- An answer in numbers tells the result: its number, and that two results with one answer are one.
use mathlib.Core.Path.{◌≡◌, refl, sym, ap}
use Rattle.std.specs.Prelude.{ℕ, Result, Ok, Err}
use Rattle.base.specs.Number.{number_in}
use Rattle.base.proofs.NumberLaws.{same_refusal, refusal_above_0}
use Rattle.base.specs.declared.Refused.{Refused}
use Rattle.t1write.specs.Answer.{Written, answered}

pub answered_number : (r : Result ℕ Refused) → (answered r).number ≡ number_in r
answered_number (Ok k) = refl
answered_number (Err e) = refl

pub same_result : (r r' : Result ℕ Refused) → answered r ≡ answered r' → r ≡ r'
same_result (Ok k) (Ok k') h = ap Ok (ap (λ (x : Written). x.check) h)
same_result (Ok k) (Err e) h = absurd (refusal_above_0 e (sym (ap (λ (x : Written). x.number) h)))
same_result (Err e) (Ok k) h = absurd (refusal_above_0 e (ap (λ (x : Written). x.number) h))
same_result (Err e) (Err e') h =
    ap Err (same_refusal e e' (ap (λ (x : Written). x.number) h) (ap (λ (x : Written). x.check) h))
