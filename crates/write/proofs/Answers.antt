-- Two results with one answer are one: no refusal but number 15 has a place.
use mathlib.Core.Path.{refl, sym, ap, ◌∙◌}
use mathlib.Core.Bool.{true≢false}
use Rattle.std.specs.Prelude.{◌≡◌, ℕ, false, List, ◌∷◌, Result, Ok, Err}
use Rattle.base.specs.Answer.{Refusal, first_number, among}
use Rattle.base.specs.Number.{refusal_number, refusal_place}
use Rattle.base.specs.declared.Refused.{Refused}
use Rattle.base.specs.declared.Refused.TheVariants.{TooShort, TooLong, NoFrames, NoRoom, Payload, Overhead, Check}
use Rattle.base.specs.declared.Refused.TheVariants.{Record, Kind, Slot, Locked, NothingStaged, Position, Place}
use Rattle.base.specs.declared.Refused.TheVariants.{NoSignals, Signalling, Endless, Ended}
use Rattle.base.proofs.AnswerLaws.{numbers, first_listed}
use Rattle.base.proofs.NumberLaws.{same_refusal, refusal_above_0}
use Rattle.write.specs.Answer.{Written, answered}

no_place : (e : Refused) → (refusal_number e ≡ 15 → ⊥) → refusal_place e ≡ 0
no_place TooShort h = refl
no_place TooLong h = refl
no_place NoFrames h = refl
no_place NoRoom h = refl
no_place Payload h = refl
no_place Overhead h = refl
no_place Check h = refl
no_place Record h = refl
no_place Kind h = refl
no_place Slot h = refl
no_place Locked h = refl
no_place NothingStaged h = refl
no_place Position h = refl
no_place Place h = refl
no_place (NoSignals p) h = absurd (h refl)
no_place Signalling h = refl
no_place Endless h = refl
no_place Ended h = refl

pub answered_single : (r s : Result ℕ Refused) → ((answered r).number ≡ 15 → ⊥) → answered r ≡ answered s → r ≡ s
answered_single (Ok k) (Ok l) h e = ap (λ k. Ok k) (ap (λ (w : Written). w.check) e)
answered_single (Ok k) (Err f) h e = absurd (refusal_above_0 f (sym (ap (λ (w : Written). w.number) e)))
answered_single (Err d) (Ok l) h e = absurd (refusal_above_0 d (ap (λ (w : Written). w.number) e))
answered_single (Err d) (Err f) h e =
    let n : refusal_number d ≡ refusal_number f = ap (λ (w : Written). w.number) e in
    ap (λ e. Err e) (same_refusal d f n (no_place d h ∙ sym (no_place f (λ q. h (n ∙ q)))))

-- a list of refusals without number 15
pub not_15 : (rs : List Refusal) (n : ℕ) → among 15 (numbers rs) ≡ false → n ≡ first_number rs → n ≡ 15 → ⊥
not_15 rs n h e q = true≢false (sym (first_listed rs) ∙ ap (λ k. among k (0 ∷ numbers rs)) (sym e ∙ q) ∙ h)
