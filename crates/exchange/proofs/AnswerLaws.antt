-- Any two results, with the states that are left, that the contract of an entry admits are equal.
use Prim.Native.Nat.{ℕ}
use mathlib.Core.Path.{◌≡◌, refl, sym, ap, ◌∙◌}
use mathlib.Core.Bool.{false, true≢false}
use mathlib.Core.List.{List, ◌∷◌}
use Rattle.std.specs.Prelude.{Result, Ok, Err}
use Rattle.base.specs.Answer.{Refusal, first_number, among}
use Rattle.base.specs.Number.{refusal_number, refusal_place, number_in}
use Rattle.base.specs.declared.Refused.{Refused}
use Rattle.base.specs.declared.Refused.TheVariants.{NoSignals}
use Rattle.base.proofs.AnswerLaws.{numbers, first_listed}
use Rattle.base.proofs.NumberLaws.{same_refusal, refusal_above_0}
use Rattle.exchange.specs.declared.State.{State}
use Rattle.exchange.specs.Answer.{Answered, accept, answered, told}
use Rattle.exchange.specs.Mapping.{map_refusal, map_refusals, Mapped}
use Rattle.exchange.specs.Machine.{host_refusal, host_refusals, hosted, key_refusal, key_refusals, keyed, crossed}
use Rattle.exchange.proofs.Laws.{hosted_number, keyed_number}

-- no refusal but that with number 15 has a place
no_place : (e : Refused) → (refusal_number e ≡ 15 → ⊥) → refusal_place e ≡ 0
no_place (NoSignals p) h = absurd (h refl)
no_place _ h = refl

same_number : (e f : Refused) → (refusal_number e ≡ 15 → ⊥) → refusal_number e ≡ refusal_number f → e ≡ f
same_number e f h n = same_refusal e f n (no_place e h ∙ sym (no_place f (λ q. h (n ∙ q))))

-- two results with one number, but for what they read
told_same : (x y : Result (Unit {0}) Refused) → (number_in x ≡ 15 → ⊥) → number_in x ≡ number_in y → x ≡ y
told_same (Ok u) (Ok v) h e = refl
told_same (Ok u) (Err f) h e = absurd (refusal_above_0 f (sym e))
told_same (Err d) (Ok v) h e = absurd (refusal_above_0 d e)
told_same (Err d) (Err f) h e = ap (λ e. Err e) (same_number d f h e)

answered_same : (t t' : State) (x y : Result ℕ Refused) → (number_in x ≡ 15 → ⊥) → answered t x ≡ answered t' y
    → (t ≡ t') × (x ≡ y)
answered_same t t' (Ok i) (Ok j) h e = (ap (λ a. a.state) e, ap (λ (a : Answered). Ok a.entry) e)
answered_same t t' (Ok i) (Err f) h e = absurd (refusal_above_0 f (sym (ap (λ a. a.number) e)))
answered_same t t' (Err d) (Ok j) h e = absurd (refusal_above_0 d (ap (λ a. a.number) e))
answered_same t t' (Err d) (Err f) h e =
    (ap (λ a. a.state) e, ap (λ e. Err e) (same_number d f h (ap (λ a. a.number) e)))

answered_number : (t : State) (x : Result ℕ Refused) → (answered t x).number ≡ number_in x
answered_number t (Ok i) = refl
answered_number t (Err e) = refl

-- the number of a list of refusals that has no 15
not_15 : (rs : List Refusal) (n : ℕ) → among 15 (0 ∷ numbers rs) ≡ false → n ≡ first_number rs → n ≡ 15 → ⊥
not_15 rs n h e q = true≢false (sym (first_listed rs) ∙ ap (λ k. among k (0 ∷ numbers rs)) (sym e ∙ q) ∙ h)

pub host_single : (s : State) (r : List ℕ) (t t' : State) (x y : Result ℕ Refused) → answered t x ≡ hosted s r
    → answered t' y ≡ hosted s r → (t ≡ t') × (x ≡ y)
unfolding host_refusal
host_single s r t t' x y e f =
    let n = sym (answered_number t x) ∙ ap (λ a. a.number) e ∙ hosted_number s r in
    answered_same t t' x y (not_15 (host_refusals s r) (number_in x) refl n) (e ∙ sym f)

pub key_single : (s : State) (p : ℕ) (t t' : State) (x y : Result (Unit {0}) Refused) → told t x ≡ keyed s p
    → told t' y ≡ keyed s p → (t ≡ t') × (x ≡ y)
unfolding key_refusal
key_single s p t t' x y e f =
    let n = ap (λ a. a.number) e ∙ keyed_number s p in
    let d = e ∙ sym f in
    (ap (λ a. a.state) d, told_same x y (not_15 (key_refusals p) (number_in x) refl n) (ap (λ a. a.number) d))

pub boundary_single : (s t t' : State) → accept t 0 ≡ crossed s → accept t' 0 ≡ crossed s → t ≡ t'
boundary_single s t t' e f = ap (λ a. a.state) (e ∙ sym f)

pub map_single : (m p out : List ℕ) (x y : Result (Unit {0}) Refused) (o o' : List ℕ) → Mapped m p out (number_in x) o
    → Mapped m p out (number_in y) o' → (x ≡ y) × (o ≡ o')
unfolding map_refusal
map_single m p out x y o o' a b = (
  told_same x y (not_15 (map_refusals p out) (number_in x) refl a.its_number) (a.its_number ∙ sym b.its_number),
  a.its_out ∙ sym b.its_out,
)
