-- The laws of choices and tests.
use mathlib.Core.Bool.{cond}
use mathlib.Core.Path.{◌≡◌, sym, ◌∙◌}
use mathlib.Core.Bool.{Bool, true, false, true≢false}
use mathlib.Core.Logic.{◌↔◌}

-- what holds of both ways holds of the choice
pub if_both {ℓ} : {A : Type ℓ} (P : A → Type 0) (t : Bool) {x y : A} → P x → P y → P (cond t x y)
if_both P true h k = h
if_both P false h k = k

-- a test that says when P holds, and fails
pub denies : {b : Bool} {P : Type 0} → (b ≡ true ↔ P) → b ≡ false → P → ⊥
denies h e p = true≢false (sym (h.1 p) ∙ e)
