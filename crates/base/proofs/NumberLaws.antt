-- A refusal is its number and its place, and no refusal has the number 0.
use mathlib.Core.Path.{refl, sym, ap, ap₂, ◌∙◌}
use native.Mathlib.Omega.{arith}
use Rattle.std.specs.Prelude.{◌≡◌, ℕ, pred, List, [], ◌∷◌, get_or}
use Rattle.base.specs.Number.{refusal_number, refusal_place}
use Rattle.base.specs.declared.Refused.{Refused}
use Rattle.base.specs.declared.Refused.TheVariants.{TooShort, TooLong, NoFrames, NoRoom, Payload, Overhead, Check}
use Rattle.base.specs.declared.Refused.TheVariants.{Record, Kind, Slot, Locked, NothingStaged, Position, Place}
use Rattle.base.specs.declared.Refused.TheVariants.{NoSignals, Signalling, Endless, Ended}

-- the refusals in the order of their numbers, from 1 on
abbrev in_order : ℕ → List Refused
in_order p =
    TooShort ∷ TooLong ∷ NoFrames ∷ NoRoom ∷ Payload ∷ Overhead ∷ Check ∷ Record ∷ Kind ∷ Slot ∷ Locked
    ∷ NothingStaged ∷ Position ∷ Place ∷ NoSignals p ∷ Signalling ∷ Endless ∷ []

abbrev refused_by : ℕ → ℕ → Refused
refused_by n p = get_or (in_order p) (pred n) Ended

its_refusal : (e : Refused) → refused_by (refusal_number e) (refusal_place e) ≡ e
its_refusal TooShort = refl
its_refusal TooLong = refl
its_refusal NoFrames = refl
its_refusal NoRoom = refl
its_refusal Payload = refl
its_refusal Overhead = refl
its_refusal Check = refl
its_refusal Record = refl
its_refusal Kind = refl
its_refusal Slot = refl
its_refusal Locked = refl
its_refusal NothingStaged = refl
its_refusal Position = refl
its_refusal Place = refl
its_refusal (NoSignals p) = refl
its_refusal Signalling = refl
its_refusal Endless = refl
its_refusal Ended = refl

-- two refusals with one number and one place are one
pub same_refusal : (e f : Refused) → refusal_number e ≡ refusal_number f → refusal_place e ≡ refusal_place f → e ≡ f
same_refusal e f n p = sym (its_refusal e) ∙ ap₂ refused_by n p ∙ its_refusal f

pub refusal_above_0 : (e : Refused) → refusal_number e ≡ 0 → ⊥
refusal_above_0 TooShort k = omega (arith, k)
refusal_above_0 TooLong k = omega (arith, k)
refusal_above_0 NoFrames k = omega (arith, k)
refusal_above_0 NoRoom k = omega (arith, k)
refusal_above_0 Payload k = omega (arith, k)
refusal_above_0 Overhead k = omega (arith, k)
refusal_above_0 Check k = omega (arith, k)
refusal_above_0 Record k = omega (arith, k)
refusal_above_0 Kind k = omega (arith, k)
refusal_above_0 Slot k = omega (arith, k)
refusal_above_0 Locked k = omega (arith, k)
refusal_above_0 NothingStaged k = omega (arith, k)
refusal_above_0 Position k = omega (arith, k)
refusal_above_0 Place k = omega (arith, k)
refusal_above_0 (NoSignals p) k = omega (arith, k)
refusal_above_0 Signalling k = omega (arith, k)
refusal_above_0 Endless k = omega (arith, k)
refusal_above_0 Ended k = omega (arith, k)
