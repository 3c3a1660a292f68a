-- An option's two kinds are told apart, and what is there is one value.
use mathlib.Core.Path.{sym, ap}
use Rattle.std.specs.Prelude.{◌≡◌, Option, Some, None}
use Rattle.std.proofs.lemmas.Option.{none-some}
use Rattle.base.specs.Choice.{value_or}

pub some-injective : {A : Type 0} (a b : A) → Some a ≡ Some b → a ≡ b
some-injective a b e = ap (λ o. value_or o a) e

pub none-ne-some : {A : Type 0} (a : A) → None ≡ Some a → ⊥
none-ne-some a = none-some a

pub some-ne-none : {A : Type 0} (a : A) → Some a ≡ None → ⊥
some-ne-none a e = none-some a (sym e)
