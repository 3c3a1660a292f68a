-- `fourth` meets its contract.
use mathlib.Core.Path.{refl}
use native.Mathlib.Omega.{arith}
use borrow.Author.Rules.{rules}
use Rattle.t1.specs.Raw.{fourth}
use Rattle.t1.proofs.fourth.Statement.{statement}
use Rattle.t1.proofs.fourth.Tie as tie

returns : tie.Need-returns
unfolding fourth
returns c = (refl, omega arith)

pub fourth_spec : {M : Type 1} → statement M
fourth_spec =
    tie.close
    (tie.spec
    (search rules)
    (search rules)
    (search rules)
    (search rules)
    (search rules)
    (search rules)
    (search rules)
    (search rules)
    (search rules)
    (search rules)
    returns)
