-- `zeros_e` meets its contract: its two bits are those of frames 13 and 15.
use Prim.Native.Nat.{◌+◌, ◌-◌}
use mathlib.Core.Path.{ap₂}
use borrow.Author.Rules.{rules}
use native.Mathlib.Omega.{arith}
use Rattle.measure.proofs.zeros_e.Statement.{statement}
use Rattle.measure.proofs.zeros_e.Tie as tie

returns : tie.Need-returns
returns c = (ap₂ (λ a b. (1 - a) + (1 - b)) c.before.bit-a.ensures.0 c.bit-b.ensures.0, omega arith)

pub zeros_e_spec : {M : Type 1} → statement M
zeros_e_spec =
    tie.close
    (tie.spec (search rules) (search rules) (search rules) (search rules) (search rules)
    (search rules) (search rules) (search rules) (search rules) (search rules)
    (search rules) (search rules) (search rules) (search rules) returns)
