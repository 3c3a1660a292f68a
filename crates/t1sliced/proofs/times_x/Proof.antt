-- `times_x` meets its contract.
use borrow.Author.Rules.{rules}
use Rattle.t1sliced.proofs.Words.{times_once}
use Rattle.t1sliced.proofs.times_x.Statement.{statement}
use Rattle.t1sliced.proofs.times_x.Tie as tie

pub times_x_spec : {M : Type 1} → statement M
times_x_spec =
    tie.close
    (tie.spec
    (search rules) (search rules) (search rules) (search rules) (search rules) (search rules) (search rules)
    (λ c. times_once c.args.a))
