-- `later` meets its contract.
use borrow.Author.Rules.{rules}
use Rattle.t1sliced.proofs.Words.{bits_later}
use Rattle.t1sliced.proofs.later.Statement.{statement}
use Rattle.t1sliced.proofs.later.Tie as tie

returns : tie.Need-returns
returns c = bits_later c.args.a c.args.n (search rules)

pub later_spec : {M : Type 1} → statement M
later_spec = tie.close (tie.spec (search rules) returns)
