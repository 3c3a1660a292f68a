-- `complement` meets its contract.
use borrow.Author.Rules.{rules}
use Rattle.t1sliced.proofs.Bitwise.{not_bit}
use Rattle.t1sliced.proofs.complement.Statement.{statement}
use Rattle.t1sliced.proofs.complement.Tie as tie

returns : tie.Need-returns
returns c n h = not_bit c.args.a n 64 (search rules) h

pub complement_spec : {M : Type 1} → statement M
complement_spec = tie.close (tie.spec returns)
