-- `times_x2` meets its contract.
use borrow.Author.Rules.{rules}
use Rattle.t1sliced.proofs.Words.{times_both}
use Rattle.t1sliced.proofs.times_x2.Statement.{statement}
use Rattle.t1sliced.proofs.times_x2.Tie as tie

returns : tie.Need-returns
returns c =
    let first = c.before.times_x in
    let second = c.times_x-2 in
    times_both 1 1 c.before.before.args.a first.result second.result first.ensures second.ensures

pub times_x2_spec : {M : Type 1} → statement M
times_x2_spec = tie.close (tie.spec (search rules) (search rules) returns)
