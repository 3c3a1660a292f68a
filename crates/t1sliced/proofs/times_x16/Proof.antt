-- `times_x16` meets its contract.
use borrow.Author.Rules.{rules}
use Rattle.t1sliced.proofs.Words.{times_both}
use Rattle.t1sliced.proofs.times_x16.Statement.{statement}
use Rattle.t1sliced.proofs.times_x16.Tie as tie

returns : tie.Need-returns
returns c =
    let first = c.before.times_x8 in
    let second = c.times_x8-2 in
    times_both 8 8 c.before.before.args.a first.result second.result first.ensures second.ensures

pub times_x16_spec : {M : Type 1} → statement M
times_x16_spec = tie.close (tie.spec (search rules) (search rules) returns)
