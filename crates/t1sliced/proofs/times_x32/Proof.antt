-- `times_x32` meets its contract.
use borrow.Author.Rules.{rules}
use Rattle.t1sliced.proofs.Words.{times_both, times_32}
use Rattle.t1sliced.proofs.times_x32.Statement.{statement}
use Rattle.t1sliced.proofs.times_x32.Tie as tie

returns : tie.Need-returns
returns c =
    let twice = c.before.before.times_x2 in
    let thrice = c.before.times_x in
    let a = c.before.before.before.args.a in
    times_32 a thrice.result c.plus_later.result
    (times_both 2 1 a twice.result thrice.result twice.ensures thrice.ensures) c.plus_later.ensures

pub times_x32_spec : {M : Type 1} → statement M
times_x32_spec = tie.close (tie.spec (search rules) (search rules) (search rules) returns)
