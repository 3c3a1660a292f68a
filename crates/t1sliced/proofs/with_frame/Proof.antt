-- `with_frame` meets its contract.
use borrow.Author.Rules.{rules}
use Rattle.t1sliced.proofs.Frames.{frame_words}
use Rattle.t1sliced.proofs.with_frame.Statement.{statement}
use Rattle.t1sliced.proofs.with_frame.Tie as tie

returns : tie.Need-returns
returns c =
    let four = c.before.times_x4-b in
    let a = c.before.before.args in
    frame_words a.bits c.complement.result a.a four.result four.ensures c.complement.ensures

pub with_frame_spec : {M : Type 1} → statement M
with_frame_spec =
    tie.close
    (tie.spec
    (search rules) (search rules) (search rules) (search rules) (search rules) (search rules) (search rules) (search rules)
    returns)
