use Rattle.std.proofs.Common.{refl, arith}
use Rattle.base.proofs.PartLaws.{copy_more, copy_done}
use Rattle.chunk.proofs.copy.Goals as goal

pub loop-i-init : goal.loop-i-init
loop-i-init c = refl

pub loop-i-preserved : goal.loop-i-preserved
loop-i-preserved c =
    let l = c.loop-i in
    copy_more l.to c.args.from.now l.i (omega arith) (omega arith) l.invariant

pub returns : goal.returns
returns c =
    let l = c.loop-i in
    copy_done l.to c.args.from.now l.i (omega arith) (omega arith) l.invariant
