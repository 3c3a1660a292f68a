use Rattle.std.proofs.Common.{arith}
use Rattle.growth.proofs.ReadCut.{lost_passes}
use Rattle.chunk.proofs.FollowLaws.{looks_as}
use Rattle.chunk.proofs.LookLaws.{passes_look}
use Rattle.chunk.proofs.look.Goals as goal

pub returns-else-c-eq0 : goal.returns-else-c-eq0
returns-else-c-eq0 c =
    let a = c.args in
    rw c.passed.ensures
    (looks_as (lost_passes a.c _ _ c.in-At.is a.s.now (omega (arith, c.if-c-eq0.false))) (passes_look a.s.now a.c))
