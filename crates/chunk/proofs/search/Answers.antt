use Rattle.std.proofs.Common.{sym, ap, arith}
use Rattle.align.proofs.Laws.{finds_basic}
use Rattle.growth.specs.Growth.{searched}
use Rattle.chunk.proofs.FollowLaws.{looks_as}
use Rattle.chunk.proofs.LookLaws.{waits_look}
use Rattle.chunk.proofs.search.Goals as goal

pub overflow_add-before : goal.overflow_add-before
overflow_add-before c =
    let room = ((finds_basic c.args.s.now _).0 (sym c.in-BasicAt.ensures)).0.room in omega (arith, room)

pub returns-in-BasicAt : goal.returns-in-BasicAt
returns-in-BasicAt c =
    let a = c.args in
    rw c.waits.ensures
    (looks_as (ap (searched a.before a.known a.s.now) (sym c.in-BasicAt.ensures))
    (rw c.noted.ensures (waits_look a.s.now a.before _)))

pub returns-in-Nothing : goal.returns-in-Nothing
returns-in-Nothing c =
    let a = c.args in
    rw c.waits-in-Nothing.ensures
    (looks_as (ap (searched a.before a.known a.s.now) (sym c.in-Nothing.ensures)) (waits_look a.s.now a.before a.known))
