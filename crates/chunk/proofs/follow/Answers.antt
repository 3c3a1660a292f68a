use Rattle.std.proofs.Common.{◌≤◌, ◌%◌, ap, arith}
use Rattle.measure.specs.Reading.{whole}
use Rattle.chunk.proofs.FollowLaws.{whole_is, tracks, tracked_room, follows, stays}
use Rattle.chunk.proofs.follow.Goals as goal

pub returns-then-m-h : goal.returns-then-m-h
returns-then-m-h c =
    let a = c.args in
    rw c.still.ensures
    (stays a.c a.s.now (c.start-q.result % 8) c.kept-h.result c.whole-m.result (ap (λ x. x % 8) c.start-q.ensures)
    c.kept-h.ensures c.whole-m.ensures c.if-m-h.true)

pub gained-gain-requires : goal.gained-gain-requires
gained-gain-requires c =
    let s = c.args.s.now in
    let q = c.start-q.result % 8 in
    let t = tracks s q c.kept-h.result c.whole-m.result c.track-x.result c.whole-m.ensures c.track-x.ensures in
    let o : 1 ≤ whole s q = omega (arith, c.if-m-h.false, whole_is s q, c.whole-m.ensures) in
    (tracked_room s q c.kept-h.result c.track-x.result t c.requires.1 o, t)

pub returns : goal.returns
returns c =
    let a = c.args in
    let s = a.s.now in
    let q = c.start-q.result % 8 in
    follows a.c s q c.kept-h.result c.track-x.result c.gained-gain.result (ap (λ x. x % 8) c.start-q.ensures) c.kept-h.ensures
    (omega (arith, c.if-m-h.false, whole_is s q, c.whole-m.ensures))
    (tracks s q c.kept-h.result c.whole-m.result c.track-x.result c.whole-m.ensures c.track-x.ensures)
    c.gained-gain.ensures c.gone_by-gone.result c.lost_by-lost.result c.gaining.result c.gone_by-gone.ensures
    c.lost_by-lost.ensures c.gaining.ensures
