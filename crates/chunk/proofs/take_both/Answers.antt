use Rattle.std.proofs.Common.{◌+◌, ◌-◌, ◌*◌, ◌≤◌, length, refl, sym, subst, arith}
use Rattle.growth.specs.Growth.{kept_of, gone_of, later_by}
use Rattle.measure.specs.Reading.{lost_at}
use Rattle.chunk.specs.Look.{Tracks}
use Rattle.chunk.proofs.FollowLaws.{whole_is, tracks, tracked_few, tracked_room, near_seen, told_both}
use Rattle.chunk.proofs.TakeLaws.{has_room, takes_as, not_taken, taken_two}
use Rattle.chunk.proofs.take_both.Goals as goal

pub track-y-requires : goal.track-y-requires
track-y-requires c =
    let a = c.args in
    let w : 1 ≤ c.whole.result = omega (arith, c.requires.7, whole_is a.far.now a.q, c.whole.ensures) in
    (record { countable = omega arith; there = omega (arith, c.whole.ensures) }, w)

pub overflow_add-m : goal.overflow_add-m
overflow_add-m c =
    let a = c.args in
    let t = tracked_few a.near.now a.q (kept_of a.c.used) a.x c.requires.4 in
    let u = tracked_few a.far.now a.q 1 c.track-y.result (tracks a.far.now a.q 1 c.whole.result c.track-y.result c.whole.ensures c.track-y.ensures) in
    omega (arith, t, u)

pub lacks_room-requires : goal.lacks_room-requires
lacks_room-requires c =
    let a = c.args in
    let t = tracked_few a.near.now a.q (kept_of a.c.used) a.x c.requires.4 in
    let u = tracked_few a.far.now a.q 1 c.track-y.result (tracks a.far.now a.q 1 c.whole.result c.track-y.result c.whole.ensures c.track-y.ensures) in
    omega (arith, t, u)

pub returns-then-lacks_room : goal.returns-then-lacks_room
returns-then-lacks_room c =
    let a = c.args in
    let y = c.track-y.result in
    let t = subst (λ h. Tracks a.near.now a.q h a.x) (sym c.kept-h.ensures) c.requires.4 in
    let u = tracks a.far.now a.q 1 c.whole.result c.track-y.result c.whole.ensures c.track-y.ensures in
    let gone = gone_of (length a.far.now) y.used y.loss in
    takes_as
    (told_both a.c a.near.now a.q c.kept-h.result a.x c.requires.3 c.kept-h.ensures t c.requires.5 c.requires.6 a.far.now y u gone
    (lost_at (later_by (16 * (a.c.used + (a.x.used - c.kept-h.result) - 1)) y.loss)) refl refl _ refl)
    (not_taken a.window.now a.payload.now a.slot0.now _ (sym c.if-lacks_room.ensures))

pub read_both-line-requires : goal.read_both-line-requires
read_both-line-requires c =
    let a = c.args in
    let r = c.requires in
    let t = subst (λ h. Tracks a.near.now a.q h a.x) (sym c.kept-h.ensures) c.requires.4 in
    let u = tracks a.far.now a.q 1 c.whole.result c.track-y.result c.whole.ensures c.track-y.ensures in
    (r.0, r.1, r.2, r.3, c.kept-h.ensures, t, r.5, r.6, u, c.gone_by-gone.ensures)

pub put_both-requires : goal.put_both-requires
put_both-requires c =
    let a = c.args in
    let t = subst (λ h. Tracks a.near.now a.q h a.x) (sym c.kept-h.ensures) c.requires.4 in
    let u = tracks a.far.now a.q 1 c.whole.result c.track-y.result c.whole.ensures c.track-y.ensures in
    let near = tracked_room a.near.now a.q c.kept-h.result a.x t c.requires.1 (omega (arith, t.at_most)) in
    let far = tracked_room a.far.now a.q 1 c.track-y.result u c.requires.2 (omega (arith, u.at_least, u.at_most)) in
    let h = has_room _ _ _ (sym c.if-lacks_room.ensures) in (
      record { countable = near.countable; there = omega (arith, near.there, t.at_least) },
      record { countable = far.countable; there = omega (arith, far.there, u.at_least) },
      h.0,
      h.1,
    )

pub overflow_add-result : goal.overflow_add-result
overflow_add-result c =
    let a = c.args in
    let t = tracked_few a.near.now a.q (kept_of a.c.used) a.x c.requires.4 in
    let u = tracked_few a.far.now a.q 1 c.track-y.result (tracks a.far.now a.q 1 c.whole.result c.track-y.result c.whole.ensures c.track-y.ensures) in
    omega (arith, t, u)

pub returns : goal.returns
returns c =
    let a = c.args in
    let y = c.track-y.result in
    let t = subst (λ h. Tracks a.near.now a.q h a.x) (sym c.kept-h.ensures) c.requires.4 in
    let u = tracks a.far.now a.q 1 c.whole.result c.track-y.result c.whole.ensures c.track-y.ensures in
    let gone = c.gone_by-gone.result in
    let line = c.read_both-line.result in
    takes_as
    (told_both a.c a.near.now a.q c.kept-h.result a.x c.requires.3 c.kept-h.ensures t c.requires.5 c.requires.6 a.far.now y u gone
    (lost_at (later_by (16 * (a.c.used + (a.x.used - c.kept-h.result) - 1)) y.loss)) c.gone_by-gone.ensures refl line c.read_both-line.ensures)
    (taken_two a.window.now a.payload.now a.slot0.now a.near.now a.far.now (near_seen a.c a.near.now a.q c.kept-h.result a.x)
    (record { line = line; gone = gone; multiframes = y.used - 1; from = a.q + 4096 })
    c.keep.result c.keep.ensures.0 (sym c.if-lacks_room.ensures) _ _ _ c.keep.ensures.1 c.put_both.ensures.payload c.put_both.ensures.slot0)
