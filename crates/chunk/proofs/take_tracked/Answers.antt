use Rattle.std.proofs.Common.{◌≡◌, ◌-◌, ◌*◌, length, take, length-drop, ap, ◌∙◌, arith}
use Rattle.growth.specs.Growth.{Grown, grown}
use Rattle.growth.proofs.ReadCut.{found_reads}
use Rattle.chunk.proofs.BufferLaws.{to_end}
use Rattle.chunk.proofs.FollowLaws.{whole_is, lost_keeps_none}
use Rattle.chunk.proofs.TakeLaws.{near_length, takes_as, full, next_part, next_gone, cut_both}
use Rattle.chunk.proofs.take_tracked.Goals as goal

-- after a loss nothing is kept of the first image
pub take_far-requires : goal.take_far-requires
take_far-requires c =
    let a = c.args in
    let r = c.requires in
    let w = take a.fill a.window.now in
    let f = full a.window.now a.fill (omega arith) r.2 in
    let h = next_part a.c a.near.now w a.chunk.now a.fill a.n a.q a.x f r.7 r.6 r.2 r.3 in
    let e : length (grown a.c a.near.now).window ≡ 0 =
    ap (λ (y : Grown). length y.window) (found_reads a.c r.1.p r.1.k r.1.stands a.near.now r.1.not_lost)
    ∙ lost_keeps_none a.c a.near.now a.q _ a.x r.5 r.8 c.in-Some.is in
    (r.0, omega (arith, r.2), omega (arith, h.0), h.1, r.4, r.7, omega arith)

-- without one all but its last multiframe and an octet is let go

pub overflow_sub-from : goal.overflow_sub-from
overflow_sub-from c =
    let a = c.args in
    let r = c.requires in
    let w = take a.fill a.window.now in
    let f = full a.window.now a.fill (omega arith) r.2 in
    let g = next_gone a.c a.near.now w a.chunk.now a.fill a.n a.q a.x f r.7 r.6 r.2 r.3 r.5 r.8 c.in-None.is in
    omega (arith, g.0)

pub overflow_mul-from : goal.overflow_mul-from
overflow_mul-from c =
    let a = c.args in
    let r = c.requires in
    let w = take a.fill a.window.now in
    let f = full a.window.now a.fill (omega arith) r.2 in
    let g = next_gone a.c a.near.now w a.chunk.now a.fill a.n a.q a.x f r.7 r.6 r.2 r.3 r.5 r.8 c.in-None.is in
    omega (arith, g.2)

pub overflow_sub-from-in-None : goal.overflow_sub-from-in-None
overflow_sub-from-in-None c =
    let a = c.args in
    let r = c.requires in
    let w = take a.fill a.window.now in
    let f = full a.window.now a.fill (omega arith) r.2 in
    let g = next_gone a.c a.near.now w a.chunk.now a.fill a.n a.q a.x f r.7 r.6 r.2 r.3 r.5 r.8 c.in-None.is in
    g.1

pub slice_bounds-take_both-count : goal.slice_bounds-take_both-count
slice_bounds-take_both-count c =
    let a = c.args in
    let r = c.requires in
    let w = take a.fill a.window.now in
    let f = full a.window.now a.fill (omega arith) r.2 in
    let g = next_gone a.c a.near.now w a.chunk.now a.fill a.n a.q a.x f r.7 r.6 r.2 r.3 r.5 r.8 c.in-None.is in
    omega (arith, g.1, g.2)

pub slice_bounds-take_both-start : goal.slice_bounds-take_both-start
slice_bounds-take_both-start c =
    let a = c.args in
    let r = c.requires in
    let w = take a.fill a.window.now in
    let f = full a.window.now a.fill (omega arith) r.2 in
    let g = next_gone a.c a.near.now w a.chunk.now a.fill a.n a.q a.x f r.7 r.6 r.2 r.3 r.5 r.8 c.in-None.is in
    omega (arith, g.1, g.2)

pub take_both-requires : goal.take_both-requires
take_both-requires c =
    let a = c.args in
    let r = c.requires in
    let w = take a.fill a.window.now in
    let f = full a.window.now a.fill (omega arith) r.2 in
    let g = next_gone a.c a.near.now w a.chunk.now a.fill a.n a.q a.x f r.7 r.6 r.2 r.3 r.5 r.8 c.in-None.is in
    let h = next_part a.c a.near.now w a.chunk.now a.fill a.n a.q a.x f r.7 r.6 r.2 r.3 in
    let n = 512 * (a.x.used - 1) - a.fill in
    let far = to_end a.chunk.now n in
    let rest = length-drop n a.chunk.now in (
      r.0,
      omega (arith, near_length a.near.now w a.chunk.now a.fill a.n f h.1 r.7, h.0),
      rw far (omega (arith, rest, r.4)),
      r.5,
      r.8,
      c.in-None.is,
      omega (arith, g.0),
      rw (far, whole_is) (omega (arith, rest, g.1, g.2, r.3, r.5)),
    )

pub returns-in-None : goal.returns-in-None
returns-in-None c =
    let a = c.args in
    let r = c.requires in
    let w = take a.fill a.window.now in
    let f = full a.window.now a.fill (omega arith) r.2 in
    let g = next_gone a.c a.near.now w a.chunk.now a.fill a.n a.q a.x f r.7 r.6 r.2 r.3 r.5 r.8 c.in-None.is in
    let h = next_part a.c a.near.now w a.chunk.now a.fill a.n a.q a.x f r.7 r.6 r.2 r.3 in
    takes_as
    (cut_both a.c a.near.now w a.chunk.now a.fill a.n a.q a.x f h.1 r.7 r.1 r.5 r.8 c.in-None.is (omega (arith, g.0)) g.1)
    c.take_both.ensures
