use Rattle.std.proofs.Common.{◌+◌, ◌*◌, ◌/◌, drop, length-drop, ap, sym, arith}
use Rattle.growth.specs.Growth.{read_from}
use Rattle.growth.specs.declared.Line.{Line}
use Rattle.growth.proofs.Bounds.{start_within}
use Rattle.chunk.proofs.BufferLaws.{to_end}
use Rattle.chunk.proofs.FollowLaws.{looks_as}
use Rattle.chunk.proofs.LookLaws.{from_octet}
use Rattle.chunk.proofs.from_place.Goals as goal

-- The start lies in the image.

pub overflow_mul-e : goal.overflow_mul-e
overflow_mul-e c = let a = c.args in omega (arith, start_within a.s.now a.place a.k c.requires.2)

pub overflow_add-e : goal.overflow_add-e
overflow_add-e c = let a = c.args in omega (arith, start_within a.s.now a.place a.k c.requires.2)

pub overflow_add-found : goal.overflow_add-found
overflow_add-found c = let a = c.args in omega (arith, start_within a.s.now a.place a.k c.requires.2)

pub slice_bounds-follow-count : goal.slice_bounds-follow-count
slice_bounds-follow-count c = let a = c.args in omega (arith, start_within a.s.now a.place a.k c.requires.2)

pub slice_bounds-follow-start : goal.slice_bounds-follow-start
slice_bounds-follow-start c = let a = c.args in omega (arith, start_within a.s.now a.place a.k c.requires.2)

pub overflow_add-before : goal.overflow_add-before
overflow_add-before c = let a = c.args in omega (arith, start_within a.s.now a.place a.k c.requires.2)

pub follow-x-requires : goal.follow-x-requires
follow-x-requires c =
    let a = c.args in
    let s = a.s.now in
    let e = (a.place + 512 * a.k) / 8 in
    let r = start_within s a.place a.k c.requires.2 in (
      rw c.unread.ensures record {
        before = omega arith;
        start = omega arith;
        used = omega arith;
        lost = omega arith;
        words = omega arith;
        errored = omega arith;
        farend = omega arith;
        wordbits = omega arith;
      },
      rw (to_end s e) (omega (arith, length-drop e s)),
    )

pub overflow_mul-result : goal.overflow_mul-result
overflow_mul-result c = let a = c.args in omega (arith, start_within a.s.now a.place a.k c.requires.2)

pub overflow_add-result-2 : goal.overflow_add-result-2
overflow_add-result-2 c =
    let a = c.args in
    let s = a.s.now in
    let e = (a.place + 512 * a.k) / 8 in
    let l = rw (to_end s e) at c.follow-x.ensures in
    omega (arith, start_within s a.place a.k c.requires.2, l.there, length-drop e s)

pub returns : goal.returns
returns c =
    let a = c.args in
    let s = a.s.now in
    let e = (a.place + 512 * a.k) / 8 in
    looks_as (ap (λ (y : Line). read_from y (drop e s)) (sym c.unread.ensures))
    (from_octet s (read_from c.unread.result (drop e s)) c.follow-x.result e
    (omega (arith, start_within s a.place a.k c.requires.2)) (rw (to_end s e) at c.follow-x.ensures))
