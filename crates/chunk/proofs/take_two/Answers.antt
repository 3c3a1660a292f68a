use Rattle.std.proofs.Common.{◌+◌, ◌^◌, length, sym, ap₂, ◌∙◌, arith}
use Rattle.growth.specs.Growth.{after}
use Rattle.chunk.proofs.FollowLaws.{small_more}
use Rattle.chunk.proofs.TakeLaws.{has_room, takes_as, taken_two, kept_short, small_then}
use Rattle.chunk.proofs.take_two.Goals as goal

pub look-y-requires : goal.look-y-requires
look-y-requires c =
    let a = c.args in (
      small_more a.x.line (2 ^ 39 + length a.near.now) (2 ^ 40) (omega arith)
          (small_then a.c a.near.now a.x c.requires.3 (2 ^ 39) c.requires.0),
      c.requires.2,
    )

pub put_both-requires : goal.put_both-requires
put_both-requires c =
    let h = has_room _ _ _ (sym c.lacks_room.ensures ∙ c.if-lacks_room.false) in (
      record { countable = omega arith; there = c.requires.3.there },
      record { countable = omega arith; there = c.look-y.ensures.there },
      h.0,
      h.1,
    )

pub keep-requires : goal.keep-requires
keep-requires c =
    (c.look-y.ensures.within, omega (arith, kept_short c.args.x.line c.args.far.now c.look-y.result c.look-y.ensures))

pub returns : goal.returns
returns c =
    let a = c.args in
    takes_as (ap₂ after c.requires.3.tells c.look-y.ensures.tells)
    (taken_two a.window.now a.payload.now a.slot0.now a.near.now a.far.now a.x c.look-y.result c.keep.result c.keep.ensures.0
    (sym c.lacks_room.ensures ∙ c.if-lacks_room.false) _ _ _ c.keep.ensures.1 c.put_both.ensures.payload c.put_both.ensures.slot0)
