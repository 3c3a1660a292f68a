use Rattle.std.proofs.Common.{sym, ◌∙◌, arith}
use Rattle.chunk.proofs.TakeLaws.{has_room, kept_short}
use Rattle.chunk.proofs.take_image.Goals as goal

pub payload_of-requires : goal.payload_of-requires
payload_of-requires c = (
  record { countable = omega arith; there = c.look-x.ensures.there },
  (has_room _ _ _ (sym c.lacks_room.ensures ∙ c.if-lacks_room.false)).0,
)

pub slot0_of-requires : goal.slot0_of-requires
slot0_of-requires c = (
  record { countable = omega arith; there = c.look-x.ensures.there },
  (has_room _ _ _ (sym c.lacks_room.ensures ∙ c.if-lacks_room.false)).1,
)

pub keep-requires : goal.keep-requires
keep-requires c =
    (c.look-x.ensures.within, omega (arith, kept_short c.args.c c.args.image.now c.look-x.result c.look-x.ensures))
