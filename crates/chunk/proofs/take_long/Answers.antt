use Rattle.std.proofs.Common.{take, arith}
use lib.Seq.{length-take-le}
use Rattle.growth.proofs.Bounds.{grown_short}
use Rattle.chunk.proofs.BufferLaws.{filled}
use Rattle.chunk.proofs.take_long.Goals as goal

pub join-e-requires : goal.join-e-requires
join-e-requires c =
    omega (arith, filled c.args.window.now c.args.fill (omega arith) c.requires.1, length-take-le 2048 c.args.chunk.now c.requires.2)

pub take_far-requires : goal.take_far-requires
take_far-requires c = (
  c.requires.0,
  c.requires.1,
  omega arith,
  c.requires.2,
  c.requires.3,
  c.join-e.ensures.2,
  grown_short c.args.c (take c.join-e.result c.join-e.new.image),
)
