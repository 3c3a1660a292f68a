use Rattle.std.proofs.Common.{rules}
use Rattle.chunk.specs.Taking.{lacks_room}
use Rattle.chunk.proofs.lacks_room.Goals as goal

pub returns : goal.returns
unfolding lacks_room
returns c = search rules
