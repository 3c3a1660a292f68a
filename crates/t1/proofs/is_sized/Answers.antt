use Rattle.t1.specs.Payload.{sized}
use Rattle.t1.proofs.is_sized.Goals as goal

pub returns : goal.returns
unfolding sized
returns c = c.is_sized.ensures
