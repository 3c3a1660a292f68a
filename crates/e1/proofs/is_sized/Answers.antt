use Rattle.e1.specs.Payload.{sized}
use Rattle.e1.proofs.is_sized.Goals as goal

pub returns : goal.returns
unfolding sized
returns c = c.is_sized.ensures
