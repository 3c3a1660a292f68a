use Rattle.std.proofs.Common.{arith, ◌*◌}
use Rattle.t1write.proofs.Signals.{all_replaced}
use Rattle.t1write.proofs.replaced.Goals as goal

pub returns : goal.returns
returns c =
    all_replaced c.args.payload.now c.args.signalling.now c.loop-k.octets (144 * c.loop-k.k) (omega arith) c.loop-k.invariant
