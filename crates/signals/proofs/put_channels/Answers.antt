-- Each octet is of two channels.
use Rattle.std.proofs.Common.{arith}
use Rattle.signals.proofs.Channels.{both_more, both_all}
use Rattle.signals.proofs.put_channels.Goals as goal

pub loop-i-preserved : goal.loop-i-preserved
loop-i-preserved c = both_more c.args.t.now c.loop-i.out c.requires.0 (omega arith) c.loop-i.i (omega arith) c.loop-i.invariant

pub returns : goal.returns
returns c = both_all c.args.t.now c.loop-i.out c.requires.0 (omega arith) (λ j h. c.loop-i.invariant j (omega arith))
