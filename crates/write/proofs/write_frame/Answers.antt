use Rattle.std.proofs.Common.{arith}
use Rattle.std.proofs.Math.Seq.{take-suc-set}
use Rattle.write.proofs.write_frame.Goals as goal

pub loop-j-init : goal.loop-j-init
loop-j-init c = take-suc-set c.args.out.now 0 c.args.slot (omega arith)
