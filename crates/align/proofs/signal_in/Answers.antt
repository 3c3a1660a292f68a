use native.Mathlib.Omega.{arith}
use Rattle.line.proofs.WindowLaws.{and_one, not_one}
use Rattle.align.proofs.signal_in.Goals as goal

pub returns : goal.returns
returns x n h a b c d e f =
    and_one _ _ n
    (and_one _ _ n
    (and_one _ _ n
    (and_one _ _ n (and_one _ _ n (not_one x.args.a n 64 (omega arith) h a) (not_one x.args.b n 64 (omega arith) h b)) c)
    (not_one x.args.d n 64 (omega arith) h d))
    e)
    f
