-- Behind a bit there are as many bits as the block has after it.
use Rattle.std.proofs.Common.{arith}
use Rattle.hits.proofs.VerdictLaws.{fits}
use Rattle.hits.proofs.judge.Form.share.Goals as goal

pub share-requires : goal.share-requires
share-requires c =
    let f = fits c.args.self in
    rw c.width.ensures (f.wide, f.narrow, omega (arith, f.few, c.bits.ensures))
