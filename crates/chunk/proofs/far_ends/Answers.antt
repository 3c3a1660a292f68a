use Rattle.std.proofs.Common.{arith}
use Rattle.growth.proofs.Counts.{far_end_few}
use Rattle.chunk.proofs.far_ends.Goals as goal

pub overflow_add-result : goal.overflow_add-result
overflow_add-result c =
    let a = c.args.near in
    let b = c.args.far in
    omega (arith, c.far_end.ensures, c.far_end-2.ensures, far_end_few a.s.now a.q a.n, far_end_few b.s.now b.q b.n)
