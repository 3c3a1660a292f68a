use Rattle.std.proofs.Common.{arith}
use Rattle.growth.proofs.Counts.{disagreeing_few}
use Rattle.chunk.proofs.judge_both.Goals as goal

pub overflow_add-result : goal.overflow_add-result
overflow_add-result c =
    let a = c.args.near in
    let b = c.args.far in
    omega (arith, c.judge_by.ensures, c.judge_by-2.ensures, disagreeing_few a.s.now a.q a.n, disagreeing_few b.s.now b.q b.n)
