use Rattle.std.proofs.Common.{◌≡◌, ◌+◌, ◌*◌, arith, rules, tests}
use Rattle.line.specs.Bit.{field}
use Rattle.line.specs.Window.{turned}
use Rattle.align.proofs.Rows.{each_given}
use Rattle.align.proofs.marks.Goals as goal

pub returns : goal.returns
returns c k h =
    each_given _ (λ j x. turned 8 x ≡ field c.args.s.now (8 * (c.args.i + 32 + 64 * j)) 64) _ (λ j x q e. search (rules, tests))
    c.from_fn.result 0 0 32 c.from_fn.ensures.items.each k (omega arith) (omega arith)
