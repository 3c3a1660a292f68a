use mathlib.Core.Path.{sym, ap}
use Rattle.base.specs.Tab.{sum}
use Rattle.measure.specs.Reading.{disagreeing}
use Rattle.measure.proofs.judge.Goals as goal

pub returns-then-n-eq0 : goal.returns-then-n-eq0
unfolding sum
returns-then-n-eq0 c = let a = c.args in sym (ap (disagreeing a.s.now a.p) c.if-n-eq0.true)
