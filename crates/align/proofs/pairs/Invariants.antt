-- At the head of the loop the pairs at the first k are in r.
use Rattle.align.specs.Window.{Pairs}
use Rattle.align.proofs.pairs.Given as goal

abbrev pub invariant-loop-k : goal.invariant-loop-k
invariant-loop-k l = Pairs l.g l.k l.r
