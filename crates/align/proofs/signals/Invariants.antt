-- At the head of the loop the first k are there.
use Rattle.std.proofs.Common.{◌≡◌, length}
use Rattle.align.specs.Window.{Signals}
use Rattle.align.proofs.signals.Given as goal

abbrev pub invariant-loop-k : goal.invariant-loop-k
invariant-loop-k l = (length l.g ≡ 43) × Signals l.m l.k l.g
