-- At the head of each loop no place that was passed has both signals.
use Rattle.std.proofs.Common.{◌+◌, ◌-◌, ◌*◌, ◌<◌}
use Rattle.t1align.specs.Window.{Passed}
use Rattle.t1align.proofs.onward.Given as goal

abbrev pub invariant-loop-k : goal.invariant-loop-k
invariant-loop-k l = Passed l.s l.i l.k × (l.k < l.end + 7)

abbrev pub decreases-loop-k : goal.decreases-loop-k
decreases-loop-k l = l.end + 7 - l.k

abbrev pub invariant-loop-w : goal.invariant-loop-w
invariant-loop-w l = Passed l.s l.i (l.k + 7 * l.w)

abbrev pub invariant-loop-at : goal.invariant-loop-at
invariant-loop-at l = Passed l.s l.i l.at
