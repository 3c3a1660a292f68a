-- At the head of each loop no place that was passed has basic alignment.
use Rattle.std.proofs.Common.{◌+◌, ◌-◌, ◌*◌, ◌≤◌, length}
use Rattle.align.specs.Stands.{Basic}
use Rattle.align.specs.Window.{NoneFrom}
use Rattle.align.proofs.next_hit.Given as goal

abbrev pub invariant-loop-j : goal.invariant-loop-j
invariant-loop-j l = (l.i ≤ l.j) × (l.j ≤ length l.s) × NoneFrom (Basic l.s) (8 * l.i) (8 * l.j)

abbrev pub decreases-loop-j : goal.decreases-loop-j
decreases-loop-j l = l.end - l.j

abbrev pub invariant-loop-w : goal.invariant-loop-w
invariant-loop-w l = NoneFrom (Basic l.s) (8 * l.i) (8 * (l.j + 7 * l.w))
