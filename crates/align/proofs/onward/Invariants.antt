-- At the head of the loop no place from p to octet i is wanted.
use Rattle.std.proofs.Common.{◌-◌, ◌*◌, ◌≤◌, length}
use Rattle.align.specs.Window.{NoneFrom, Wanted}
use Rattle.align.proofs.onward.Given as goal

abbrev pub invariant-loop-hit : goal.invariant-loop-hit
invariant-loop-hit l = (l.p ≤ 8 * l.i) × (l.i ≤ length l.s) × NoneFrom (Wanted l.s l.known) l.p (8 * l.i)

abbrev pub decreases-loop-hit : goal.decreases-loop-hit
decreases-loop-hit l = l.end - l.i
