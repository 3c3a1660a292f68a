-- `take` stays in the room. At the loop's head n is at most its length, and each turn but the last adds to n.
use Rattle.std.proofs.Common.{◌-◌, ◌≤◌, length}
use Rattle.program.proofs.take.Given as goal

abbrev pub invariant-loop-n : goal.invariant-loop-n
invariant-loop-n g l = l.n ≤ length l.room

abbrev pub decreases-loop-n : goal.decreases-loop-n
decreases-loop-n g l = length l.room - l.n
