-- At the head of the loop no place before octet i stands, and the remainder that was taken last is known.
use Rattle.std.proofs.Common.{◌+◌, ◌-◌, ◌*◌, ◌<◌}
use Rattle.t1align.proofs.Firsts.{NoneBefore, Known}
use Rattle.t1align.proofs.find.Given as goal

abbrev pub invariant-loop-c : goal.invariant-loop-c
invariant-loop-c l = NoneBefore l.s (8 * l.i) × Known l.s l.at l.raw l.i × (l.i < l.end + 7)

abbrev pub decreases-loop-c : goal.decreases-loop-c
decreases-loop-c l = l.end + 7 - l.i
