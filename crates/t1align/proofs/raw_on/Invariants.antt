-- At the head of the loop r is that at octet k.
use Rattle.std.proofs.Common.{◌≡◌, ◌*◌, ◌%◌, ◌<◌, ◌≤◌}
use Rattle.t1.specs.Raw.{raw}
use Rattle.t1align.proofs.raw_on.Given as goal

abbrev pub invariant-loop-k : goal.invariant-loop-k
invariant-loop-k l = (l.k ≤ l.i) × (l.k % 7 ≡ l.i % 7) × (l.r ≡ raw l.s (8 * l.k)) × (l.r < 64)
