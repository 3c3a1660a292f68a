-- At the heads of the two loops the octets before 144k and before 144k + 120 + j have their bits replaced.
use Rattle.std.proofs.Common.{◌+◌, ◌*◌}
use Rattle.t1write.proofs.Signals.{Replacing}
use Rattle.t1write.proofs.replaced.Given as goal

abbrev pub invariant-loop-k : goal.invariant-loop-k
invariant-loop-k l = Replacing l.payload l.signalling l.octets (144 * l.k)

abbrev pub invariant-loop-j : goal.invariant-loop-j
invariant-loop-j l = Replacing l.payload l.signalling l.octets (144 * l.k + 120 + l.j)
