-- At the head of the loop the first 8a frames are written.
use Rattle.std.proofs.Common.{◌≡◌, ◌*◌, take}
use Rattle.base.specs.Tab.{tab}
use Rattle.t1write.proofs.Parts.{line_octet}
use Rattle.t1write.proofs.write_superframe.Given as goal

abbrev pub invariant-loop-a : goal.invariant-loop-a
invariant-loop-a l = take (193 * l.a) l.out ≡ tab (193 * l.a) (line_octet l.octets l.link l.k)
