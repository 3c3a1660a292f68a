-- The frames before i are written.
use Rattle.std.proofs.Common.{◌≡◌, ◌*◌, take}
use Rattle.base.specs.Tab.{tab}
use Rattle.write.proofs.Parts.{block_octet}
use Rattle.write.proofs.write_block.Given as goal

abbrev pub invariant-loop-i : goal.invariant-loop-i
invariant-loop-i g l = take (32 * l.i) l.out ≡ tab (32 * l.i) (block_octet (g.P.Payload.octets l.payload) l.overhead l.k l.b)
