-- The multiframes before m are written, c is the check of their last block, and the rest of the output is as it was.
use Rattle.std.proofs.Common.{◌≡◌, ◌*◌, take, drop}
use Rattle.write.specs.Writing.{carries, written}
use Rattle.write.proofs.write_all.Given as goal

abbrev pub invariant-loop-m : goal.invariant-loop-m
invariant-loop-m g l =
    let p = g.P.Payload.octets l.payload in
    (l.c ≡ carries p l.overhead l.check (2 * l.m))
    × (take (512 * l.m) l.out ≡ written p l.overhead l.check (2 * l.m))
    × (drop (512 * l.m) l.out ≡ drop (512 * l.m) l.fn.out)
