-- At the head of the loop the superframes before m are written, k is the check of the last of them, and the rest of the
-- output is as it was.
use Rattle.std.proofs.Common.{◌≡◌, ◌*◌, take, drop}
use Rattle.t1write.specs.Writing.{carries, written}
use Rattle.t1write.proofs.write_all.Given as goal

abbrev pub invariant-loop-m : goal.invariant-loop-m
invariant-loop-m g l =
    let sent = g.S.Sent.octets l.sent in
    (l.k ≡ carries sent l.check l.m) × (take (579 * l.m) l.out ≡ written sent l.link l.check l.m)
    × (drop (579 * l.m) l.out ≡ drop (579 * l.m) l.fn.out)
