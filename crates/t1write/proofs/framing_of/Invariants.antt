-- At the head of the loop the framing bits of the frames before 4j are there.
use Rattle.std.proofs.Common.{◌≡◌, ◌*◌, ◌^◌, ◌<◌}
use Rattle.line.specs.Spelt.{spelt}
use Rattle.t1write.specs.Writing.{framing_bit}
use Rattle.t1write.proofs.framing_of.Given as goal

abbrev pub invariant-loop-j : goal.invariant-loop-j
invariant-loop-j l = (l.bits ≡ spelt (4 * l.j) (framing_bit l.link l.k)) × (l.bits < 2 ^ 24)
