-- The word spells what v and the octets that are left do.
use Rattle.std.proofs.Common.{◌≡◌, drop}
use Rattle.program.specs.Text.{decimal}
use Rattle.program.proofs.text.number.Given as goal

abbrev pub invariant-loop-x : goal.invariant-loop-x
invariant-loop-x l = decimal 0 l.s ≡ decimal l.v (drop l.x-index l.s)
