use Rattle.std.proofs.Common.{◌≡◌, take}
use Rattle.chunk.proofs.copy.Given as goal

-- the octets before i are copied
abbrev pub invariant-loop-i : goal.invariant-loop-i
invariant-loop-i l = take l.i l.to ≡ take l.i l.from
