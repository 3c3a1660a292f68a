-- The slots up to j are written.
use Rattle.std.proofs.Common.{◌≡◌, ◌∷◌, ◌+◌, take}
use Rattle.write.proofs.write_frame.Given as goal

abbrev pub invariant-loop-j : goal.invariant-loop-j
invariant-loop-j l = take (l.j + 1) l.out ≡ l.slot ∷ take l.j l.octets
