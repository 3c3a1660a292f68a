use Rattle.std.proofs.Common.{◌≡◌}
use Rattle.exchange.proofs.Parts.{done}
use Rattle.exchange.proofs.State.map.Given as goal

-- the first f frames of the output are mapped, and the rest is as it was
abbrev pub invariant-loop-f : goal.invariant-loop-f
invariant-loop-f l = l.out ≡ done l.map l.payload l.initial.out l.f
