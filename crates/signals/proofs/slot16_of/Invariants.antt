use Rattle.std.proofs.Common.{◌≡◌, ◌*◌, take, length}
use Rattle.line.specs.Bit.{octet_at}
use Rattle.base.specs.Tab.{tab}
use Rattle.e1.specs.Frame.{slot_at}
use Rattle.signals.proofs.slot16_of.Given as goal

-- the octets before frame f are taken
abbrev pub invariant-loop-f : goal.invariant-loop-f
invariant-loop-f l =
    (length l.octet-items ≡ 16 * l.g) × (take l.f l.octet-items ≡ tab l.f (λ f. octet_at l.s (slot_at l.q f 16)))
