use Rattle.std.proofs.Common.{◌≤◌, ◌-◌, length}
use Rattle.signals.proofs.Through.{Through}
use Rattle.signals.proofs.follow.Given as goal

-- the frames before f are gone through
abbrev pub invariant-loop-f : goal.invariant-loop-f
invariant-loop-f l = Through l.t l.multiframes l.starts l.first l.losses l.held l.wrong l.f × (l.f ≤ length l.t)

abbrev pub decreases-loop-f : goal.decreases-loop-f
decreases-loop-f l = length l.t - l.f
