use Rattle.std.proofs.Common.{ℕ, ◌<◌}
use Rattle.signals.proofs.Channels.{Both}
use Rattle.signals.proofs.put_channels.Given as goal

-- channels 1 to i and 16 to i + 15 are written
abbrev pub invariant-loop-i : goal.invariant-loop-i
invariant-loop-i l = (j : ℕ) → j < l.i → Both l.t l.out j
