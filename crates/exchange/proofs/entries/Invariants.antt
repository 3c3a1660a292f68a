use Rattle.std.proofs.Common.{◌≡◌, take}
use Rattle.base.specs.Tab.{tab}
use Rattle.exchange.specs.Mapping.{entry_at}
use Rattle.exchange.proofs.entries.Given as goal

-- the entries below j are worked out
abbrev pub invariant-loop-j : goal.invariant-loop-j
invariant-loop-j l = take l.j l.entry-items ≡ tab l.j (entry_at l.map)
