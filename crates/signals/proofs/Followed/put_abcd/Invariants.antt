use Rattle.signals.proofs.Filling.{Filling}
use Rattle.signals.proofs.Followed.put_abcd.Given as goal

-- the channels of m signalling multiframes are written
abbrev pub invariant-loop-m : goal.invariant-loop-m
invariant-loop-m l = Filling l.t l.initial.out l.self.starts l.self.multiframes l.out l.m
