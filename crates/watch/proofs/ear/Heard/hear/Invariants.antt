-- `hear` adds a frame each time.
use Rattle.watch.specs.Watch.{Adds}
use Rattle.watch.proofs.ear.Heard.hear.Given as goal

abbrev pub invariant-loop-f : goal.invariant-loop-f
invariant-loop-f g l = Adds l.f l.fn.self.now l.self.now
