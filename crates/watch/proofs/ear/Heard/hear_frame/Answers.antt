-- `hear_frame` adds a frame.
use Rattle.std.proofs.Common.{◌+◌, sym, subst}
use Rattle.heard.specs.Hearing.{Few}
use Rattle.heard.proofs.Frames.{few_more}
use Rattle.watch.proofs.ear.Heard.hear_frame.Goals as goal

pub returns-then-not-is_read : goal.returns-then-not-is_read
returns-then-not-is_read g c k few = subst (λ h. Few h (k + 1)) (sym c.hear-self.ensures) (few_more _ _ k few)

pub returns : goal.returns
returns g c k few = subst (λ h. Few h (k + 1)) (sym c.hear-self.ensures) (few_more _ _ k few)
