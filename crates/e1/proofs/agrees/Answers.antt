use mathlib.Core.Path.{refl}
use Rattle.e1.specs.Block.{agrees}
use Rattle.e1.proofs.agrees.Goals as goal

pub returns : goal.returns
unfolding agrees
returns c = rw (c.block_check.ensures.0, c.carried-2.ensures) refl
