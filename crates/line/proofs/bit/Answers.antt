-- Its place is a bit of an octet.
use mathlib.Core.Path.{ap, ◌∙◌}
use Rattle.line.specs.Bit.{bit_at}
use Rattle.line.proofs.BitLaws.{place_in}
use Rattle.line.proofs.bit.Goals as goal

pub returns : goal.returns
returns c = (c.bit_in.ensures.0 ∙ ap (bit_at c.args.s.now) (place_in c.args.p), c.bit_in.ensures.1)
