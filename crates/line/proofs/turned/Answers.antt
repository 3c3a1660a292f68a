use mathlib.Core.Path.{◌∙◌}
use Rattle.line.proofs.Octets.{swapped}
use Rattle.line.proofs.turned.Goals as goal

pub returns : goal.returns
returns c = c.swap_bytes.ensures ∙ swapped c.args.w
