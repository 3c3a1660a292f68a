use mathlib.Core.Path.{◌∙◌}
use Rattle.line.proofs.Octets.{spelt_octets}
use Rattle.line.proofs.spell.Goals as goal

pub returns : goal.returns
returns c = c.copy_from_slice.ensures.after ∙ c.to_be_bytes.ensures ∙ spelt_octets c.args.n
