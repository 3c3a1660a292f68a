use mathlib.Core.Path.{◌∙◌}
use Rattle.crc.proofs.TableLaws.{two_octets}
use Rattle.crc.proofs.fold.after_rows.Goals as goal

pub returns : goal.returns
returns c = (
  c.after_octet.ensures.0 ∙ two_octets c.folded-n.result c.after_octet-r.result c.after_octet-r.ensures.0 ∙ c.folded-n.ensures,
  c.after_octet.ensures.1,
)
