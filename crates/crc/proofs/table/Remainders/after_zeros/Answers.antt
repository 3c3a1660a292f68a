use mathlib.Core.Path.{◌∙◌}
use Rattle.crc.proofs.TableLaws.{four_zeros}
use Rattle.crc.proofs.table.Remainders.after_zeros.Goals as goal

pub returns : goal.returns
returns c = (c.after_octet.ensures.0 ∙ four_zeros c.args.r c.requires, c.after_octet.ensures.1)
