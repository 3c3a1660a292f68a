use Rattle.e1.proofs.Checked.{spaced_octet}
use Rattle.e1.proofs.spaced.Goals as goal

pub returns : goal.returns
returns c = spaced_octet c.args.c
