-- All bits but the last octet, this octet, the zeros behind it.
use mathlib.Core.Path.{◌∙◌}
use Rattle.e1.proofs.Checked.{last_octet, block_closed}
use Rattle.e1.proofs.block_check.Goals as goal

pub returns : goal.returns
returns c =
    let a = c.args in
    let e = c.after_octet.ensures.0
    ∙ last_octet a.s.now a.q c.after_rows-r.result c.octet.result c.spaced.result a.c
    c.after_rows-r.ensures.0 c.octet.ensures c.spaced.ensures c.requires.1 in
    (c.after_zeros.ensures.0 ∙ block_closed a.s.now a.q c.after_octet.result e, c.after_zeros.ensures.1)
