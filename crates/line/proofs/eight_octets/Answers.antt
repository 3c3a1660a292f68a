use mathlib.Core.Path.{ap, ◌∙◌}
use borrow.Author.Rules.{rules}
use Rattle.std.specs.Int.{w64, from_le_bytes}
use Rattle.line.specs.Window.{turned}
use Rattle.line.proofs.Octets.{turned_by}
use Rattle.line.proofs.eight_octets.Goals as goal

pub returns : goal.returns
returns c =
    let a = c.args in
    ap (turned 8) (c.from_le_bytes.ensures ∙ ap (from_le_bytes w64) c.eight.ensures)
    ∙ turned_by a.s.now (λ j. search rules) a.i c.requires
