use mathlib.Core.Path.{ap, ◌∙◌}
use borrow.Author.Rules.{rules}
use Rattle.std.specs.Int.{w64, from_be_bytes}
use Rattle.line.proofs.Octets.{spelt_by}
use Rattle.line.proofs.window.Goals as goal

pub returns : goal.returns
returns c =
    let a = c.args in
    c.from_be_bytes.ensures ∙ ap (from_be_bytes w64) c.eight.ensures ∙ spelt_by a.s.now (λ j. search rules) a.i c.requires
