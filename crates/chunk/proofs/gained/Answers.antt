use Rattle.std.proofs.Common.{◌+◌, ◌-◌, ◌*◌, ap₂, ◌∙◌}
use Rattle.measure.specs.Reading.{disagreeing}
use Rattle.chunk.proofs.GainLaws.{gains_some}
use Rattle.chunk.proofs.gained.Goals as goal

pub returns : goal.returns
returns c =
    let a = c.args in
    gains_some a.s.now a.q a.h a.x.used a.x.words a.x.wordbits c.judge.result c.far_end.result
    c.requires.1.its_words c.requires.1.its_wordbits
    (c.judge.ensures ∙ ap₂ (λ x y. disagreeing a.s.now (a.q + 2048 * x) (y - x)) c.compared-judged.ensures c.compared.ensures)
    c.far_end.ensures
