use Rattle.std.proofs.Common.{eq-eqb, ne_eqb}
use Rattle.write.specs.Writing.{slot0}
use Rattle.write.proofs.slot_0.Goals as goal

pub returns-then-f-eq0 : goal.returns-then-f-eq0
unfolding slot0
returns-then-f-eq0 c = simp (eq-eqb _ _ c.if-f-eq0.true)

pub returns : goal.returns
unfolding slot0
returns c = simp (ne_eqb _ _ c.if-f-eq0.false, c.bit_1.ensures.0)
