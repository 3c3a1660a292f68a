-- `verdict` meets its contract: a test for each case of the definition, in its order, and for equal shares one of the distance.
use Rattle.std.proofs.Common.{eq-eqb, ne_eqb}
use Rattle.hits.specs.Verdict.{verdict}
use Rattle.hits.proofs.VerdictLaws.{of_data_bits}
use Rattle.hits.proofs.judge.Form.verdict.Goals as goal

pub returns-then-bits-a : goal.returns-then-bits-a
unfolding verdict
returns-then-bits-a c = rw (← c.bits-bits.ensures, c.if-bits-a.true)

pub returns-then-a-every-eq0 : goal.returns-then-a-every-eq0
unfolding verdict
returns-then-a-every-eq0 c =
    rw (← c.bits-bits.ensures, c.if-bits-a.false, ← c.every-every.ensures, eq-eqb _ 0 c.if-a-every-eq0.true)

pub returns-then-b-every-eq0 : goal.returns-then-b-every-eq0
unfolding verdict
returns-then-b-every-eq0 c =
    rw (
      ← c.bits-bits.ensures,
      c.if-bits-a.false,
      ← c.every-every.ensures,
      ne_eqb _ 0 c.if-a-every-eq0.false,
      eq-eqb _ 0 c.if-b-every-eq0.true,
    )

pub returns-then-a-b : goal.returns-then-a-b
unfolding verdict
returns-then-a-b c =
    rw (
      ← c.bits-bits.ensures,
      c.if-bits-a.false,
      ← c.every-every.ensures,
      ne_eqb _ 0 c.if-a-every-eq0.false,
      ne_eqb _ 0 c.if-b-every-eq0.false,
      eq-eqb _ _ c.if-a-b.true,
    )

pub returns-then-apart-order-eq0 : goal.returns-then-apart-order-eq0
returns-then-apart-order-eq0 c =
    let x = rw c.every-every.ensures at c.if-a-every-eq0.false in
    let y = rw c.every-every.ensures at c.if-b-every-eq0.false in
    rw (
      of_data_bits _ _ _ (rw c.bits-bits.ensures at c.if-bits-a.false) x y c.if-a-b.false,
      ← c.abs_diff-apart.ensures,
      ← c.order.ensures,
      eq-eqb _ 0 c.if-apart-order-eq0.true,
    )

pub returns : goal.returns
returns c =
    let x = rw c.every-every.ensures at c.if-a-every-eq0.false in
    let y = rw c.every-every.ensures at c.if-b-every-eq0.false in
    rw (
      of_data_bits _ _ _ (rw c.bits-bits.ensures at c.if-bits-a.false) x y c.if-a-b.false,
      ← c.abs_diff-apart.ensures,
      ← c.order.ensures,
      ne_eqb _ 0 c.if-apart-order-eq0.false,
    )
