use Rattle.std.proofs.Common.{arith, refl, ◌≡◌, ◌+◌, ◌*◌}
use Rattle.t1align.proofs.Windows.{in_image, passes}
use Rattle.t1align.proofs.onward.Goals as goal

pub loop-k-init : goal.loop-k-init
loop-k-init c = (record { onward = omega arith; windows = refl; none = λ q g l. absurd (omega arith) }, omega arith)

pub loop-w-init : goal.loop-w-init
loop-w-init c =
    let e : c.loop-k.k + 0 ≡ c.loop-k.k = omega arith in
    rw e c.loop-k.invariant.0

pub returns-then-places-ne0 : goal.returns-then-places-ne0
returns-then-places-ne0 c = (c.loop-w.invariant, omega arith, in_image c.args.s.now _ _ c.signals-places.ensures)

pub loop-w-preserved : goal.loop-w-preserved
loop-w-preserved c = passes c.loop-w.invariant c.if-places-ne0.false c.signals-places.ensures (omega arith)

pub loop-k-preserved : goal.loop-k-preserved
loop-k-preserved c =
    let e : c.loop-k.k + 7 * c.loop-w.w ≡ c.loop-k.k + 28 = omega arith in
    (rw e at c.loop-w.invariant, omega arith)

pub returns-then-places-ne0-2 : goal.returns-then-places-ne0-2
returns-then-places-ne0-2 c = (c.loop-at.invariant, omega arith, in_image c.args.s.now _ _ c.signals-places-in-loop-at.ensures)

pub loop-at-preserved : goal.loop-at-preserved
loop-at-preserved c = passes c.loop-at.invariant c.if-places-ne0-2.false c.signals-places-in-loop-at.ensures (omega arith)

pub returns : goal.returns
returns c q g l = c.loop-at.invariant.none q g (omega arith)

pub returns-else-places-ne0-2 : goal.returns-else-places-ne0-2
returns-else-places-ne0-2 c q g l =
    let p = passes c.loop-at.invariant c.if-places-ne0-2.false c.signals-places-in-loop-at.ensures refl in
    p.none q g (omega arith)
