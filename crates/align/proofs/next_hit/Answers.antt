use Prim.Native.Nat.{◌+◌, ◌*◌}
use mathlib.Core.Path.{◌≡◌, ap, ◌∙◌}
use native.Mathlib.Omega.{arith}
use lib.Count.{count_leading_zeros, leading_of_zero}
use Rattle.align.specs.Stands.{Basic}
use Rattle.align.specs.Window.{NoneFrom}
use Rattle.align.proofs.Sets.{none_to}
use Rattle.align.proofs.next_hit.Goals as goal

-- a window with no place left has none
pub loop-w-preserved : goal.loop-w-preserved
loop-w-preserved c =
    let r = c.starts-places.result in
    let empty : count_leading_zeros 64 r ≡ 64 = ap (count_leading_zeros 64) c.if-places-ne0.false ∙ leading_of_zero 64 in
    let none : NoneFrom (Basic c.args.s.now) (8 * c.args.i) (8 * (c.loop-j.j + 7 * c.loop-w.w) + 56)
    = none_to _ _ _ r c.starts-places.ensures (omega arith) c.loop-w.invariant 56 (omega arith) (omega (arith, empty)) in
    λ q g b. none q g (omega arith)

pub loop-j-preserved : goal.loop-j-preserved
loop-j-preserved c = (omega arith, omega arith, λ q g b. c.loop-w.invariant q g (omega arith))
