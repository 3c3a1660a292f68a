use Prim.Native.Nat.{◌+◌, ◌-◌, ◌*◌, ◌≤◌}
use mathlib.Core.Path.{refl, sym, ◌∙◌}
use native.Mathlib.Omega.{arith}
use lib.ListN.{length}
use Rattle.t1.proofs.Slides.{raw_part}
use Rattle.t1align.proofs.Firsts.{NoneBefore, nowhere, none_passed, past_zeros, answered}
use Rattle.t1align.proofs.Parts.{length_of_octets}
use Rattle.t1align.proofs.find.Goals as goal

pub returns-then-end-eq0 : goal.returns-then-end-eq0
returns-then-end-eq0 c = nowhere c.args.s.now 0 (λ q h. absurd (omega arith)) (omega arith)

pub loop-c-init : goal.loop-c-init
loop-c-init c = (
  λ q h. absurd (omega arith),
  (omega arith, refl, c.of-raw.ensures.0 ∙ raw_part c.args.s.now 0 579 0 0 (omega arith) (omega arith), c.of-raw.ensures.1),
  omega arith,
)

pub agreeing-requires : goal.agreeing-requires
agreeing-requires c =
    let s = c.args.s.now in
    let i = c.in-Some.c.at in
    let fits : i + 1158 ≤ length s = omega (arith, c.in-Some.ensures.1) in (
      length_of_octets s i 1158 fits,
      c.raw_on-raw.ensures.0 ∙ sym (raw_part s i (i + 1158 - i) 0 (8 * i) (omega arith) (omega arith)),
      c.raw_on-raw.ensures.1,
    )

pub returns-then-o-lt56 : goal.returns-then-o-lt56
returns-then-o-lt56 c =
    let s = c.args.s.now in
    let w = c.in-Some.c in
    let h = c.in-Some.ensures in
    c.then_some.ensures
    ∙ answered s w.at w.places c.agreeing.result (omega arith) h.2 c.agreeing.ensures
    (none_passed s _ _ c.loop-c.invariant.0 h.0.none) (omega arith)

pub loop-c-preserved : goal.loop-c-preserved
loop-c-preserved c =
    let s = c.args.s.now in
    let w = c.in-Some.c in
    let h = c.in-Some.ensures in
    let none : NoneBefore s (8 * w.at + 56)
    = past_zeros s w.at w.places c.agreeing.result (omega arith) h.2 c.agreeing.ensures
    (none_passed s _ _ c.loop-c.invariant.0 h.0.none) 56 (omega arith) (omega arith) in (
      λ q g. none q (omega arith),
      (omega arith, omega arith, c.raw_on-raw.ensures.0, c.raw_on-raw.ensures.1),
      omega (arith, h.1),
    )

pub returns : goal.returns
returns c =
    let s = c.args.s.now in
    nowhere s (8 * c.octets_with_room-end.result) (none_passed s _ _ c.loop-c.invariant.0 c.in_default.ensures) (omega arith)
