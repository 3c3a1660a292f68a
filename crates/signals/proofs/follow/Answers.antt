-- A signalling multiframe begins with frame f, and is whole or cut short by the end; or none does.
use Rattle.std.proofs.Common.{◌≡◌, ◌+◌, ◌≤◌, true, false, length, refl, sym, ◌∙◌, inl, inr, arith, eq-eqb, ne_eqb}
use Rattle.signals.specs.Signalling.{first_in}
use Rattle.signals.specs.Follow.{begins}
use Rattle.signals.proofs.Through.{none_through, first_now, through_more, through_cut, through_lost, through_all}
use Rattle.signals.proofs.follow.Goals as goal
use Rattle.signals.proofs.follow.Goals.{then-first-eq0, else-first-eq0}

pub loop-f-init : goal.loop-f-init
loop-f-init c = (none_through c.args.t.now, omega arith)

pub loop-f-preserved-then-begins : goal.loop-f-preserved-then-begins
loop-f-preserved-then-begins c =
    let l = c.loop-f in
    let b : begins c.args.t.now l.f l.held l.wrong ≡ true = sym c.begins.ensures ∙ c.if-begins.true in
    let e : c.if-first-eq0.first ≡ first_in c.args.t.now (l.f + 1) =
    elim c.if-first-eq0.branch [
      | then-first-eq0 w ↦ first_now l.invariant.0 true b c.if-first-eq0.first (inl (eq-eqb l.first 0 w.if-first-eq0.true, w.first-is))
      | else-first-eq0 w ↦ first_now l.invariant.0 true b c.if-first-eq0.first (inr (ne_eqb l.first 0 w.if-first-eq0.false, w.first-is))
    ] in
    let k : l.f + 16 ≤ length c.args.t.now = omega arith in
    (rw c.signal_at-wrong.ensures (through_more l.invariant.0 b e (omega arith)), k)

pub loop-f-preserved : goal.loop-f-preserved
loop-f-preserved c =
    let l = c.loop-f in
    let b = sym c.begins.ensures ∙ c.if-begins.false in
    (through_lost l.invariant.0 b (first_now l.invariant.0 false b l.first (inr (refl, refl))), omega arith)

pub returns-after-loop-f : goal.returns-after-loop-f
returns-after-loop-f c = through_all c.loop-f.invariant.0 (omega arith)

pub returns-then-t-f-lt16 : goal.returns-then-t-f-lt16
returns-then-t-f-lt16 c =
    let l = c.loop-f in
    let b : begins c.args.t.now l.f l.held l.wrong ≡ true = sym c.begins.ensures ∙ c.if-begins.true in
    let e : c.if-first-eq0.first ≡ first_in c.args.t.now (l.f + 1) =
    elim c.if-first-eq0.branch [
      | then-first-eq0 w ↦ first_now l.invariant.0 true b c.if-first-eq0.first (inl (eq-eqb l.first 0 w.if-first-eq0.true, w.first-is))
      | else-first-eq0 w ↦ first_now l.invariant.0 true b c.if-first-eq0.first (inr (ne_eqb l.first 0 w.if-first-eq0.false, w.first-is))
    ] in
    through_cut l.invariant.0 b e (omega arith) (omega arith)
