-- `judge_by` meets its contract: at the head of the loop the blocks before b are judged, and what block b carries is read.
use Prim.Native.Nat.{ℕ, ◌+◌, ◌*◌, ◌^◌, ◌≤◌, ◌<◌, ◌-◌}
use mathlib.Core.Path.{◌≡◌, refl, sym, ap, ap₂, ◌∙◌}
use mathlib.Core.Bool.{Bool, not}
use mathlib.Core.List.{List}
use native.Mathlib.Nat.{add-zero}
use native.Mathlib.Omega.{arith}
use borrow.Author.Tests.{eq-eqb, ne_eqb}
use lib.Dec.{eqb}
use lib.ListN.{length}
use Rattle.line.specs.Bit.{Room}
use Rattle.e1.specs.Block.{agrees}
use Rattle.e1.specs.Block as e1
use Rattle.base.specs.Tab.{sum, count}
use Rattle.base.proofs.TabLaws.{count_yes, count_no, count_le}
use Rattle.measure.specs.Reading.{agrees_in}
use Rattle.measure.proofs.judge_by.Statement.{statement}
use Rattle.measure.proofs.judge_by.Tie as tie
use Rattle.measure.proofs.judge_by.Lts.{else-check-carried, then-check-carried}

abbrev differs : List ℕ → ℕ → ℕ → Bool
differs s q b = not (agrees_in s q b)

abbrev invariant_loop : tie.invariant-loop-b
invariant_loop s p n table carried₀ errored₀ b₀ carried errored b =
    (b ≤ n) × (carried ≡ e1.carried s (p + 2048 * b)) × (errored ≡ count b (differs s p))

abbrev decreases_loop : tie.decreases-loop-b
decreases_loop s p n table carried₀ errored₀ b₀ carried errored b = n - b

room : {s : List ℕ} {p n : ℕ} → length s < 2 ^ 60 → p + n ≤ 8 * length s → Room s p n
room h k = record { countable = h; there = k }

-- there are blocks, and room for them
roomy : (c : tie.Else-n-eq0 invariant_loop decreases_loop)
    → (let a = c.before.before.args in Room a.s.now a.p (2048 * a.n + 2048))
roomy c = c.before.before.requires (omega (arith, c.if-n-eq0.false))

returns : tie.Need-returns-then-n-eq0 invariant_loop decreases_loop
unfolding sum
returns c = let a = c.before.before.args in sym (ap (λ n. count n (differs a.s.now a.p)) c.if-n-eq0.true)

loop_holds : tie.Need-loop-b-init invariant_loop decreases_loop
unfolding sum
loop_holds c =
    let a = c.before.before.before.args in (
      omega arith,
      c.carried-carried.ensures ∙ ap (e1.carried a.s.now) (sym (add-zero a.p)),
      refl,
    )

block_check_requires : tie.Need-block_check-check-requires invariant_loop decreases_loop
block_check_requires c κs =
    let l = c.before in
    let d = l.before.before in
    let r = roomy d in
    (room r.countable (omega (arith, r.there)), l.loop-b.invariant.1)

add_errored : tie.Need-overflow_add-errored invariant_loop decreases_loop
add_errored c =
    let l = c.before.before.before.before in
    let a = l.before.before.before.before.args in
    let r = roomy l.before.before in
    omega (arith, l.loop-b.invariant.2, count_le l.loop-b.b (differs a.s.now a.p), r.countable, r.there)

loop_again : tie.Need-loop-b-preserved invariant_loop decreases_loop
unfolding agrees
loop_again c =
    let k = c.before in
    let w = k.before in
    let l = w.before.before in
    let a = l.before.before.before.before.args in
    let b = l.loop-b.b in
    let t = differs a.s.now a.p in
    let before = l.loop-b.invariant.2 in
    let check = w.block_check-check.result in
    let carried = k.carried-carried-in-loop-b.result in
    let e : agrees_in a.s.now a.p b ≡ eqb check carried = sym (ap₂ eqb w.block_check-check.ensures.0 k.carried-carried-in-loop-b.ensures) in
    let next : a.p + 2048 * b + 2048 ≡ a.p + 2048 * (b + 1) = omega arith in (
      omega arith,
      k.carried-carried-in-loop-b.ensures ∙ ap (e1.carried a.s.now) next,
      elim c.if-check-carried.branch [ then-check-carried o ↦ o.errored-is ∙ ap (λ x. x + 1) before ∙ sym (count_yes b t (ap not (e ∙ ne_eqb check carried o.if-check-carried.true))) | else-check-carried o ↦ o.errored-is ∙ before ∙ sym (count_no b t (ap not (e ∙ eq-eqb check carried o.if-check-carried.false))) ],
    )

returns_2 : tie.Need-returns invariant_loop decreases_loop
returns_2 c =
    let l = c.before in
    let a = l.before.before.before.before.args in
    let e : l.loop-b.b ≡ a.n = omega arith in
    l.loop-b.invariant.2 ∙ ap (λ x. count x (differs a.s.now a.p)) e

pub judge_by_spec : {M : Type 1} → statement M
judge_by_spec =
    tie.close
    (tie.spec invariant_loop decreases_loop
    returns
    (λ c κs. let r = roomy c in room r.countable (omega (arith, r.there)))
    loop_holds
    (λ c. let r = roomy c.before.before.before in omega (arith, r.countable, r.there))
    (λ c. let r = roomy c.before.before.before in omega (arith, r.countable, r.there))
    block_check_requires
    (λ c. let r = roomy c.before.before.before.before in omega (arith, r.countable, r.there))
    (λ c κs. let r = roomy c.before.before.before.before in room r.countable (omega (arith, r.there)))
    add_errored
    (omega arith)
    (omega arith)
    loop_again
    returns_2)
