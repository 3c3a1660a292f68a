-- `slot0_of` meets its contract: at the head of the loop the slots 0 before frame f are written, and the rest is as it
-- was.
use Prim.Native.Nat.{◌+◌, ◌≤◌, ◌*◌, ◌-◌, ◌/◌}
use mathlib.Core.Path.{◌≡◌, refl, ◌∙◌, ap}
use mathlib.Core.List.{◌++◌}
use native.Mathlib.Omega.{arith}
use lib.Bits.{bit_and, and_le_r}
use lib.ListN.{length, drop, length-set}
use Rattle.line.specs.Bit.{octet_at}
use Rattle.line.proofs.BitLaws.{place_in}
use Rattle.base.specs.Tab.{tab_from}
use Rattle.measure.specs.Reading.{slots0}
use Rattle.measure.proofs.Slots.{slot0_more}
use Rattle.measure.proofs.slot0_of.Statement.{statement}
use Rattle.measure.proofs.slot0_of.Tie as tie

abbrev invariant_loop : tie.invariant-loop-f
invariant_loop s q g out₀ i o f₀ f-end out f = (f ≤ 16 * g) × (length out ≡ length out₀) × (out ≡ slots0 s q f ++ drop f out₀)

abbrev decreases_loop : tie.decreases-loop-f
decreases_loop s q g out₀ i o f₀ f-end out f = 16 * g - f

loop_again : tie.Need-loop-f-preserved invariant_loop decreases_loop
loop_again c =
    let l = c.before.before in
    let a = l.before.before.before.args in
    let f = l.loop-f.f in
    let at : 8 * (a.q / 8 + 32 * f) + bit_and a.q 7 ≡ a.q + 256 * f + 8 * 0 = omega (arith, place_in a.q) in (
      omega arith,
      simp length-set l.loop-f.invariant.1,
      slot0_more a.s.now a.out.now l.loop-f.out a.q f c.octet_in-v.result
          (omega arith) (c.octet_in-v.ensures ∙ ap (octet_at a.s.now) at) l.loop-f.invariant.2,
    )

returns : tie.Need-returns invariant_loop decreases_loop
returns c =
    let l = c.before in
    let a = l.before.before.before.args in
    let e : l.loop-f.f ≡ 16 * a.g = omega arith in
    l.loop-f.invariant.2 ∙ ap (λ f. slots0 a.s.now a.q f ++ drop f a.out.now) e

octet_in_requires : tie.Need-octet_in-v-requires invariant_loop decreases_loop
octet_in_requires c κs =
    let q = c.before.before.before.before.args.q in (omega (arith, place_in q), omega (arith, and_le_r q 7))

pub slot0_of_spec : {M : Type 1} → statement M
unfolding slots0 tab_from
slot0_of_spec =
    tie.close
    (tie.spec invariant_loop decreases_loop
    (omega arith)
    (λ c. (omega arith, refl, refl))
    (omega arith)
    (omega arith)
    octet_in_requires
    (omega arith)
    (omega arith)
    (omega arith)
    loop_again
    (omega arith)
    returns)
