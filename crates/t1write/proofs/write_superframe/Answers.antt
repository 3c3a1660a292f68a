use Prim.Native.Nat.{◌+◌, ◌-◌, ◌*◌, ◌/◌, ◌%◌, ◌^◌}
use mathlib.Core.Path.{◌≡◌, refl, sym, ap, ◌∙◌}
use native.Mathlib.Omega.{arith}
use Rattle.base.specs.Tab.{tab_from}
use Rattle.base.proofs.PartLaws.{part_more}
use Rattle.t1.specs.Superframe.{super_check}
use Rattle.t1.specs.Raw.{framing_of}
use Rattle.t1write.proofs.Parts.{line_octet, eight_part, superframe_done, superframe_framing, superframe_check}
use Rattle.t1write.proofs.write_superframe.Goals as goal

pub loop-a-init : goal.loop-a-init
unfolding tab_from
loop-a-init c = refl

pub loop-a-preserved : goal.loop-a-preserved
loop-a-preserved c =
    let o = c.args.octets.now in
    let l = c.args.link.now in
    let k = c.args.k in
    let a = c.loop-a.a in
    let n : 193 * (a + 1) ≡ 193 * a + 193 = omega arith in
    let w = eight_part o l k c.requires.1.bits a _ (omega arith) (ap (λ x. x / 2 ^ (16 - 8 * a) % 256) c.framing_of-framing.ensures.0)
    c.write_eight.new.out c.write_eight.ensures in
    rw n (part_more (line_octet o l k) (193 * a) (193 * a + 193) c.loop-a.out c.write_eight.new.out (omega arith)
    (omega (arith, c.loop-a.auto.out)) w c.loop-a.invariant)

pub returns-clause-out_after : goal.returns-clause-out_after
returns-clause-out_after c =
    superframe_done c.args.octets.now c.args.link.now c.args.k c.loop-a.a c.loop-a.out (omega arith) (omega (arith, c.loop-a.auto.out))
    c.loop-a.invariant

pub returns-clause-value : goal.returns-clause-value
returns-clause-value c =
    let o = c.args.octets.now in
    let l = c.args.link.now in
    let k = c.args.k in
    let e = superframe_done o l k c.loop-a.a c.loop-a.out (omega arith) (omega (arith, c.loop-a.auto.out)) c.loop-a.invariant in
    let f = ap (λ s. framing_of s 0) e ∙ superframe_framing o l k c.requires.1.bits in
    c.check_by.ensures.0 c.loop-a.out 0 c.of.ensures.0 (c.framing_of-framing.ensures.0 ∙ sym f)
    ∙ ap (λ s. super_check s 0) e ∙ superframe_check o l k c.requires.1.bits
