-- The octet of frame f is that of its slot 16.
use Rattle.std.proofs.Common.{◌≡◌, ℕ, ◌+◌, ◌*◌, ◌/◌, take, set, refl, ap, ◌∙◌, arith, bit_and}
use lib.Seq.{take_at, length-take-le}
use lib.ListN.{length-set}
use Rattle.line.proofs.BitLaws.{place_in}
use Rattle.line.specs.Bit.{octet_at}
use Rattle.base.specs.Tab.{tab_from}
use Rattle.base.proofs.TabLaws.{fill_more, tab_fill}
use Rattle.e1.specs.Frame.{slot_at}
use Rattle.signals.specs.Entry.{slot16_of}
use Rattle.signals.proofs.slot16_of.Goals as goal

pub loop-f-init : goal.loop-f-init
unfolding tab_from
loop-f-init c = (length-take-le (16 * c.args.g) _ (omega arith), refl)

pub loop-f-preserved : goal.loop-f-preserved
loop-f-preserved c =
    let l = c.loop-f in
    let a = c.args in
    let p = 8 * (a.q / 8 + 32 * l.f + 16) + bit_and a.q 7 in
    let its : c.octet_in.result ≡ octet_at a.s.now p = c.octet_in.ensures in
    let at : p ≡ slot_at a.q l.f 16 = omega (arith, place_in a.q) in
    let o : ℕ → ℕ = λ f. octet_at a.s.now (slot_at a.q f 16) in (
      simp length-set l.invariant.0,
      ap (λ x. take (l.f + 1) (set l.octet-items l.f x)) (its ∙ ap (octet_at a.s.now) at)
          ∙ fill_more l.octet-items l.f o (omega arith) l.invariant.1,
    )

pub returns : goal.returns
unfolding slot16_of
returns c =
    let l = c.loop-f in
    let a = c.args in
    let e : l.f ≡ 16 * a.g = omega arith in
    take_at l.octet-items _ (16 * a.g) l.invariant.0
    ∙ tab_fill l.octet-items (16 * a.g) (λ f. octet_at a.s.now (slot_at a.q f 16)) (omega arith) (rw e at l.invariant.1)
