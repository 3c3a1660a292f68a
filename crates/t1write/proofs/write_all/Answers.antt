use Rattle.std.proofs.Common.{arith, refl}
use Rattle.base.specs.Tab.{tab_from}
use Rattle.line.specs.Spelt.{packed}
use Rattle.t1write.specs.Writing.{carries, written}
use Rattle.t1write.proofs.Parts.{part_later, all_more}
use Rattle.t1write.proofs.write_all.Goals as goal

pub loop-m-init : goal.loop-m-init
unfolding written carries packed tab_from
loop-m-init g c = (refl, refl, refl)

pub loop-m-preserved : goal.loop-m-preserved
loop-m-preserved g c =
    let a = c.args in
    let w = c.write_at-k in
    let i = c.loop-m.invariant in
    let e = all_more (part_later (g.S.Sent.octets a.sent.now) a.link.now c.loop-m.m) a.check c.loop-m.k w.result c.loop-m.out
    w.new.out a.out.now (omega (arith, c.loop-m.auto.out)) i.0 w.ensures.out_after w.ensures.value i.1 i.2 in
    (e.2, e.0, e.1)
