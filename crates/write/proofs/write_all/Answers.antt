use Rattle.std.proofs.Common.{◌<◌, ◌*◌, ◌+◌, refl, ap, ◌∙◌, arith}
use Rattle.base.proofs.PartLaws.{part_length}
use Rattle.write.specs.Writing.{carries, written}
use Rattle.write.proofs.Laws.{carries_lt}
use Rattle.write.proofs.Parts.{overhead_part, part_inputs, all_more, all_done}
use Rattle.write.proofs.write_all.Goals as goal

pub loop-m-init : goal.loop-m-init
unfolding written carries
loop-m-init g c = (refl, refl, refl)

pub write_multiframe-c-requires : goal.write_multiframe-c-requires
write_multiframe-c-requires g c =
    let a = c.args in
    let l = c.loop-m in
    let p = g.P.Payload.octets a.payload.now in
    let k : l.c < 16 = rw l.invariant.0 (carries_lt p a.overhead.now a.check (2 * l.m) c.requires.0.four_bits) in (
      rw c.multiframe.ensures (part_inputs p a.overhead.now a.check a.n l.m l.c c.requires.0 (omega arith) k),
      part_length (512 * l.m) (512 * l.m + 512) l.out (omega arith) ∙ omega arith,
    )

pub loop-m-preserved : goal.loop-m-preserved
loop-m-preserved g c =
    let a = c.args in
    let l = c.loop-m in
    let p = g.P.Payload.octets a.payload.now in
    let w = c.write_multiframe-c in
    let part = c.multiframe.ensures in
    all_more p a.overhead.now a.check l.m l.c w.result l.out w.new.out a.out.now (omega arith) l.invariant.0
    (w.ensures.out_after ∙ ap (λ q. written q (overhead_part l.m a.overhead.now) l.c 2) part)
    (w.ensures.value.0 ∙ ap (λ q. carries q (overhead_part l.m a.overhead.now) l.c 2) part) l.invariant.1 l.invariant.2

pub returns : goal.returns
returns g c =
    let a = c.args in
    let l = c.loop-m in
    let e = all_done (g.P.Payload.octets a.payload.now) a.overhead.now a.check l.m a.n l.c l.out a.out.now
    (omega arith) l.invariant.0 l.invariant.1 l.invariant.2 in
    record { out_after = e.0; value = e.1 }
