use Rattle.std.proofs.Common.{refl, sym, ap, ◌∙◌, arith, rules}
use Rattle.base.specs.Tab.{tab_from}
use Rattle.e1.specs.Block.{carried}
use Rattle.write.proofs.Laws.{block_carries}
use Rattle.write.proofs.Parts.{frame_more, block_done}
use Rattle.write.proofs.write_block.Goals as goal

pub loop-i-init : goal.loop-i-init
unfolding tab_from
loop-i-init g c = refl

pub loop-i-preserved : goal.loop-i-preserved
loop-i-preserved g c =
    let a = c.args in
    let l = c.loop-i in
    frame_more (g.P.Payload.octets a.payload.now) a.overhead.now a.k a.b l.i c.slot_0-slot.result l.out c.write_frame.new.out
    (omega arith) (omega arith) c.slot_0-slot.ensures (rw c.frame.ensures at c.write_frame.ensures) l.invariant

-- the block that is written carries k
pub block_check-requires : goal.block_check-requires
block_check-requires g c =
    let a = c.args in
    let p = g.P.Payload.octets a.payload.now in
    let e = block_done p a.overhead.now a.k a.b c.loop-i.i c.loop-i.out (omega arith) (omega arith) c.loop-i.invariant in
    (search rules, sym (ap (λ out. carried out 0) e ∙ block_carries p a.overhead.now a.k a.b c.requires.0.four_bits))

pub returns-clause-out_after : goal.returns-clause-out_after
returns-clause-out_after g c =
    let a = c.args in
    block_done (g.P.Payload.octets a.payload.now) a.overhead.now a.k a.b c.loop-i.i c.loop-i.out (omega arith) (omega arith) c.loop-i.invariant
