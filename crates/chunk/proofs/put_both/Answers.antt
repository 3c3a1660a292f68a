use Rattle.std.proofs.Common.{◌+◌, ◌*◌, arith}
use Rattle.measure.specs.Reading.{payload_of, slot0_of}
use Rattle.measure.proofs.Laws.{payload_length, slot0_length}
use Rattle.chunk.proofs.BufferLaws.{two_outputs}
use Rattle.chunk.proofs.put_both.Goals as goal

pub returns-clause-payload : goal.returns-clause-payload
returns-clause-payload c =
    let a = c.args.near in
    let b = c.args.far in
    two_outputs (payload_of a.s.now a.q a.n) (payload_of b.s.now b.q b.n) c.args.payload.now _ _ (496 * a.n) (496 * b.n) (496 * (a.n + b.n))
    (payload_length a.s.now a.q a.n) c.payload_of.ensures c.payload_of-2.ensures (omega arith)

pub returns-clause-slot0 : goal.returns-clause-slot0
returns-clause-slot0 c =
    let a = c.args.near in
    let b = c.args.far in
    two_outputs (slot0_of a.s.now a.q a.n) (slot0_of b.s.now b.q b.n) c.args.slot0.now _ _ (16 * a.n) (16 * b.n) (16 * (a.n + b.n))
    (slot0_length a.s.now a.q a.n) c.slot0_of.ensures c.slot0_of-2.ensures (omega arith)
