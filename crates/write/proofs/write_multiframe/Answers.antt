use Rattle.write.proofs.Parts.{multiframe_done}
use Rattle.write.proofs.write_multiframe.Goals as goal

pub returns-clause-out_after : goal.returns-clause-out_after
returns-clause-out_after g c =
    let a = c.args in
    let first = c.write_block-c in
    let second = c.write_block in
    (multiframe_done (g.P.Payload.octets a.payload.now) a.overhead.now a.k a.out.now first.new.out second.new.out first.result second.result
    c.requires.1 first.ensures.out_after first.ensures.value.0 second.ensures.out_after second.ensures.value.0).0

pub returns-clause-value : goal.returns-clause-value
returns-clause-value g c =
    let a = c.args in
    let first = c.write_block-c in
    let second = c.write_block in (
      (multiframe_done (g.P.Payload.octets a.payload.now) a.overhead.now a.k a.out.now first.new.out second.new.out first.result second.result
          c.requires.1 first.ensures.out_after first.ensures.value.0 second.ensures.out_after second.ensures.value.0).1,
      second.ensures.value.1,
    )
