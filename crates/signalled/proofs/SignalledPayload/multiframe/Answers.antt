use Rattle.std.proofs.Common.{arith, length, ◌*◌, ◌+◌, ◌≤◌, ap, ◌∙◌}
use Rattle.signalled.specs.Slot16.{with_slot16}
use Rattle.signalled.proofs.Laws.{with_length}
use Rattle.signalled.proofs.Parts.{xy_part, abcd_part, part_with}
use Rattle.signalled.proofs.SignalledPayload.multiframe.Goals as goal

pub returns : goal.returns
returns c =
    let s = c.args.self.now in
    let m = c.args.m in
    let fits : 496 * m + 496 ≤ length s.payload.now = omega (arith, c.requires, with_length s.payload.now s.xy.now s.abcd.now) in
    ap (λ p. with_slot16 p (xy_part m s.xy.now) (abcd_part m s.abcd.now)) c.multiframe.ensures
    ∙ part_with s.xy.now s.abcd.now m s.payload.now fits
