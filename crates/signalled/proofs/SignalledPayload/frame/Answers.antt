use Rattle.std.proofs.Common.{sym, ap₂, ◌∙◌, arith, set, length, ◌*◌, ◌+◌, ◌≤◌}
use Rattle.signalled.proofs.Laws.{with_length}
use Rattle.signalled.proofs.Parts.{frame_with}
use Rattle.signalled.proofs.SignalledPayload.frame.Goals as goal

pub frame-octets-requires : goal.frame-octets-requires
frame-octets-requires c =
    let s = c.args.self.now in
    omega (arith, c.requires, with_length s.payload.now s.xy.now s.abcd.now)

pub returns : goal.returns
returns c =
    let s = c.args.self.now in
    let fits : 31 * c.args.f + 31 ≤ length s.payload.now = omega (arith, c.requires, with_length s.payload.now s.xy.now s.abcd.now) in
    ap₂ (λ l x. set l 15 x) c.frame-octets.ensures c.slot_16.ensures ∙ sym (frame_with s.payload.now s.xy.now s.abcd.now c.args.f fits)
