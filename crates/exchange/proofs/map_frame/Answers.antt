-- Each octet is that of the mapped frame.
use Rattle.std.proofs.Common.{◌≡◌, ◌+◌, length, take, get_or, set, refl, ap, ◌∙◌, arith}
use Rattle.base.specs.Tab.{tab_from}
use Rattle.base.proofs.TabLaws.{fill_more, tab_fill}
use Rattle.exchange.specs.Mapping.{mapped_payload}
use Rattle.exchange.proofs.MapLaws.{octet_of}
use Rattle.exchange.proofs.Parts.{slot_taken}
use Rattle.exchange.proofs.map_frame.Goals as goal

pub loop-i-init : goal.loop-i-init
unfolding tab_from
loop-i-init c = refl

pub loop-i-preserved : goal.loop-i-preserved
loop-i-preserved c =
    let l = c.loop-i in
    let m = c.args.map.now in
    let f = c.args.frame.now in
    let v = ap (λ x. get_or x (get_or m (l.i + 1) 0) 0) c.slots-slots.ensures ∙ slot_taken m f l.i (omega arith) (c.requires.0 (l.i + 1) (omega arith)) in
    ap (λ x. take (l.i + 1) (set l.out l.i x)) v ∙ fill_more l.out l.i (octet_of m f) (omega arith) l.invariant

pub returns : goal.returns
unfolding mapped_payload
returns c =
    let l = c.loop-i in
    let a = c.args in
    let e : l.i ≡ length a.frame.now = omega arith in
    tab_fill l.out (length a.frame.now) (octet_of a.map.now a.frame.now) (omega arith) (rw e at l.invariant)
