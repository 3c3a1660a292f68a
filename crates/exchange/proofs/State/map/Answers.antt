-- Refused by its number, or every frame is mapped.
use Rattle.std.proofs.Common.{◌≡◌, ◌+◌, ◌-◌, ◌*◌, ◌++◌, length, take, drop, ap, sym, ◌∙◌, arith, lt-ltb, le-ltb}
use Rattle.base.proofs.PartLaws.{part_length}
use Rattle.exchange.specs.Mapping.{map_refusal}
use Rattle.exchange.proofs.Parts.{refused, done_none, done_more, entries_small, entries_same, whole_frames, all_done}
use Rattle.exchange.proofs.State.map.Goals as goal

pub returns-then-not-is_sized : goal.returns-then-not-is_sized
unfolding map_refusal
returns-then-not-is_sized c =
    let a = c.args in
    let e = sym c.is_sized.ensures ∙ c.if-not-is_sized.true in
    refused a.self.now.live a.payload.now a.out.now 5 (λ z. omega arith) (rw e)

pub returns-then-out-n : goal.returns-then-out-n
unfolding map_refusal
returns-then-out-n c =
    let a = c.args in
    let e = sym c.is_sized.ensures ∙ c.if-not-is_sized.false in
    refused a.self.now.live a.payload.now a.out.now 4 (λ z. omega arith) (rw (e, lt-ltb _ _ c.if-out-n.true))

pub loop-f-init : goal.loop-f-init
loop-f-init c = done_none c.entries-map.result c.args.payload.now c.args.out.now

pub map_frame-requires : goal.map_frame-requires
map_frame-requires c =
    let i = 31 * c.loop-f.f in
    let n : i + 31 - i ≡ 31 = omega arith in (
      entries_small c.args.self.now.live c.entries-map.result c.entries-map.ensures,
      part_length i (i + 31) c.args.payload.now (omega arith) ∙ n,
      part_length i (i + 31) c.loop-f.out (omega arith) ∙ n,
    )

pub loop-f-preserved : goal.loop-f-preserved
loop-f-preserved c =
    let l = c.loop-f in
    done_more c.entries-map.result c.args.payload.now c.args.out.now l.f (omega arith) l.out _ l.invariant c.map_frame.ensures

pub returns : goal.returns
unfolding map_refusal
returns c =
    let l = c.loop-f in
    let a = c.args in
    let m = c.entries-map in
    let p = a.payload.now in
    let d = a.out.now in
    let e = sym c.is_sized.ensures ∙ c.if-not-is_sized.false in
    let n = whole_frames (length p) e in
    let u = ap (λ x. x ++ drop (31 * l.f) d) (entries_same a.self.now.live m.result (take (31 * l.f) p) m.ensures) in
    all_done a.self.now.live p d l.out l.f (omega arith) (l.invariant ∙ u) (rw (e, le-ltb _ _ c.if-out-n.false))
