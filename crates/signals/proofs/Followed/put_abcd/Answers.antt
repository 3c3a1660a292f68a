-- Each signalling multiframe that is read has its part.
use Rattle.std.proofs.Common.{rules, arith, get_or-take}
use Rattle.signals.proofs.Found.{found_few}
use Rattle.signals.proofs.Filling.{none_filled, room, there, filled_more, all_filled}
use Rattle.signals.proofs.Followed.put_abcd.Goals as goal

pub shared_ref_as_front-start-items : goal.shared_ref_as_front-start-items
shared_ref_as_front-start-items c = omega (arith, found_few c.args.t.now c.args.self.now c.requires.1 c.requires.0)

pub loop-m-init : goal.loop-m-init
loop-m-init c = none_filled c.args.t.now c.args.out.now c.args.self.now c.requires.1 c.requires.0 c.requires.2

pub overflow_add-f : goal.overflow_add-f
overflow_add-f c =
    let r = c.args.self.now in
    let e = get_or-take r.multiframes r.starts c.loop-m.m 0 (omega arith) in
    omega (arith, e, there c.loop-m.invariant (omega arith), c.loop-m.invariant.short)

pub slice_bounds-put_channels-end : goal.slice_bounds-put_channels-end
slice_bounds-put_channels-end c =
    let r = c.args.self.now in
    let e = get_or-take r.multiframes r.starts c.loop-m.m 0 (omega arith) in
    let h = there c.loop-m.invariant (omega arith) in
    search rules

pub slice_bounds-put_channels-end-in-loop-m : goal.slice_bounds-put_channels-end-in-loop-m
slice_bounds-put_channels-end-in-loop-m c = let h = room c.loop-m.invariant (omega arith) in search rules

pub loop-m-preserved : goal.loop-m-preserved
loop-m-preserved c =
    let r = c.args.self.now in
    let e = get_or-take r.multiframes r.starts c.loop-m.m 0 (omega arith) in
    filled_more c.loop-m.invariant (omega arith) c.put_channels.new.out (rw e at c.put_channels.ensures)

pub returns : goal.returns
returns c = all_filled c.loop-m.invariant (omega arith)
