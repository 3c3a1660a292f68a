-- One is read, but no more than 15, and the last is there.
use Rattle.std.proofs.Common.{◌-◌, arith, ltb-true}
use mathlib.Core.Bool.{and-eq-true_iff}
use lib.Dec.{ltb}
use Rattle.signals.proofs.Found.{found_few, found_within, xy_last, xy_none}
use Rattle.signals.proofs.Followed.xy.Goals as goal

pub offset_bounds-self-self : goal.offset_bounds-self-self
offset_bounds-self-self c = omega (arith, found_few c.args.t.now c.args.self.now c.requires.1 c.requires.0)

pub bounds-self-self : goal.bounds-self-self
bounds-self-self c = omega (arith, found_few c.args.t.now c.args.self.now c.requires.1 c.requires.0)

pub bounds-t-self : goal.bounds-t-self
bounds-t-self c =
    let r = c.args.self.now in
    let k = ltb-true 0 r.multiframes ((and-eq-true_iff r.held (ltb 0 r.multiframes)).0 c.if-self.true).1 in
    omega (arith, found_within c.args.t.now r c.requires.1 (r.multiframes - 1) (omega arith))

pub returns-then-self : goal.returns-then-self
returns-then-self c = xy_last c.args.t.now c.args.self.now c.requires.1 c.if-self.true

pub returns : goal.returns
returns c = xy_none c.args.t.now c.args.self.now c.requires.1 c.if-self.false
