-- `hear` adds the frames of 12 multiframes at most.
use Rattle.std.proofs.Common.{◌+◌, arith}
use Rattle.watch.proofs.Counts.{adds_then, adds_within}
use Rattle.watch.proofs.ear.Heard.hear.Goals as goal

pub returns-in_err-hear_frame : goal.returns-in_err-hear_frame
returns-in_err-hear_frame g c =
    let l = c.loop-f in
    adds_within _ _ (l.f + 1) 192 (omega (arith, l.auto.f-end, c.loop-f-test.true, c.requires.1))
    (adds_then _ l.self.now _ l.f 1 l.invariant c.hear_frame.ensures)

pub loop-f-preserved : goal.loop-f-preserved
loop-f-preserved g c = adds_then _ c.loop-f.self.now _ c.loop-f.f 1 c.loop-f.invariant c.hear_frame.ensures
