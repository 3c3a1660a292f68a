-- `mark_of` meets its contract: a test for each case of the definition.
use Rattle.std.proofs.Common.{arith, lt-ltb, le-ltb}
use Rattle.drawing.specs.Marks.{mark_of}
use Rattle.drawing.proofs.multiframes.mark_of.Goals as goal

pub returns-then-r-b : goal.returns-then-r-b
unfolding mark_of
returns-then-r-b c = rw (le-ltb c.args.b c.args.line.r.compared (omega arith))

pub returns-then-agrees : goal.returns-then-agrees
unfolding mark_of
returns-then-agrees c =
    rw (lt-ltb c.args.b c.args.line.r.compared (omega arith), ← c.agrees.ensures, c.if-agrees.true)

pub returns : goal.returns
unfolding mark_of
returns c = rw (lt-ltb c.args.b c.args.line.r.compared (omega arith), ← c.agrees.ensures, c.if-agrees.false)
