use mathlib.Core.Path.{sym, ap, ◌∙◌}
use native.Mathlib.Nat.{add-zero}
use native.Mathlib.Omega.{arith}
use lib.ListN.{get_or, length-set}
use Rattle.line.specs.Window.{bit_of}
use Rattle.align.specs.Window.{SignalFrom}
use Rattle.align.proofs.Rows.{put_more}
use Rattle.align.proofs.signals.Goals as goal

pub loop-k-preserved : goal.loop-k-preserved
loop-k-preserved c =
    let m = c.args.m.now in
    let g = c.loop-k.g in
    let k = c.loop-k.k in
    let here : SignalFrom m k c.signal_in.result
    = λ n h e. c.signal_in.ensures n h
    (ap (λ i. bit_of (get_or m i 0) n) (sym (add-zero k)) ∙ e 0 (omega arith))
    (e 1 (omega arith)) (e 2 (omega arith)) (e 3 (omega arith)) (e 4 (omega arith)) (e 5 (omega arith)) in
    (length-set g k _ ∙ c.loop-k.invariant.0, put_more (SignalFrom m) g k _ (omega arith) c.loop-k.invariant.1 here)
