use native.Mathlib.Omega.{arith}
use Rattle.std.proofs.Common.{ap, ◌∙◌}
use Rattle.t1write.specs.Writing.{carries, written}
use Rattle.t1write.proofs.Parts.{signals_superframe}
use Rattle.t1write.proofs.Signals.{length_signals}
use Rattle.t1write.proofs.SignalledSent.write_at.Goals as goal

pub overflow_mul-p : goal.overflow_mul-p
overflow_mul-p c = let s = c.args.self.now in omega (arith, length_signals s.payload.now s.signalling.now)

pub overflow_mul-g : goal.overflow_mul-g
overflow_mul-g c = let s = c.args.self.now in omega (arith, length_signals s.payload.now s.signalling.now)

pub overflow_add-p : goal.overflow_add-p
overflow_add-p c = let s = c.args.self.now in omega (arith, length_signals s.payload.now s.signalling.now)

pub slice_bounds-replaced-end : goal.slice_bounds-replaced-end
slice_bounds-replaced-end c = let s = c.args.self.now in omega (arith, length_signals s.payload.now s.signalling.now)

pub returns-clause-out_after : goal.returns-clause-out_after
returns-clause-out_after c =
    let a = c.args in
    let s = a.self.now in
    let e = signals_superframe s.payload.now s.signalling.now a.m (omega (arith, length_signals s.payload.now s.signalling.now)) in
    c.write_superframe.ensures.out_after ∙ ap (λ o. written o a.link.now a.k 1) (c.replaced-octets.ensures ∙ e)

pub returns-clause-value : goal.returns-clause-value
returns-clause-value c =
    let a = c.args in
    let s = a.self.now in
    let e = signals_superframe s.payload.now s.signalling.now a.m (omega (arith, length_signals s.payload.now s.signalling.now)) in
    c.write_superframe.ensures.value ∙ ap (λ o. carries o a.k 1) (c.replaced-octets.ensures ∙ e)
