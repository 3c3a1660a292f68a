use mathlib.Core.Bool.{true, false, not}
use mathlib.Core.Path.{refl, sym, ap, ◌∙◌}
use native.Mathlib.Omega.{arith}
use borrow.Author.Tests.{lt-ltb, le-ltb}
use lib.ListN.{length}
use Rattle.std.specs.Prelude.{◌*◌, ◌/◌}
use Rattle.std.proofs.lemmas.Result.{err_from_is_err_and}
use Rattle.base.specs.Number.{refusal_number}
use Rattle.base.proofs.NumberLaws.{refusal_above_0}
use Rattle.t1.specs.Payload.{superframes}
use Rattle.t1write.specs.Writing.{with_signals}
use Rattle.t1write.proofs.Calls.{fault_first_signalled, no_fault_signalled, sound_is, bits_are, signals_inputs, wrote_signalled, told_no, told_yes}
use Rattle.t1write.proofs.Signals.{length_signals}
use Rattle.t1write.proofs.write_signalled.Goals as goal

pub returns-in_err-fault : goal.returns-in_err-fault
returns-in_err-fault c =
    let a = c.args in
    let p = a.payload.now in
    let g = a.signalling.now in
    let r = err_from_is_err_and c.from_residual.result c.from_residual.ensures.1 in
    let e = c.in_err-fault.field-0.0 in
    let n = fault_first_signalled p a.link.now a.check (length a.out.now) g (refusal_number e) c.in_err-fault.ensures.number
    (refusal_above_0 e) in
    rw (r.1, r.2, c.in_err-fault.ensures.place)
    (wrote_signalled.1 (told_no _ (with_signals p g) a.link.now a.check a.out.now (refusal_number e) n (refusal_above_0 e)))

pub returns-then-not-are_bits : goal.returns-then-not-are_bits
returns-then-not-are_bits c =
    let a = c.args in
    let p = a.payload.now in
    let g = a.signalling.now in
    let n = no_fault_signalled p a.link.now a.check (length a.out.now) g (sym c.in_ok-fault.ensures.number) true _
    (ap not (sym c.are_bits.ensures ∙ c.if-not-are_bits.true)) refl in
    wrote_signalled.1 (told_no _ (with_signals p g) a.link.now a.check a.out.now 16 n (λ z. omega arith))

pub returns-then-out-n : goal.returns-then-out-n
returns-then-out-n c =
    let a = c.args in
    let p = a.payload.now in
    let g = a.signalling.now in
    let n = no_fault_signalled p a.link.now a.check (length a.out.now) g (sym c.in_ok-fault.ensures.number) false true
    (ap not (sym c.are_bits.ensures ∙ c.if-not-are_bits.false)) (lt-ltb _ _ c.if-out-n.true) in
    wrote_signalled.1 (told_no _ (with_signals p g) a.link.now a.check a.out.now 4 n (λ z. omega arith))

pub invariant_of-sent : goal.invariant_of-sent
invariant_of-sent c =
    record {
      bits = (bits_are c.args.signalling.now (96 * superframes c.args.payload.now)).0 (sym c.are_bits.ensures ∙ c.if-not-are_bits.false);
    }

pub write_all-requires : goal.write_all-requires
write_all-requires c =
    let a = c.args in
    let p = a.payload.now in (
      signals_inputs a.signalling.now ((sound_is p a.link.now a.check).0 (sym c.in_ok-fault.ensures.number)).inputs,
      c.if-out-n.false,
    )

pub returns : goal.returns
returns c =
    let a = c.args in
    let p = a.payload.now in
    let g = a.signalling.now in
    let n = no_fault_signalled p a.link.now a.check (length a.out.now) g (sym c.in_ok-fault.ensures.number) false false
    (ap not (sym c.are_bits.ensures ∙ c.if-not-are_bits.false)) (le-ltb _ _ c.if-out-n.false) in
    wrote_signalled.1
    (told_yes _ (with_signals p g) a.link.now a.check a.out.now n (superframes p) _ _ (ap (λ k. k / 576) (sym (length_signals p g)))
    c.write_all.ensures.value c.write_all.ensures.out_after)
