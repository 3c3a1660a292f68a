-- `write_signalled` meets its contract, refused and accepted.
use Rattle.std.proofs.Common.{sym, ◌∙◌, length}
use Rattle.std.proofs.lemmas.Result.{err_from_is_err_and}
use Rattle.base.specs.declared.Refused.TheVariants.{NoRoom, Signalling}
use Rattle.signalled.proofs.Calls.{fault_first, faultless, no_signals, room_short, sound, refused, taken, accepted_inputs, accepted_whole, accepted_given}
use Rattle.signalled.proofs.write_signalled.Goals as goal

pub returns-in_err-fault : goal.returns-in_err-fault
returns-in_err-fault c =
    let a = c.args in
    let r = err_from_is_err_and c.from_residual.result c.from_residual.ensures.1 in
    let d = c.in_err-fault.field-0.0 in
    let e = fault_first a.payload.now a.overhead.now a.check a.xy.now a.abcd.now (length a.out.now) d c.in_err-fault.ensures in
    rw (r.1, r.2) (refused a.payload.now a.overhead.now a.check a.xy.now a.abcd.now a.out.now d e)

pub signals_fit-requires : goal.signals_fit-requires
signals_fit-requires c = let a = c.args in faultless a.payload.now a.overhead.now a.check c.in_ok-fault.ensures

pub returns-then-not-signals_fit : goal.returns-then-not-signals_fit
returns-then-not-signals_fit c =
    let a = c.args in
    let e = no_signals a.payload.now a.overhead.now a.check a.xy.now a.abcd.now (length a.out.now) c.in_ok-fault.ensures
    (sym c.if-not-signals_fit.ensures) in
    refused a.payload.now a.overhead.now a.check a.xy.now a.abcd.now a.out.now Signalling e

pub returns-then-out-n : goal.returns-then-out-n
returns-then-out-n c =
    let a = c.args in
    let e = room_short a.payload.now a.overhead.now a.check a.xy.now a.abcd.now (length a.out.now) c.in_ok-fault.ensures
    (sym c.if-not-signals_fit.ensures) c.if-out-n.true in
    refused a.payload.now a.overhead.now a.check a.xy.now a.abcd.now a.out.now NoRoom e

pub invariant_of-payload : goal.invariant_of-payload
invariant_of-payload c =
    let a = c.args in
    let z = sym (sound a.payload.now a.overhead.now a.check a.xy.now a.abcd.now (length a.out.now) c.in_ok-fault.ensures
    (sym c.if-not-signals_fit.ensures) c.if-out-n.false) in
    record {
      whole = accepted_whole a.payload.now a.overhead.now a.check a.xy.now a.abcd.now (length a.out.now) z;
      given = accepted_given a.payload.now a.overhead.now a.check a.xy.now a.abcd.now (length a.out.now) z;
    }

pub write_all-requires : goal.write_all-requires
write_all-requires c =
    let a = c.args in
    let z = sym (sound a.payload.now a.overhead.now a.check a.xy.now a.abcd.now (length a.out.now) c.in_ok-fault.ensures
    (sym c.if-not-signals_fit.ensures) c.if-out-n.false) in
    (accepted_inputs a.payload.now a.overhead.now a.check a.xy.now a.abcd.now (length a.out.now) z, c.if-out-n.false)

pub returns : goal.returns
returns c =
    let a = c.args in
    let z = sound a.payload.now a.overhead.now a.check a.xy.now a.abcd.now (length a.out.now) c.in_ok-fault.ensures
    (sym c.if-not-signals_fit.ensures) c.if-out-n.false in
    taken a.payload.now a.overhead.now a.check a.xy.now a.abcd.now a.out.now c.from.result c.write_all.new.out z
    (c.from.ensures ∙ c.write_all.ensures.value) c.write_all.ensures.out_after
