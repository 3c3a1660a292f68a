-- `write` meets its contract, refused and accepted.
use Rattle.std.proofs.Common.{sym, ◌∙◌, length}
use Rattle.std.proofs.lemmas.Result.{err_from_is_err_and}
use Rattle.base.specs.declared.Refused.TheVariants.{NoRoom}
use Rattle.write.proofs.Calls.{fault_first, room_short, sound, refused, taken, accepted_call}
use Rattle.write.proofs.write.Goals as goal

pub returns-in_err-fault : goal.returns-in_err-fault
returns-in_err-fault c =
    let a = c.args in
    let r = err_from_is_err_and c.from_residual.result c.from_residual.ensures.1 in
    let e = fault_first a.payload.now a.overhead.now a.check (length a.out.now) c.in_err-fault.field-0.0 c.in_err-fault.ensures in
    rw (r.1, r.2) (refused a.payload.now a.overhead.now a.check a.out.now c.in_err-fault.field-0.0 e)

pub returns-then-out-n : goal.returns-then-out-n
returns-then-out-n c =
    let a = c.args in
    let e = room_short a.payload.now a.overhead.now a.check (length a.out.now) c.in_ok-fault.ensures c.if-out-n.true in
    refused a.payload.now a.overhead.now a.check a.out.now NoRoom e

pub write_all-requires : goal.write_all-requires
write_all-requires c =
    let a = c.args in
    let z = sound a.payload.now a.overhead.now a.check (length a.out.now) c.in_ok-fault.ensures c.if-out-n.false in
    let k = accepted_call a.payload.now a.overhead.now a.check (length a.out.now) (sym z) in
    (k.inputs, k.room)

pub returns : goal.returns
returns c =
    let a = c.args in
    let z = sound a.payload.now a.overhead.now a.check (length a.out.now) c.in_ok-fault.ensures c.if-out-n.false in
    taken a.payload.now a.overhead.now a.check a.out.now c.from.result c.write_all.new.out z
    (c.from.ensures ∙ c.write_all.ensures.value) c.write_all.ensures.out_after
