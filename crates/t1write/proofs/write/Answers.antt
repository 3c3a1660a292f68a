use mathlib.Core.Bool.{true, false}
use mathlib.Core.Path.{refl, sym}
use native.Mathlib.Omega.{arith}
use borrow.Author.Tests.{lt-ltb, le-ltb}
use lib.ListN.{length}
use Rattle.std.proofs.lemmas.Result.{err_from_is_err_and}
use Rattle.base.specs.Number.{refusal_number}
use Rattle.base.proofs.NumberLaws.{refusal_above_0}
use Rattle.t1.specs.Payload.{superframes}
use Rattle.t1write.proofs.Calls.{fault_first, no_fault, sound_is, wrote, told_no, told_yes}
use Rattle.t1write.proofs.write.Goals as goal

pub returns-in_err-fault : goal.returns-in_err-fault
returns-in_err-fault c =
    let a = c.args in
    let r = err_from_is_err_and c.from_residual.result c.from_residual.ensures.1 in
    let e = c.in_err-fault.field-0.0 in
    let n = fault_first a.payload.now a.link.now a.check (length a.out.now) (refusal_number e) c.in_err-fault.ensures.number (refusal_above_0 e) in
    rw (r.1, r.2, c.in_err-fault.ensures.place)
    (wrote.1 (told_no _ a.payload.now a.link.now a.check a.out.now (refusal_number e) n (refusal_above_0 e)))

pub returns-then-out-n : goal.returns-then-out-n
returns-then-out-n c =
    let a = c.args in
    let n = no_fault a.payload.now a.link.now a.check (length a.out.now) (sym c.in_ok-fault.ensures.number) true (lt-ltb _ _ c.if-out-n.true) in
    wrote.1 (told_no _ a.payload.now a.link.now a.check a.out.now 4 n (λ z. omega arith))

pub write_all-requires : goal.write_all-requires
write_all-requires c =
    let a = c.args in
    (((sound_is a.payload.now a.link.now a.check).0 (sym c.in_ok-fault.ensures.number)).inputs, c.if-out-n.false)

pub returns : goal.returns
returns c =
    let a = c.args in
    let p = a.payload.now in
    let n = no_fault p a.link.now a.check (length a.out.now) (sym c.in_ok-fault.ensures.number) false (le-ltb _ _ c.if-out-n.false) in
    wrote.1
    (told_yes _ p a.link.now a.check a.out.now n (superframes p) _ _ refl c.write_all.ensures.value c.write_all.ensures.out_after)
