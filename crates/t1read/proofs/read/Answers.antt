use mathlib.Core.Path.{◌≡◌, refl, sym, ap, ◌∙◌}
use native.Mathlib.Omega.{arith}
use Rattle.std.specs.Option.{ok_or}
use Rattle.std.proofs.lemmas.Result.{err_from_is_err_and}
use Rattle.t1read.proofs.Answers.{same_error}
use Rattle.base.specs.declared.Refused.TheVariants.{NoFrames}
use Rattle.t1align.proofs.Laws.{none_stands}
use Rattle.t1read.specs.Entry.{GoodLength}
use Rattle.t1read.proofs.EntryLaws.{number_1, number_2, number_3, refused_4, accepts, refused_as}
use Rattle.t1read.proofs.Answers.{neither_shorter, measured, accepted_as}
use Rattle.t1read.proofs.read.Goals as goal
use Rattle.t1read.proofs.read.Goals.{In_ok-place, Else-payload-whole}

pub returns-then-image-lt1158 : goal.returns-then-image-lt1158
returns-then-image-lt1158 c =
    let a = c.args in
    refused_as a.image.now a.payload.now a.link.now 0 ((number_1 a.image.now _ _).1 (omega arith))

pub returns-then-image-gt8192 : goal.returns-then-image-gt8192
returns-then-image-gt8192 c =
    let a = c.args in
    refused_as a.image.now a.payload.now a.link.now 1 ((number_2 a.image.now _ _).1 (omega arith))

pub returns-in_err-place : goal.returns-in_err-place
returns-in_err-place c =
    let a = c.args in
    let good : GoodLength c.args.image.now = record { long = c.if-image-lt1158.false; short = c.if-image-gt8192.false } in
    let none = c.in_err-place.ensures.ok_part in
    let e = err_from_is_err_and c.from_residual.result c.from_residual.ensures.1 in
    let why : c.in_err-place.field-0.0 ≡ NoFrames
    = same_error (c.in_err-place.ensures.value ∙ ap (λ o. ok_or o NoFrames) none) in
    rw (e.1, e.2, why) (refused_as a.image.now a.payload.now a.link.now 2
    ((number_3 a.image.now _ _ good).1 ((none_stands a.image.now).0 (sym c.find.ensures ∙ none))))

pub overflow_sub-whole : goal.overflow_sub-whole
overflow_sub-whole c =
    let good : GoodLength c.args.image.now = record { long = c.if-image-lt1158.false; short = c.if-image-gt8192.false } in
    let m = measured c.args.image.now good c.in_ok-place.place (sym c.find.ensures ∙ c.in_ok-place.ensures.ok_part) _ refl in
    omega (arith, m.room.there)

pub returns-then-payload-whole : goal.returns-then-payload-whole
returns-then-payload-whole c =
    let a = c.args in
    let s = a.image.now in
    let good : GoodLength c.args.image.now = record { long = c.if-image-lt1158.false; short = c.if-image-gt8192.false } in
    let e = sym c.find.ensures ∙ c.in_ok-place.ensures.ok_part in
    let m = measured s good c.in_ok-place.place e _ refl in
    refused_as s a.payload.now a.link.now 3 (refused_4 s _ _ good _ e (rw m.of at c.if-payload-whole.true))

pub payload_of-requires : goal.payload_of-requires
payload_of-requires c =
    let good : GoodLength c.args.image.now = record { long = c.if-image-lt1158.false; short = c.if-image-gt8192.false } in
    let m = measured c.args.image.now good c.in_ok-place.place (sym c.find.ensures ∙ c.in_ok-place.ensures.ok_part) _ refl in
    (m.room, (neither_shorter c.if-payload-whole.false).0)

pub judge-errored-requires : goal.judge-errored-requires
judge-errored-requires c =
    let good : GoodLength c.args.image.now = record { long = c.if-image-lt1158.false; short = c.if-image-gt8192.false } in
    let m = measured c.args.image.now good c.in_ok-place.place (sym c.find.ensures ∙ c.in_ok-place.ensures.ok_part) _ refl in
    (m.room, omega (arith, m.two), (neither_shorter c.if-payload-whole.false).1)

pub overflow_sub-result : goal.overflow_sub-result
overflow_sub-result c =
    let good : GoodLength c.args.image.now = record { long = c.if-image-lt1158.false; short = c.if-image-gt8192.false } in
    let m = measured c.args.image.now good c.in_ok-place.place (sym c.find.ensures ∙ c.in_ok-place.ensures.ok_part) _ refl in
    omega (arith, m.two)

pub returns : goal.returns
returns c =
    let a = c.args in
    let s = a.image.now in
    let good : GoodLength c.args.image.now = record { long = c.if-image-lt1158.false; short = c.if-image-gt8192.false } in
    let e = sym c.find.ensures ∙ c.in_ok-place.ensures.ok_part in
    let m = measured s good c.in_ok-place.place e _ refl in
    accepted_as s good c.in_ok-place.place e _ refl a.payload.now a.link.now _ _ _
    (accepts s _ _ good _ e (rw m.of at c.if-payload-whole.false))
    c.judge-errored.ensures.value c.payload_of.ensures c.judge-errored.ensures.link_after
