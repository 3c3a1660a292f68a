use Rattle.std.proofs.Common.{◌≡◌, ℕ, ◌*◌, ◌≤◌, ◌||◌, false, length, refl, ap, ◌∙◌, arith}
use Rattle.std.proofs.lemmas.Result.{err_from_is_err_and}
use mathlib.Mathlib.Data.Bool.Basic.{or-eq-false-eq-eq-false-and-eq-false}
use borrow.Author.Tests.{ltb-false}
use lib.Dec.{ltb}
use Rattle.measure.specs.Reading.{disagreeing, errored}
use Rattle.read.proofs.Measures.{places, unplaced_read, short_read, all_read}
use Rattle.read.proofs.read.Goals as goal

pub returns-in_err-located : goal.returns-in_err-located
returns-in_err-located c =
    let r = err_from_is_err_and c.from_residual.result c.from_residual.ensures.1 in
    rw (r.1, r.2) (unplaced_read c.args.image.now c.in_err-located.field-0.0 c.in_err-located.ensures c.args.payload.now c.args.slot0.now)

pub overflow_mul-used : goal.overflow_mul-used
overflow_mul-used c = omega (arith, (places c.args.image.now c.in_ok-located.located c.in_ok-located.ensures).few)

pub overflow_mul-used-2 : goal.overflow_mul-used-2
overflow_mul-used-2 c = omega (arith, (places c.args.image.now c.in_ok-located.located c.in_ok-located.ensures).few)

pub returns-then-payload-used : goal.returns-then-payload-used
returns-then-payload-used c =
    (short_read c.args.image.now c.in_ok-located.located c.in_ok-located.ensures c.args.payload.now c.args.slot0.now).0 c.if-payload-used.true

-- the blocks that are compared, and the one after them, are there
pub judge-errored-requires : goal.judge-errored-requires
judge-errored-requires c =
    let r = (places c.args.image.now c.in_ok-located.located c.in_ok-located.ensures).room in
    λ l. record { countable = r.countable; there = omega (arith, c.compared-compared.ensures) }

pub far_end-farend-requires : goal.far_end-farend-requires
far_end-farend-requires c = (places c.args.image.now c.in_ok-located.located c.in_ok-located.ensures).room

-- the outputs have room
fits : (a b g : ℕ) → ltb a (496 * g) || ltb b (16 * g) ≡ false → (496 * g ≤ a) × (16 * g ≤ b)
fits a b g e =
    let f = (or-eq-false-eq-eq-false-and-eq-false (ltb a (496 * g)) (ltb b (16 * g))).0 e in
    (ltb-false a (496 * g) f.0, ltb-false b (16 * g) f.1)

pub payload_of-requires : goal.payload_of-requires
payload_of-requires c = (
  (places c.args.image.now c.in_ok-located.located c.in_ok-located.ensures).room,
  (fits (length c.args.payload.now) (length c.args.slot0.now) c.in_ok-located.located.used c.if-payload-used.false).0,
)

pub slot0_of-requires : goal.slot0_of-requires
slot0_of-requires c = (
  (places c.args.image.now c.in_ok-located.located c.in_ok-located.ensures).room,
  (fits (length c.args.payload.now) (length c.args.slot0.now) c.in_ok-located.located.used c.if-payload-used.false).1,
)

pub returns : goal.returns
unfolding errored
returns c =
    let s = c.args.image.now in
    let l = c.in_ok-located.located in
    let p = c.args.payload.now in
    let o = c.args.slot0.now in
    all_read s l c.in_ok-located.ensures p o _ _ _ ((short_read s l c.in_ok-located.ensures p o).1 c.if-payload-used.false)
    refl refl refl refl refl refl c.compared-compared.ensures
    (c.judge-errored.ensures ∙ ap (disagreeing s l.start) c.compared-compared.ensures)
    c.far_end-farend.ensures refl c.payload_of.ensures c.slot0_of.ensures
