-- What locating refuses, number 4, or what is found in slot 16 of the frames that are used.
use Rattle.std.proofs.Common.{◌≡◌, List, ◌*◌, ◌≤◌, length, take, sym, ap, ap₂, ◌∙◌, arith, lt-ltb, le-ltb, true, false, ℕ}
use Rattle.std.specs.Prelude.{Ok}
use Rattle.std.proofs.lemmas.Result.{err_from_is_err_and}
use lib.Seq.{length-take-le}
use Rattle.read.specs.Entry.{start_in, used_in, Locates}
use Rattle.read.specs.declared.Located.{Located}
use Rattle.read.proofs.Measures.{places}
use Rattle.signals.specs.Entry.{slot16_of, slot16_in, filled}
use Rattle.signals.specs.Follow.{followed}
use Rattle.signals.proofs.Found.{found_read, found_few}
use Rattle.signals.proofs.EntryLaws.{slot16_length, placed_then, refused_as, accepted_as, unplaced_as, answer_found}
use Rattle.signals.proofs.signals.Goals as goal

-- slot 16 of the frames that are used
module _ (s : List ℕ) (l : Located) (h : Locates s (Ok l)) where
  slots : (o : List ℕ) → take (16 * l.used) o ≡ slot16_of s l.start l.used → take (16 * l.used) o ≡ slot16_in s
  slots o e = e ∙ ap₂ (slot16_of s) (places s l h).at (places s l h).upto

  short : length (slot16_in s) ≤ 256
  short = let p = places s l h in omega (arith, slot16_length s (start_in s) (used_in s), p.upto, p.few)

pub returns-in_err-located : goal.returns-in_err-located
returns-in_err-located c =
    let r = err_from_is_err_and c.from_residual.result c.from_residual.ensures.1 in
    record {
      answer = rw (r.1, r.2) (unplaced_as c.args.image.now c.args.out.now c.in_err-located.field-0.0 c.in_err-located.ensures);
      place = rw (r.1, r.2) c.in_err-located.ensures.1;
    }

pub slot16_of-octets-requires : goal.slot16_of-octets-requires
slot16_of-octets-requires c =
    let p = places c.args.image.now c.in_ok-located.located c.in_ok-located.ensures in (p.room, p.few)

pub overflow_mul-octets : goal.overflow_mul-octets
overflow_mul-octets c = omega (arith, (places c.args.image.now c.in_ok-located.located c.in_ok-located.ensures).few)

pub slice_bounds-octets-end : goal.slice_bounds-octets-end
slice_bounds-octets-end c = omega (arith, (places c.args.image.now c.in_ok-located.located c.in_ok-located.ensures).few)

pub slice_bounds-t-end : goal.slice_bounds-t-end
slice_bounds-t-end c =
    let p = places c.args.image.now c.in_ok-located.located c.in_ok-located.ensures in
    let few = p.few in
    sym (length-take-le (16 * c.in_ok-located.located.used) c.slot16_of-octets.result (omega arith))

pub overflow_mul-found : goal.overflow_mul-found
overflow_mul-found c =
    let s = c.args.image.now in
    let l = c.in_ok-located.located in
    let h = c.in_ok-located.ensures in
    let e = slots s l h c.slot16_of-octets.result c.slot16_of-octets.ensures in
    omega (arith, found_few (slot16_in s) c.follow-found.result (c.follow-found.ensures ∙ ap followed e) (short s l h))

pub returns-then-out-found-clause-answer : goal.returns-then-out-found-clause-answer
returns-then-out-found-clause-answer c =
    let s = c.args.image.now in
    let l = c.in_ok-located.located in
    let h = c.in_ok-located.ensures in
    let o = c.args.out.now in
    let e = slots s l h c.slot16_of-octets.result c.slot16_of-octets.ensures in
    let n = found_read (slot16_in s) c.follow-found.result (c.follow-found.ensures ∙ ap followed e) in
    refused_as s o 4
    (placed_then s (length o) h.0 true (lt-ltb (length o) (filled (slot16_in s)) (omega (arith, n, c.if-out-found.true))))
    (λ z. omega arith)

pub put_abcd-requires : goal.put_abcd-requires
put_abcd-requires c =
    let s = c.args.image.now in
    let l = c.in_ok-located.located in
    let h = c.in_ok-located.ensures in
    let e = slots s l h c.slot16_of-octets.result c.slot16_of-octets.ensures in
    let f = c.follow-found.ensures ∙ ap followed e in
    let n = found_read (slot16_in s) c.follow-found.result f in
    let k : filled (slot16_in s) ≤ length c.args.out.now = omega (arith, n, c.if-out-found.false) in
    rw e (short s l h, f, k)

pub returns-clause-answer : goal.returns-clause-answer
returns-clause-answer c =
    let s = c.args.image.now in
    let l = c.in_ok-located.located in
    let h = c.in_ok-located.ensures in
    let o = c.args.out.now in
    let t = slot16_in s in
    let e = slots s l h c.slot16_of-octets.result c.slot16_of-octets.ensures in
    let f = c.follow-found.ensures ∙ ap followed e in
    let n = found_read t c.follow-found.result f in
    accepted_as s o _ c.put_abcd.new.out
    (placed_then s (length o) h.0 false (le-ltb (length o) (filled t) (omega (arith, n, c.if-out-found.false))))
    (answer_found t c.follow-found.result c.xy-xy.result f (rw e at c.xy-xy.ensures))
    (rw e at c.put_abcd.ensures)
