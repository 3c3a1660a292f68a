use Rattle.std.proofs.Common.{◌+◌, ◌-◌, ◌*◌, ◌/◌, ap, sym, refl, ◌∙◌, arith}
use borrow.Author.Tests.{lt-ltb, le-ltb}
use Rattle.align.specs.Place.{number_of, place_of}
use Rattle.stream.specs.Entry.{end_accept}
use Rattle.stream.proofs.EntryLaws.{sound, not_ended, ended_21, ended_1, ended_by_found, ended_so}
use Rattle.stream.proofs.Stream.end.Goals as goal

pub returns-then-is_over : goal.returns-then-is_over
returns-then-is_over c = let st = c.args.self.now in not_ended st 20 (ended_21 st (sym c.if-is_over.ensures)) 0 refl

pub overflow_add-came : goal.overflow_add-came
overflow_add-came c = let h = sound c.args.self.now (sym c.if-is_over.ensures) in omega (arith, h.fill, h.small.before)

pub returns-then-came-lt2048 : goal.returns-then-came-lt2048
returns-then-came-lt2048 c =
    let st = c.args.self.now in
    not_ended st 0 (ended_1 st (sym c.if-is_over.ensures) (lt-ltb _ _ c.if-came-lt2048.true)) 0 refl

pub start-start-requires : goal.start-start-requires
start-start-requires c = omega (arith, (sound c.args.self.now (sym c.if-is_over.ensures)).small.start)

pub whole-requires : goal.whole-requires
whole-requires c = let h = sound c.args.self.now (sym c.if-is_over.ensures) in omega (arith, h.fill, h.small.before)

pub compared-requires : goal.compared-requires
compared-requires c = omega (arith, (sound c.args.self.now (sym c.if-is_over.ensures)).small.used)

pub returns-in-At : goal.returns-in-At
unfolding end_accept
returns-in-At c =
    let st = c.args.self.now in
    let l = st.line in
    ended_so st
    (ended_by_found st (sym c.if-is_over.ensures) (le-ltb _ _ c.if-came-lt2048.false) ∙ ap number_of c.in-At.is)
    _ (λ i. record {
      number = 0;
      place = sym (ap place_of c.in-At.is) i;
      start = c.start-start.ensures i;
      whole = (c.whole.ensures ∙ ap (λ q. (8 * (l.before + st.fill) - q) / 4096) c.start-start.ensures) i;
      used = l.used;
      lost = c.loss_of.ensures.0 i;
      words = l.words;
      compared = c.compared.ensures i;
      errored = l.errored;
      farend = l.farend;
      wordbits = l.wordbits;
      cause = c.loss_of.ensures.1 i;
    })

pub returns-in-BasicAt : goal.returns-in-BasicAt
returns-in-BasicAt c =
    let st = c.args.self.now in
    not_ended st 14
    (ended_by_found st (sym c.if-is_over.ensures) (le-ltb _ _ c.if-came-lt2048.false) ∙ ap number_of c.in-BasicAt.is)
    _ (sym (ap place_of c.in-BasicAt.is))

pub returns-in-Nothing : goal.returns-in-Nothing
returns-in-Nothing c =
    let st = c.args.self.now in
    not_ended st 2
    (ended_by_found st (sym c.if-is_over.ensures) (le-ltb _ _ c.if-came-lt2048.false) ∙ ap number_of c.in-Nothing.is)
    0 refl
