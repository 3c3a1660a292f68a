use Rattle.std.proofs.Common.{◌≡◌, sym, subst, Ok, arith}
use Rattle.std.proofs.lemmas.Result.{err_from_is_err_and}
use borrow.Author.Tests.{lt-ltb, le-ltb}
use Rattle.chunk.specs.Taking.{Takes}
use Rattle.stream.specs.Answer.{fed_answer}
use Rattle.stream.specs.Entry.{grown_of, feed_refuse, Feeds}
use Rattle.stream.proofs.EntryLaws.{sound, shut, narrow, opened, refused_as, with_21, with_17, not_taken, taken}
use Rattle.stream.proofs.Stream.feed.Goals as goal

pub returns-then-is_over : goal.returns-then-is_over
returns-then-is_over c =
    let a = c.args in
    refused_as a.self.now a.window.now a.chunk.now a.payload.now a.slot0.now 20
    (with_21 a.self.now a.window.now a.chunk.now a.payload.now a.slot0.now (shut a.self.now a.window.now (sym c.if-is_over.ensures)))

pub returns-in_default : goal.returns-in_default
returns-in_default c =
    let a = c.args in
    refused_as a.self.now a.window.now a.chunk.now a.payload.now a.slot0.now 20
    (with_21 a.self.now a.window.now a.chunk.now a.payload.now a.slot0.now (narrow a.self.now a.window.now c.in_default.ensures.cases))

pub overflow_add-came : goal.overflow_add-came
overflow_add-came c = let h = sound c.args.self.now (sym c.if-is_over.ensures) in omega (arith, h.fill, h.small.before)

pub overflow_add-came-2 : goal.overflow_add-came-2
overflow_add-came-2 c = let h = sound c.args.self.now (sym c.if-is_over.ensures) in omega (arith, h.fill, h.small.before)

-- the window as an array
pub returns-then-came-chunk-gt16777216 : goal.returns-then-came-chunk-gt16777216
returns-then-came-chunk-gt16777216 c =
    let a = c.args in
    let w : c.in-Some.window.now ≡ a.window.now = c.in-Some.ensures.cases.same in
    subst
    (λ w. Feeds a.self.now a.window.now a.chunk.now a.payload.now a.slot0.now (feed_refuse a.self.now 17) w a.payload.now a.slot0.now)
    (sym w)
    (refused_as a.self.now a.window.now a.chunk.now a.payload.now a.slot0.now 16
    (with_17 a.self.now a.window.now a.chunk.now a.payload.now a.slot0.now
    (opened a.self.now a.window.now (sym c.if-is_over.ensures) c.in-Some.ensures.cases.long)
    (lt-ltb _ _ c.if-came-chunk-gt16777216.true)))

pub take-requires : goal.take-requires
take-requires c = let h = sound c.args.self.now (sym c.if-is_over.ensures) in (h.small, h.fill, omega arith)

pub returns-in_err-took : goal.returns-in_err-took
returns-in_err-took c =
    let a = c.args in
    let r = err_from_is_err_and c.from_residual.result c.from_residual.ensures.1 in
    let t = subst
    (λ w. Takes (grown_of a.self.now w a.chunk.now) w a.payload.now a.slot0.now c.take.result c.take.new.window c.take.new.payload
    c.take.new.slot0)
    c.in-Some.ensures.cases.same c.take.ensures in
    rw (r.1, r.2)
    (not_taken a.self.now a.window.now a.chunk.now a.payload.now a.slot0.now
    (opened a.self.now a.window.now (sym c.if-is_over.ensures) c.in-Some.ensures.cases.long)
    (le-ltb _ _ c.if-came-chunk-gt16777216.false) _ _ _ _ t _ c.in_err-took.was)

pub returns : goal.returns
returns c =
    let a = c.args in
    let h = sound a.self.now (sym c.if-is_over.ensures) in
    let x = c.in_ok-took.took in
    let t = subst
    (λ w. Takes (grown_of a.self.now w a.chunk.now) w a.payload.now a.slot0.now c.take.result c.take.new.window c.take.new.payload
    c.take.new.slot0)
    c.in-Some.ensures.cases.same c.take.ensures in
    subst
    (λ b. Feeds a.self.now a.window.now a.chunk.now a.payload.now a.slot0.now
    (fed_answer (record { ended = b; fill = x.fill; line = x.line }) (Ok x.multiframes)) c.take.new.window c.take.new.payload c.take.new.slot0)
    (sym h.going)
    (taken a.self.now a.window.now a.chunk.now a.payload.now a.slot0.now
    (opened a.self.now a.window.now (sym c.if-is_over.ensures) c.in-Some.ensures.cases.long)
    (le-ltb _ _ c.if-came-chunk-gt16777216.false) _ _ _ _ t _ c.in_ok-took.was)
