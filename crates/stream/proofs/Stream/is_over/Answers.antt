use Rattle.std.proofs.Common.{sym, ap, ◌∙◌, ◌||◌}
use Rattle.stream.proofs.EntryLaws.{over_so, over_is}
use Rattle.stream.proofs.Stream.is_over.Goals as goal

pub returns-then-self : goal.returns-then-self
returns-then-self c = sym (over_so c.args.self.now c.if-self.true)

pub returns : goal.returns
returns c =
    ap (λ b. b || c.any_large.result) (sym c.if-self.false)
    ∙ over_is c.args.self.now _ _ c.any_large.result c.place.ensures c.k.ensures c.any_large.ensures
