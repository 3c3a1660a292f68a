use Rattle.std.proofs.Common.{refl, ap, ◌∙◌, ◌++◌, drop, length}
use Rattle.jikhvanto.proofs.Places.{zeros, laid}
use Rattle.jikhvanto.proofs.give.Goals as goal

pub returns : goal.returns
returns c =
    let v = c.args.values.now in
    (refl, ap (λ x. x ++ drop (length v) zeros) c.copy_from_slice.ensures.after ∙ laid v c.requires.1)
