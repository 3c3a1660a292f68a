-- `folded` meets its contract.
use mathlib.Core.Path.{refl, ◌∙◌}
use native.Mathlib.Omega.{arith}
use borrow.Author.Rules.{rules}
use lib.Bits.{and_le_r}
use Rattle.crc.proofs.FoldLaws.{windows_fold}
use Rattle.crc.proofs.fold.folded.Statement.{statement}
use Rattle.crc.proofs.fold.folded.Tie as tie

returns : tie.Need-returns
returns c =
    let second = c.before in
    let first = second.before in
    let a = first.before.before.args in
    c.fifteen.ensures
    ∙ windows_fold a.s.now a.q first.windows-a.result second.windows-b.result first.windows-a.ensures
    second.windows-b.ensures _ _ refl refl

pub folded_spec : {M : Type 1} → statement M
folded_spec =
    tie.close
    (tie.spec
    (λ c. omega (arith, and_le_r c.before.args.q 7))
    (search rules)
    (search rules)
    (search rules)
    (search rules)
    (search rules)
    (λ c. omega (arith, and_le_r c.before.before.before.args.q 7))
    (search rules)
    (search rules)
    returns)
