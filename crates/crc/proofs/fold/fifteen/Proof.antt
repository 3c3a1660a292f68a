-- `fifteen` meets its contract.
use mathlib.Core.Path.{refl}
use borrow.Author.Rules.{rules}
use Rattle.crc.proofs.FoldLaws.{fold_120}
use Rattle.crc.proofs.fold.fifteen.Statement.{statement}
use Rattle.crc.proofs.fold.fifteen.Tie as tie

returns : tie.Need-returns
returns c = fold_120 c.args.high c.args.low _ refl (search rules)

pub fifteen_spec : {M : Type 1} → statement M
fifteen_spec = tie.close (tie.spec returns)
