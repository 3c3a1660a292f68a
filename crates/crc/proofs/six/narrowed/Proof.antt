-- `narrowed` meets its contract.
use borrow.Author.Rules.{rules}
use Rattle.crc.proofs.WordLaws.{words_narrowed}
use Rattle.crc.proofs.six.narrowed.Statement.{statement}
use Rattle.crc.proofs.six.narrowed.Tie as tie

returns : tie.Need-returns
returns c = let s = c.before.before in words_narrowed s.args.a.high s.args.a.low s.requires (search rules)

pub narrowed_spec : {M : Type 1} → statement M
narrowed_spec = tie.close (tie.spec returns)
