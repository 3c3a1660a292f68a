-- The last seven bits of the octet.
use Rattle.line.proofs.BitLaws.{word_of}
use Rattle.line.proofs.word.Goals as goal

pub returns : goal.returns
returns c = rw c.octet.ensures (word_of c.args.s.now c.args.p)
