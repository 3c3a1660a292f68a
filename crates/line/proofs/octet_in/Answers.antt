-- In one octet and across two.
use native.Mathlib.Omega.{arith}
use borrow.Author.Rules.{rules}
use Rattle.line.proofs.BitLaws.{octet_one, octet_shifts}
use Rattle.line.proofs.octet_in.Goals as goal

pub returns-then-o-eq0 : goal.returns-then-o-eq0
returns-then-o-eq0 c = let a = c.args in octet_one a.s.now a.i a.o c.if-o-eq0.true (search rules)

pub returns : goal.returns
returns c = let a = c.args in octet_shifts a.s.now a.i a.o _ (omega arith) (search rules)
