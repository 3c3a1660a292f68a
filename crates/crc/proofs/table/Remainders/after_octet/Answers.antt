-- The table's rule at the entry.
use native.Mathlib.Omega.{arith}
use borrow.Author.Rules.{rules}
use Rattle.crc.proofs.TableLaws.{table_rule, octet_lt}
use Rattle.crc.proofs.table.Remainders.after_octet.Goals as goal

pub returns : goal.returns
returns c =
    let a = c.args in
    let e = table_rule a.self.now.rows a.r a.o (search rules) c.requires (search rules) in
    (e, omega (arith, e, octet_lt a.r a.o c.requires))
