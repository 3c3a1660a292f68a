-- `check_at` meets its contract.
use Prim.Native.Nat.{◌+◌, ◌-◌, ◌*◌}
use mathlib.Core.Path.{◌∙◌}
use native.Mathlib.Omega.{arith}
use borrow.Author.Rules.{rules}
use Rattle.t1.proofs.Slides.{raw_part}
use Rattle.t1read.proofs.check_at.Statement.{statement}
use Rattle.t1read.proofs.check_at.Tie as tie

slid_requires : tie.Need-slid-requires
slid_requires c κs =
    let a = c.before.before.before.args in (
      omega arith,
      omega arith,
      c.of-raw.ensures.0 ∙ raw_part a.s.now a.i (a.i + 579 - a.i) 0 (8 * a.i) (omega arith) (omega arith),
      c.of-raw.ensures.1,
    )

returns : tie.Need-returns
returns c =
    let start = c.before.before.before.before.before in
    let a = start.args in
    c.check_by.ensures.0 a.s.now (8 * a.i + a.o) c.before.slid.ensures.0 start.requires.2

pub check_at_spec : {M : Type 1} → statement M
check_at_spec =
    tie.close
    (tie.spec
    (search rules)
    (search rules)
    (search rules)
    (search rules)
    (search rules)
    slid_requires
    (search rules)
    returns)
