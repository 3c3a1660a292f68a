-- `check_by` meets its contract.
use Prim.Native.Nat.{◌*◌, ◌^◌, ◌<◌}
use mathlib.Core.Path.{ap, ◌∙◌, subst}
use borrow.Author.Rules.{rules}
use lib.Bits.{bit_xor}
use Rattle.crc.specs.Remainder.{zeros, after}
use Rattle.crc.specs.Word.{remainder}
use Rattle.t1.proofs.Checked.{checked_by}
use Rattle.t1.proofs.check_by.Statement.{statement}
use Rattle.t1.proofs.check_by.Tie as tie

returns : tie.Need-returns
returns c =
    let x = c.before.reduced-2 in
    let f = c.before.before.fourth-lacking in
    let r = c.before.before.before.reduced in
    let start = c.before.before.before.before in
    let a = start.args in (
      λ s q ea ef.
          c.after_zeros.ensures.0 ∙ ap (λ y. after 6 y (zeros 6)) (x.ensures.0 ∙ ap (λ y. remainder 6 64 (bit_xor a.at (8 * y))) f.ensures.0)
          ∙ checked_by s q a.at a.framing r.result start.requires.0 ea ef r.ensures.0
          (subst (λ y. y < 2 ^ 21) f.ensures.0 f.ensures.1),
      c.after_zeros.ensures.1,
    )

pub check_by_spec : {M : Type 1} → statement M
check_by_spec =
    tie.close
    (tie.spec
    (search rules)
    (search rules)
    (search rules)
    (search rules)
    (search rules)
    (search rules)
    returns)
