-- `slid` meets its contract.
use Prim.Native.Nat.{◌+◌, ◌*◌}
use mathlib.Core.Path.{◌≡◌, ap, ◌∙◌}
use native.Mathlib.Omega.{arith}
use borrow.Author.Rules.{rules}
use Rattle.line.specs.Bit.{field}
use Rattle.t1.proofs.RawLaws.{window_front, bits_on}
use Rattle.t1.proofs.raw.slid.Statement.{statement}
use Rattle.t1.proofs.raw.slid.Tie as tie

returns : tie.Need-returns
returns c =
    let come = c.before.window-2 in
    let gone = c.before.before.window in
    let start = c.before.before.before.before in
    let a = start.args in
    let s = a.s.now in
    let p = start.requires in
    let q : 8 * (a.i + 579) ≡ 8 * a.i + 4632 = omega arith in (
      c.reduced.ensures.0
          ∙ bits_on s (8 * a.i) a.o a.at _ _ p.1 p.3 p.2
          (window_front s (8 * a.i) a.o gone.result p.1 gone.ensures)
          (window_front s (8 * a.i + 4632) a.o come.result p.1 (come.ensures ∙ ap (λ k. field s k 64) q)),
      c.reduced.ensures.1,
    )

pub slid_spec : {M : Type 1} → statement M
slid_spec =
    tie.close
    (tie.spec
    (search rules)
    (search rules)
    (search rules)
    (search rules)
    (search rules)
    (search rules)
    (search rules)
    (search rules)
    (search rules)
    returns)
