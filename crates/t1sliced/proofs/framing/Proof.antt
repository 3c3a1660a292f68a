-- `framing` meets its contract.
use Prim.Native.Nat.{◌+◌, ◌-◌, ◌*◌}
use mathlib.Core.Path.{◌≡◌, ap, ◌∙◌}
use native.Mathlib.Omega.{arith}
use borrow.Author.Rules.{rules}
use Rattle.line.specs.Bit.{bit_at}
use Rattle.line.proofs.WindowLaws.{bit_at_lem}
use Rattle.t1sliced.proofs.Bitwise.{shl_bit}
use Rattle.t1sliced.proofs.framing.Statement.{statement}
use Rattle.t1sliced.proofs.framing.Tie as tie

returns : tie.Need-returns
returns c n h =
    let a = c.before.before.args in
    let w = c.window in
    let e : 8 * a.i + (n + a.o) ≡ n + (8 * a.i + a.o) = omega arith in
    shl_bit w.result a.o (63 - n) (omega arith) (omega arith)
    ∙ bit_at_lem a.part.now (8 * a.i) (n + a.o) (63 - n - a.o) w.result w.ensures (omega arith)
    ∙ ap (bit_at a.part.now) e

pub framing_spec : {M : Type 1} → statement M
framing_spec = tie.close (tie.spec (search rules) (search rules) returns)
