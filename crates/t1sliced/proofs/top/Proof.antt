-- `top` meets its contract.
use Prim.Native.Nat.{◌/◌, ◌%◌, ◌^◌}
use native.Mathlib.Omega.{arith}
use borrow.Author.Rules.{rules}
use Rattle.t1sliced.proofs.Bitwise.{top_bit}
use Rattle.t1sliced.proofs.top.Statement.{statement}
use Rattle.t1sliced.proofs.top.Tie as tie

pub top_spec : {M : Type 1} → statement M
top_spec =
    tie.close (tie.spec (search rules) (λ c o h. top_bit (c.args.r / 2 ^ c.args.t % 2) o (omega arith) h))
