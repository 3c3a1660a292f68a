-- `put_run` meets its contract: at the head of the loop the octets before j are written.
use Prim.Native.Nat.{◌≤◌, ◌-◌}
use mathlib.Core.Path.{◌≡◌, refl}
use native.Mathlib.Omega.{arith}
use borrow.Author.Rules.{rules}
use lib.ListN.{length, take, length-set}
use Rattle.base.proofs.PartLaws.{copy_more, copy_done}
use Rattle.line.proofs.put_run.Statement.{statement}
use Rattle.line.proofs.put_run.Tie as tie

abbrev invariant_loop : tie.invariant-loop-j
invariant_loop out₀ octets j₀ out j = (j ≤ 16) × (length out ≡ 16) × (take j out ≡ take j octets)

abbrev decreases_loop : tie.decreases-loop-j
decreases_loop out₀ octets j₀ out j = 16 - j

loop_again : tie.Need-loop-j-preserved invariant_loop decreases_loop
loop_again c =
    let l = c.before.loop-j in
    let octets = c.before.before.args.octets in (
      omega arith,
      simp length-set l.invariant.1,
      copy_more l.out octets l.j (omega arith) (omega arith) l.invariant.2,
    )

returns : tie.Need-returns invariant_loop decreases_loop
returns c =
    let l = c.before in
    copy_done l.loop-j.out l.before.args.octets l.loop-j.j (omega arith) (omega arith) l.loop-j.invariant.2

pub put_run_spec : {M : Type 1} → statement M
put_run_spec =
    tie.close
    (tie.spec invariant_loop decreases_loop
    (λ c. (omega arith, search rules, refl))
    (omega arith)
    (omega arith)
    (omega arith)
    (omega arith)
    loop_again
    (omega arith)
    returns)
