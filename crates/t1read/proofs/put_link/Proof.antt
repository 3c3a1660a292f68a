-- `put_link` meets its contract: at the head of the loop the bits before k are written.
use Prim.Native.Nat.{ℕ, ◌-◌, ◌*◌, ◌/◌, ◌%◌, ◌^◌, ◌≤◌}
use mathlib.Core.Path.{◌≡◌, refl, ap}
use native.Mathlib.Omega.{arith}
use lib.ListN.{length, take, length-set}
use Rattle.base.specs.Tab.{tab, tab_from}
use Rattle.base.proofs.PartLaws.{octet_more, octets_full}
use Rattle.line.specs.Spelt.{digit}
use Rattle.t1read.proofs.put_link.Statement.{statement}
use Rattle.t1read.proofs.put_link.Tie as tie

abbrev link_digit : ℕ → ℕ → ℕ
link_digit framing k = digit 24 framing (2 * k)

abbrev invariant_loop : tie.invariant-loop-k
invariant_loop framing out₀ k₀ out k = (k ≤ 12) × (length out ≡ 12) × (take k out ≡ tab k (link_digit framing))

abbrev decreases_loop : tie.decreases-loop-k
decreases_loop framing out₀ k₀ out k = 12 - k

loop_again : tie.Need-loop-k-preserved invariant_loop decreases_loop
loop_again c =
    let l = c.before.loop-k in
    let x = c.before.before.args.framing in
    let e : 23 - 2 * l.k ≡ 24 - 1 - 2 * l.k = omega arith in (
      omega arith,
      simp length-set l.invariant.1,
      octet_more l.out l.k _ (link_digit x) (omega arith) (ap (λ n. x / 2 ^ n % 2) e) l.invariant.2,
    )

returns : tie.Need-returns invariant_loop decreases_loop
returns c =
    let l = c.before.loop-k in
    octets_full l.out l.k 12 (link_digit c.before.before.args.framing) (omega arith) (omega arith) l.invariant.2

pub put_link_spec : {M : Type 1} → statement M
unfolding tab_from
put_link_spec =
    tie.close
    (tie.spec invariant_loop decreases_loop
    (λ c. (omega arith, omega arith, refl))
    (omega arith)
    (omega arith)
    (omega arith)
    (omega arith)
    (omega arith)
    (omega arith)
    (omega arith)
    loop_again
    (omega arith)
    returns)
