-- `run_in` meets its contract: at the head of the loop the octets before j are taken.
use Prim.Native.Nat.{◌+◌, ◌≤◌, ◌*◌, ◌-◌}
use mathlib.Core.Path.{◌≡◌, refl, ap, ◌∙◌}
use native.Mathlib.Omega.{arith}
use borrow.Author.Rules.{rules}
use lib.ListN.{length, take, length-set}
use Rattle.line.specs.Bit.{octet_at}
use Rattle.base.specs.Tab.{tab, tab_from}
use Rattle.base.proofs.PartLaws.{octet_more, octets_full}
use Rattle.line.proofs.run_in.Statement.{statement}
use Rattle.line.proofs.run_in.Tie as tie

abbrev invariant_loop : tie.invariant-loop-j
invariant_loop s i o octets₀ j₀ octets j =
    (j ≤ 16) × (length octets ≡ 16) × (take j octets ≡ tab j (λ j. octet_at s (8 * i + o + 8 * j)))

abbrev decreases_loop : tie.decreases-loop-j
decreases_loop s i o octets₀ j₀ octets j = 16 - j

loop_again : tie.Need-loop-j-preserved invariant_loop decreases_loop
loop_again c =
    let l = c.before.before.loop-j in
    let a = c.before.before.before.before.args in
    let at : 8 * (a.i + l.j) + a.o ≡ 8 * a.i + a.o + 8 * l.j = omega arith in (
      omega arith,
      simp length-set l.invariant.1,
      octet_more l.octets l.j _ (λ j. octet_at a.s.now (8 * a.i + a.o + 8 * j)) (omega arith)
          (c.octet_in.ensures ∙ ap (octet_at a.s.now) at) l.invariant.2,
    )

returns : tie.Need-returns invariant_loop decreases_loop
returns c =
    let l = c.before.loop-j in
    let a = c.before.before.before.args in
    octets_full l.octets l.j 16 (λ j. octet_at a.s.now (8 * a.i + a.o + 8 * j)) (omega arith) (omega arith) l.invariant.2

pub run_in_spec : {M : Type 1} → statement M
unfolding tab_from
run_in_spec =
    tie.close
    (tie.spec invariant_loop decreases_loop
    (λ c. (omega arith, refl, refl))
    (omega arith)
    (search rules)
    (omega arith)
    (omega arith)
    (omega arith)
    loop_again
    returns)
