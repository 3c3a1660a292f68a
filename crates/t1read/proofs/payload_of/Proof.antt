-- `payload_of` meets its contract: at the head of the loop the frames whose number among their eight is below g are written.
use Prim.Native.Nat.{◌+◌, ◌≤◌, ◌*◌, ◌-◌}
use mathlib.Core.Path.{◌≡◌, refl, sym, ap, ◌∙◌}
use native.Mathlib.Omega.{arith}
use borrow.Author.Rules.{rules}
use lib.ListN.{length}
use Rattle.t1read.specs.Filled.{filled, every_eighth}
use Rattle.t1read.proofs.FilledLaws.{of_eighths, filled_none, filled_more, filled_all, eighths_none, eighths_more}
use Rattle.t1read.proofs.payload_of.Statement.{statement}
use Rattle.t1read.proofs.payload_of.Tie as tie

abbrev invariant_loop : tie.invariant-loop-g
invariant_loop s q n out₀ g₀ out g =
    (g ≤ 8) × (length out ≡ length out₀) × (out ≡ filled (of_eighths g (24 * n)) s q out₀)

abbrev decreases_loop : tie.decreases-loop-g
decreases_loop s q n out₀ g₀ out g = 8 - g

loop_holds : tie.Need-loop-g-init invariant_loop decreases_loop
loop_holds c =
    let a = c.before.before.args in
    (omega arith, refl, sym (filled_none a.s.now a.q (of_eighths 0 (24 * a.n)) a.out.now (eighths_none (24 * a.n))))

loop_again : tie.Need-loop-g-preserved invariant_loop decreases_loop
loop_again c =
    let w = c.before.before in
    let l = w.before.before.before in
    let a = l.before.before.before.args in
    let g = l.loop-g.g in
    let m = 24 * a.n in (
      omega arith,
      c.before.out-1.given ∙ l.loop-g.invariant.1,
      filled_more a.s.now a.q (of_eighths g m) (every_eighth g m) (of_eighths (g + 1) m) l.loop-g.out
          w.put_every_eighth.new.out a.out.now l.loop-g.invariant.2 w.put_every_eighth.ensures (eighths_more g m),
    )

returns : tie.Need-returns invariant_loop decreases_loop
returns c =
    let l = c.before in
    let a = l.before.before.before.args in
    let e : l.loop-g.g ≡ 8 = omega arith in
    l.loop-g.invariant.2 ∙ ap (λ g. filled (of_eighths g (24 * a.n)) a.s.now a.q a.out.now) e
    ∙ filled_all a.s.now a.q a.n a.out.now (omega arith)

pub payload_of_spec : {M : Type 1} → statement M
payload_of_spec =
    tie.close
    (tie.spec invariant_loop decreases_loop
    loop_holds
    (search rules)
    (omega arith)
    (omega arith)
    loop_again
    (omega arith)
    returns)
