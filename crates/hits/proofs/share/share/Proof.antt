-- `share` meets its contract. At the loop's head the zeros that are left make the share of r.
use Prim.Native.Nat.{◌+◌, ◌-◌, ◌^◌, ◌≤◌, ◌<◌}
use mathlib.Core.Path.{◌≡◌, refl, sym, ap, ◌∙◌}
use native.Mathlib.Omega.{arith}
use borrow.Author.Rules.{rules}
use lib.Pow.{pow_mono}
use Rattle.crc.specs.Remainder.{zeros, after}
use Rattle.crc.specs.Share.{share}
use Rattle.crc.proofs.ShareLaws.{share_after}
use Rattle.hits.proofs.StepLaws.{no_more, one_fewer}
use Rattle.hits.proofs.share.share.Statement.{statement}
use Rattle.hits.proofs.share.share.Tie as tie

abbrev invariant_loop : tie.invariant-loop-bit
invariant_loop w k r₀ -bit₀ end r i =
    (i ≤ end) × (end ≡ k + w) × (r < 2 ^ w) × (share w k ≡ after w r (zeros (end - i)))

abbrev decreases_loop : tie.decreases-loop-bit
decreases_loop w k r₀ -bit₀ end r i = end - i

loop_holds : tie.Need-loop-bit-init invariant_loop decreases_loop
loop_holds c =
    let w = c.args.w in
    let k = c.args.k in
    let four : 4 ≤ 2 ^ w = pow_mono c.requires.0 in
    let all : k + w ≡ k + w - 0 = omega arith in
    (omega arith, refl, omega arith, share_after w c.requires.0 k ∙ ap (λ n. after w 1 (zeros n)) all)

loop_again : tie.Need-loop-bit-preserved invariant_loop decreases_loop
loop_again c =
    let l = c.before.before in
    let w = l.before.args.w in
    let n = l.before.args.k + w in
    let i = l.loop-bit._bit in
    let on = one_fewer w l.loop-bit.r (n - i) (n - (i + 1)) (omega arith) in (
      omega arith,
      refl,
      c.step-r.ensures.1,
      l.loop-bit.invariant.3 ∙ on ∙ ap (λ x. after w x (zeros (n - (i + 1)))) (sym c.step-r.ensures.0),
    )

returns : tie.Need-returns invariant_loop decreases_loop
returns c =
    let l = c.before in
    let w = l.before.args.w in
    sym (l.loop-bit.invariant.3 ∙ no_more w l.loop-bit.r (l.before.args.k + w - l.loop-bit._bit) (omega arith))

pub share_spec : {M : Type 1} → statement M
share_spec =
    tie.close
    (tie.spec invariant_loop decreases_loop (omega arith) loop_holds (search rules) (omega arith) (omega arith) loop_again returns)
