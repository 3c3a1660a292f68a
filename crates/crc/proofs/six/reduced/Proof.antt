-- `reduced` meets its contract.
use Prim.Native.Nat.{◌^◌, ◌<◌}
use mathlib.Core.Path.{refl, sym, ◌∙◌}
use native.Mathlib.Omega.{arith}
use borrow.Author.Rules.{rules}
use lib.Dec.{lit<, lit≤}
use Rattle.crc.specs.Remainder.{step, after}
use Rattle.crc.proofs.WordLaws.{remainder_own}
use Rattle.crc.proofs.six.reduced.Statement.{statement}
use Rattle.crc.proofs.six.reduced.Tie as tie

-- from 64 digits to 48, 28, 24, 14, 12, 7 and 6
returns : tie.Need-returns
returns c =
    let c6 = c.before in
    let c5 = c6.before in
    let c4 = c5.before in
    let c3 = c4.before in
    let c2 = c3.before in
    let c1 = c2.before in
    let e1 = c1.lowered-by_48.ensures in
    let e2 = c2.lowered.ensures in
    let e3 = c3.lowered-by_24.ensures in
    let e4 = c4.lowered-2.ensures in
    let e5 = c5.lowered-by_12.ensures in
    let e6 = c6.lowered-3.ensures in
    let e7 = c.lowered-4.ensures in
    let h0 : c1.before.args.a < 2 ^ 64 = search rules in
    let h1 = e1.1 40 (lit≤ tt) (omega arith) in
    let h2 = e2.1 24 (lit≤ tt) (omega arith) in
    let h3 = e3.1 20 (lit≤ tt) (omega arith) in
    let h4 = e4.1 12 (lit≤ tt) (omega arith) in
    let h5 = e5.1 10 (lit≤ tt) (omega arith) in
    let h6 = e6.1 6 (lit≤ tt) (omega arith) in
    let h7 = e7.1 5 (lit≤ tt) (omega arith) in (
      sym (remainder_own 6 (lit≤ tt) 64 c.lowered-4.result (lit≤ tt) h7) ∙ e7.0 ∙ e6.0 ∙ e5.0 ∙ e4.0 ∙ e3.0 ∙ e2.0 ∙ e1.0,
      h7,
    )

pub reduced_spec : {M : Type 1} → statement M
unfolding after step
reduced_spec =
    tie.close
    (tie.spec
    (λ c κs. (lit< tt, lit< tt, refl))
    (λ c κs. (lit< tt, lit< tt, refl))
    (λ c κs. (lit< tt, lit< tt, refl))
    (λ c κs. (lit< tt, lit< tt, refl))
    (λ c κs. (lit< tt, lit< tt, refl))
    (λ c κs. (lit< tt, lit< tt, refl))
    (λ c κs. (lit< tt, lit< tt, refl))
    returns)
