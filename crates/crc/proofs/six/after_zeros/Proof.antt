-- `after_zeros` meets its contract.
use Prim.Native.Nat.{◌*◌, ◌%◌, ◌^◌, ◌<◌}
use mathlib.Core.Path.{refl, sym, ◌∙◌}
use native.Mathlib.Omega.{arith}
use lib.Bits.{bit_xor, xor_lt}
use lib.Dec.{lit<, lit≤}
use Rattle.crc.specs.Remainder.{step, after}
use Rattle.crc.proofs.WordLaws.{remainder_own, six_zeros}
use Rattle.crc.proofs.six.after_zeros.Statement.{statement}
use Rattle.crc.proofs.six.after_zeros.Tie as tie

returns : tie.Need-returns
returns c =
    let r = c.before.args.r in
    let h = c.before.requires in
    let small : bit_xor (r * 2 % 2 ^ 64) r < 2 ^ 7 = xor_lt 7 (r * 2 % 2 ^ 64) r (omega arith) (omega arith) in
    let lt = c.lowered.ensures.1 5 (lit≤ tt) (omega arith) in
    (sym (remainder_own 6 (lit≤ tt) 64 c.lowered.result (lit≤ tt) lt) ∙ c.lowered.ensures.0 ∙ six_zeros r h, lt)

pub after_zeros_spec : {M : Type 1} → statement M
unfolding after step
after_zeros_spec = tie.close (tie.spec (λ c κs. (lit< tt, lit< tt, refl)) returns)
