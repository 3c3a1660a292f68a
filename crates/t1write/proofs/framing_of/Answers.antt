use Rattle.std.proofs.Common.{arith, refl, ◌+◌, ◌*◌, ◌^◌, ◌≤◌}
use lib.Pow.{pow_mono}
use Rattle.line.specs.Spelt.{spelt}
use Rattle.line.proofs.SpeltLaws.{spelt_lt}
use Rattle.t1write.specs.Writing.{framing_bit}
use Rattle.t1write.proofs.Laws.{framing_lt}
use Rattle.t1write.proofs.Framing.{four_more}
use Rattle.t1write.proofs.framing_of.Goals as goal

pub loop-j-init : goal.loop-j-init
unfolding spelt
loop-j-init c = (refl, omega arith)

pub loop-j-preserved : goal.loop-j-preserved
loop-j-preserved c =
    let l = c.args.link.now in
    let k = c.args.k in
    let j = c.loop-j.j in
    let e = four_more l k c.loop-j.bits j (omega arith) c.loop-j.invariant.0 in
    let lt = spelt_lt (4 * (j + 1)) (framing_bit l k) (λ i. framing_lt l k i c.requires.bits) in
    let few : 2 ^ (4 * (j + 1)) ≤ 2 ^ 24 = pow_mono {i = 4 * (j + 1)} {j = 24} (omega arith) in
    (e, omega arith)
