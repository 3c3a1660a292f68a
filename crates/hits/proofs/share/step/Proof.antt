-- `step` meets its contract: either nothing comes out at the top, or a 1.
use Prim.Native.Nat.{◌*◌, ◌-◌, ◌%◌, ◌^◌, ◌≤◌, ◌<◌}
use mathlib.Core.Path.{◌≡◌, ap, ◌∙◌}
use native.Mathlib.Omega.{arith}
use borrow.Author.Rules.{rules}
use lib.Bits.{bit_xor}
use lib.Pow.{pow_mono}
use Rattle.crc.specs.Remainder.{step}
use Rattle.crc.proofs.Laws.{step_lt}
use Rattle.hits.proofs.StepLaws.{step_under, step_over}
use Rattle.hits.proofs.share.step.Statement.{statement}
use Rattle.hits.proofs.share.step.Tie as tie

fits : tie.Need-overflow_mul-r
fits c = let h : 2 ^ c.args.w ≤ 2 ^ 6 = pow_mono c.requires.1 in omega arith

fits_2 : tie.Need-overflow_mul-result-2
fits_2 c = let h : 2 ^ c.before.args.w ≤ 2 ^ 6 = pow_mono c.before.requires.1 in omega arith

returns : tie.Need-returns-then-r-top
returns c =
    let w = c.before.args.w in
    let h : 2 ^ w ≤ 2 ^ 6 = pow_mono c.before.requires.1 in
    let l : 2 * c.before.args.r < 2 ^ w = omega arith in
    (step_under w c.before.requires.0 c.before.args.r l, l)

returns_2 : tie.Need-returns
returns_2 c =
    let w = c.before.args.w in
    let r = c.before.args.r in
    let h : 2 ^ w ≤ 2 ^ 6 = pow_mono c.before.requires.1 in
    let top : 1 * 2 ^ w % 2 ^ 64 ≡ 2 ^ w = omega arith in
    let e : bit_xor (2 * r - 1 * 2 ^ w % 2 ^ 64) 3 ≡ step w r 0
    = ap (λ x. bit_xor (2 * r - x) 3) top ∙ step_over w r c.before.requires.2 (omega arith) in
    (e, rw e (step_lt w c.before.requires.0 r 0 c.before.requires.2 (omega arith)))

pub step_spec : {M : Type 1} → statement M
step_spec = tie.close (tie.spec (search rules) fits (search rules) returns fits_2 (search rules) returns_2)
