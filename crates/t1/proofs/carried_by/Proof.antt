-- `carried_by` meets its contract: at the head of the loop c is what the first i of the six bits spell.
use Prim.Native.Nat.{ℕ, ◌+◌, ◌-◌, ◌*◌, ◌/◌, ◌%◌, ◌^◌, ◌≤◌, ◌<◌}
use mathlib.Core.Path.{◌≡◌, refl, sym, ap, ap₂, ◌∙◌}
use native.Mathlib.Nat.{mod-lt, zero-lt-suc}
use native.Mathlib.Omega.{arith}
use lib.Pow.{pow_mono}
use Rattle.line.specs.Bit.{bit_at}
use Rattle.line.specs.Spelt.{spelt, digit}
use Rattle.line.proofs.BitLaws.{bit_lt}
use Rattle.line.proofs.SpeltLaws.{spelt_more, spelt_lt, spelt_agree, digit_spelt}
use Rattle.t1.specs.Superframe.{carried}
use Rattle.t1.specs.Raw.{framing_of}
use Rattle.t1.proofs.carried_by.Statement.{statement}
use Rattle.t1.proofs.carried_by.Tie as tie

abbrev invariant_loop : tie.invariant-loop-i
invariant_loop framing c₀ i₀ c i = (i ≤ 6) × (c ≡ spelt i (λ j. digit 24 framing (4 * j + 1))) × (c < 64)

abbrev decreases_loop : tie.decreases-loop-i
decreases_loop framing c₀ i₀ c i = 6 - i

loop_again : tie.Need-loop-i-preserved invariant_loop decreases_loop
loop_again c =
    let l = c.before in
    let x = l.before.args.framing in
    let i = l.loop-i.i in
    let f : ℕ → ℕ = λ j. digit 24 x (4 * j + 1) in
    let n : 22 - 4 * i ≡ 24 - 1 - (4 * i + 1) = omega arith in
    let e = ap₂ (λ y z. 2 * y + z) l.loop-i.invariant.1 (ap (λ k. x / 2 ^ k % 2) n) ∙ sym (spelt_more i f) in
    let lt = spelt_lt (i + 1) f (λ j. mod-lt (x / 2 ^ (24 - 1 - (4 * j + 1))) (zero-lt-suc 1)) in
    let few : 2 ^ (i + 1) ≤ 2 ^ 6 = pow_mono {i = i + 1} {j = 6} (omega arith) in
    (omega arith, e, omega arith)

returns : tie.Need-returns invariant_loop decreases_loop
unfolding carried framing_of
returns c =
    let l = c.before in
    let x = l.before.args.framing in
    let e : l.loop-i.i ≡ 6 = omega arith in (
      λ s q own.
          let g : ℕ → ℕ = λ f. bit_at s (q + 193 * f) in
          l.loop-i.invariant.1 ∙ ap (λ n. spelt n (λ j. digit 24 x (4 * j + 1))) e
          ∙ spelt_agree 6 (λ j. digit 24 x (4 * j + 1)) (λ j. g (4 * j + 1))
          (λ j h. ap (λ y. digit 24 y (4 * j + 1)) own ∙ digit_spelt 24 (4 * j + 1) g (λ f. bit_lt s (q + 193 * f)) (omega arith)),
      l.loop-i.invariant.2,
    )

pub carried_by_spec : {M : Type 1} → statement M
unfolding spelt
carried_by_spec =
    tie.close
    (tie.spec invariant_loop decreases_loop
    (λ c. (omega arith, refl, omega arith))
    (omega arith)
    (omega arith)
    (omega arith)
    (omega arith)
    (omega arith)
    (omega arith)
    (omega arith)
    loop_again
    returns)
