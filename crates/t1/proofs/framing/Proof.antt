-- `framing` meets its contract: at the head of the loop the bits of f frames are taken.
use Prim.Native.Nat.{ℕ, ◌+◌, ◌-◌, ◌*◌, ◌/◌, ◌%◌, ◌^◌, ◌≤◌, ◌<◌}
use mathlib.Core.Path.{◌≡◌, refl, sym, ap, ap₂, ◌∙◌}
use mathlib.Core.List.{List}
use native.Mathlib.Nat.{mod-lt}
use native.Mathlib.Omega.{arith}
use lib.Pow.{pow_pos, pow_mono}
use Rattle.line.specs.Bit.{bit_at, field}
use Rattle.line.specs.Spelt.{spelt}
use Rattle.line.specs.Window.{bit_of}
use Rattle.line.proofs.BitLaws.{bit_lt}
use Rattle.line.proofs.SpeltLaws.{spelt_more, spelt_lt}
use Rattle.line.proofs.WindowLaws.{moved_bit, bit_at_lem}
use Rattle.t1.specs.Raw.{framing_of}
use Rattle.t1.proofs.framing.Statement.{statement}
use Rattle.t1.proofs.framing.Tie as tie

abbrev invariant_loop : tie.invariant-loop-f
invariant_loop s i o bits₀ f₀ bits f = (f ≤ 24) × (bits ≡ spelt f (λ g. bit_at s (8 * i + o + 193 * g))) × (bits < 2 ^ 24)

abbrev decreases_loop : tie.decreases-loop-f
decreases_loop s i o bits₀ f₀ bits f = 24 - f

-- bit k of a window
window_bit : (s : List ℕ) (p k w : ℕ) → k < 64 → w ≡ field s p 64 → w * 2 ^ k % 2 ^ 64 / 2 ^ 63 ≡ bit_at s (p + k)
window_bit s p k w h e =
    let x : ℕ = w * 2 ^ k % 2 ^ 64 in
    let n : 63 - k + k ≡ 63 = omega arith in
    let top : x / 2 ^ 63 ≡ bit_of x 63 = omega arith in
    top ∙ ap (bit_of x) (sym n) ∙ moved_bit w (63 - k) k 64 (omega arith) ∙ bit_at_lem s p k (63 - k) w e (omega arith)

loop_again : tie.Need-loop-f-preserved invariant_loop decreases_loop
loop_again c =
    let l = c.before.before in
    let a = l.before.before.args in
    let f = l.loop-f.f in
    let g : ℕ → ℕ = λ g. bit_at a.s.now (8 * a.i + a.o + 193 * g) in
    let p : 8 * (a.i + 24 * f) + (a.o + f) ≡ 8 * a.i + a.o + 193 * f = omega arith in
    let bit = window_bit a.s.now (8 * (a.i + 24 * f)) (a.o + f) c.window.result (omega arith) c.window.ensures
    ∙ ap (bit_at a.s.now) p in
    let e = ap₂ (λ x y. 2 * x + y) l.loop-f.invariant.1 bit ∙ sym (spelt_more f g) in
    let lt = spelt_lt (f + 1) g (λ j. bit_lt a.s.now (8 * a.i + a.o + 193 * j)) in
    let few : 2 ^ (f + 1) ≤ 2 ^ 24 = pow_mono {i = f + 1} {j = 24} (omega arith) in
    (omega arith, e, omega arith)

returns : tie.Need-returns invariant_loop decreases_loop
unfolding framing_of
returns c =
    let l = c.before in
    let a = l.before.before.args in
    let e : l.loop-f.f ≡ 24 = omega arith in
    (l.loop-f.invariant.1 ∙ ap (λ n. spelt n (λ g. bit_at a.s.now (8 * a.i + a.o + 193 * g))) e, l.loop-f.invariant.2)

pub framing_spec : {M : Type 1} → statement M
unfolding spelt
framing_spec =
    tie.close
    (tie.spec invariant_loop decreases_loop
    (λ c. (omega arith, refl, omega arith))
    (omega arith)
    (omega arith)
    (omega arith)
    (λ c κs. omega arith)
    (omega arith)
    (omega arith)
    (λ c.
    let x = c.window.result * 2 ^ (c.before.before.before.before.args.o + c.before.before.loop-f.f) in
    omega (arith, mod-lt x (pow_pos 64)))
    (omega arith)
    (omega arith)
    loop_again
    returns)
