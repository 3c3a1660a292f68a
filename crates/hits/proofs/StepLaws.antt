-- Bits 0 taken in, one more or none, and what one more makes of a remainder.
use Prim.Native.Nat.{ℕ, suc, ◌-◌, ◌*◌, ◌/◌, ◌%◌, ◌^◌, ◌≤◌, ◌<◌}
use mathlib.Core.Path.{◌≡◌, sym, ap, ◌∙◌}
use native.Mathlib.Omega.{arith}
use native.Mathlib.Nat.{add-zero, div-eq_of_lt-le, mod-eq-sub-div-mul}
use lib.Bits.{bit_xor}
use Rattle.crc.specs.Remainder.{zeros, step, after}
use Rattle.crc.proofs.Laws.{step_shift}

-- the zeros end, or one goes in
pub no_more : (w r n : ℕ) → n ≡ 0 → after w r (zeros n) ≡ r
unfolding after
no_more w r n e = ap (λ x. after w r (zeros x)) e

pub one_fewer : (w r n m : ℕ) → n ≡ suc m → after w r (zeros n) ≡ after w (step w r 0) (zeros m)
unfolding after
one_fewer w r n m e = ap (λ x. after w r (zeros x)) e

-- a bit 0 more, where nothing comes out at the top
pub step_under : (w : ℕ) → 2 ≤ w → (r : ℕ) → 2 * r < 2 ^ w → 2 * r ≡ step w r 0
step_under w wide r h = sym (step_shift w wide r 0 (omega arith) ∙ add-zero (2 * r))

-- and where a 1 does
pub step_over : (w r : ℕ) → r < 2 ^ w → 2 ^ w ≤ 2 * r → bit_xor (2 * r - 2 ^ w) 3 ≡ step w r 0
unfolding step
step_over w r hr h =
    let top : 2 * r / 2 ^ w ≡ 1 = div-eq_of_lt-le {k = 1} (2 ^ w) (omega arith) (omega arith) in
    let rest : 2 * r % 2 ^ w ≡ 2 * r - 2 ^ w = mod-eq-sub-div-mul (2 * r) (2 ^ w) ∙ rw top (omega arith) in
    rw (add-zero (2 * r), top, rest)
