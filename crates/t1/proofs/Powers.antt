-- Zeros behind a remainder by x^6 + x + 1 multiply it by a power of x.
use Prim.Native.Nat.{ℕ, zero, suc, ◌+◌, ◌*◌, ◌/◌, ◌%◌, ◌<◌}
use mathlib.Core.Path.{◌≡◌, refl, sym, ap, ◌∙◌}
use native.Mathlib.Nat.{add_comm}
use native.Mathlib.Omega.{arith}
use lib.Bits.{bit_xor, xor_zero_r}
use lib.Dec.{lit≤}
use lib.ListN.{replicate-append-replicate}
use Rattle.crc.specs.Remainder.{zeros, step, after}
use Rattle.crc.proofs.Laws.{zeros_bits, zeros_linear, after_append, after_lt, step_one}
use Rattle.crc.proofs.Order.{order_6, zeros_back, zeros_lowered}

pub zeros_lt : (n r : ℕ) → r < 64 → after 6 r (zeros n) < 64
zeros_lt n r h = after_lt 6 (lit≤ tt) r (zeros n) h (zeros_bits n)

pub zeros_add : (m n r : ℕ) → after 6 (after 6 r (zeros m)) (zeros n) ≡ after 6 r (zeros (m + n))
zeros_add m n r = sym (after_append 6 r (zeros m) (zeros n)) ∙ ap (after 6 r) (replicate-append-replicate m n 0)

-- a zero more may as well come first
pub zero_first : (n r : ℕ) → after 6 (step 6 r 0) (zeros n) ≡ step 6 (after 6 r (zeros n)) 0
unfolding after
zero_first n r = zeros_add 1 n r ∙ ap (λ k. after 6 r (zeros k)) (add_comm 1 n) ∙ sym (zeros_add n 1 r)

-- x^63 is 1
pub zeros_round : (n r : ℕ) → r < 64 → after 6 r (zeros n) ≡ after 6 r (zeros (n % 63))
zeros_round n r h =
    let k : ℕ = 63 * (n / 63) in
    let e : k + n % 63 ≡ n = omega arith in
    ap (λ j. after 6 r (zeros j)) (sym e) ∙ sym (zeros_add k (n % 63) r)
    ∙ ap (λ x. after 6 x (zeros (n % 63))) (zeros_back 6 (lit≤ tt) k ((order_6 k).1 (omega arith)) 6 r (lit≤ tt) h)

-- the next bit is added
pub step_adds : (r b : ℕ) → r < 64 → b < 2 → step 6 r b ≡ bit_xor (step 6 r 0) b
step_adds r zero h l = sym (xor_zero_r (step 6 r 0))
step_adds r (suc zero) h l = step_one 6 (lit≤ tt) r h
step_adds r (suc (suc b)) h l = absurd (omega arith)

-- x^32 is x^3 + 1, and x^33 x^4 + x
pub zeros_32 : (r : ℕ) → r < 64 → after 6 r (zeros 32) ≡ bit_xor (after 6 r (zeros 3)) r
unfolding after step
zeros_32 = zeros_lowered 6 (lit≤ tt) 32 3 refl

pub zeros_33 : (r : ℕ) → r < 64 → after 6 r (zeros 33) ≡ bit_xor (after 6 r (zeros 4)) (after 6 r (zeros 1))
zeros_33 r h =
    sym (zeros_add 32 1 r) ∙ ap (λ x. after 6 x (zeros 1)) (zeros_32 r h)
    ∙ zeros_linear 6 (lit≤ tt) 1 (after 6 r (zeros 3)) r (zeros_lt 3 r h) h
    ∙ ap (λ x. bit_xor x (after 6 r (zeros 1))) (zeros_add 3 1 r)
