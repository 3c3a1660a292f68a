-- The remainder of a part a bit on: one comes in, and the one that is gone counts for x^4 + x.
use Prim.Native.Nat.{ℕ, zero, suc, ◌+◌, ◌*◌, ◌<◌}
use mathlib.Core.Path.{◌≡◌, refl, sym, ap, ap₂, ◌∙◌}
use mathlib.Core.List.{List}
use native.Mathlib.Nat.{add-zero}
use native.Mathlib.Numerals.{add-one}
use native.Mathlib.Omega.{arith}
use lib.Bits.{bit_xor, xor_lt}
use Rattle.base.specs.Tab.{tab, tab_from}
use Rattle.line.specs.Bit.{bit_at}
use Rattle.line.proofs.BitLaws.{bit_lt}
use Rattle.line.proofs.SpeltLaws.{Binary}
use Rattle.crc.specs.Remainder.{zeros, step, after}
use Rattle.crc.proofs.Xor.{xor_assoc}
use Rattle.t1sliced.specs.Sliced.{change}
use Rattle.t1.specs.Raw.{raw}
use Rattle.t1.proofs.Powers.{step_adds}
use Rattle.t1.proofs.Slides.{raw_slides, raw_lt}

one_in : (r : ℕ) (f : ℕ → ℕ) → r < 64 → Binary f → after 6 r (tab 1 f) ≡ bit_xor (step 6 r 0) (f 0)
unfolding after tab_from
one_in r f h hf = step_adds r (f 0) h (hf 0)

-- x^33 is x^4 + x
one_out : (f : ℕ → ℕ) → Binary f → after 6 (after 6 0 (tab 1 f)) (zeros 33) ≡ 18 * f 0
unfolding after step tab_from
one_out f hf = go (f 0) (hf 0)
  where
    go : (b : ℕ) → b < 2 → after 6 (step 6 0 b) (zeros 33) ≡ 18 * b
    go zero h = refl
    go (suc zero) h = refl
    go (suc (suc b)) h = absurd (omega arith)

pub raw_more : (s : List ℕ) (p : ℕ) → raw s (suc p) ≡ bit_xor (step 6 (raw s p) 0) (change s (suc p))
unfolding change
raw_more s p =
    let come : ℕ → ℕ = λ i. bit_at s (p + (4632 + i)) in
    let gone : ℕ → ℕ = λ i. bit_at s (p + i) in
    ap (raw s) (sym (add-one p)) ∙ raw_slides s p 1
    ∙ ap₂ bit_xor
    (one_in (raw s p) come (raw_lt s p) (λ i. bit_lt s (p + (4632 + i))))
    (one_out gone (λ i. bit_lt s (p + i)) ∙ ap (λ q. 18 * bit_at s q) (add-zero p))
    ∙ xor_assoc (step 6 (raw s p) 0) (bit_at s (p + 4632)) (18 * bit_at s p)

pub change_lt : (s : List ℕ) (o : ℕ) → change s o < 64
unfolding change
change_lt s zero = raw_lt s 0
change_lt s (suc o) =
    let g = bit_lt s o in
    xor_lt 6 (bit_at s (o + 4632)) (18 * bit_at s o) (omega (arith, bit_lt s (o + 4632))) (omega arith)
