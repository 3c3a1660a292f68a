use Prim.Native.Nat.{ℕ, ◌+◌, ◌-◌, ◌*◌, ◌%◌, ◌^◌, ◌<◌}
use mathlib.Core.Path.{◌≡◌, refl}
use native.Mathlib.Omega.{arith}
use lib.Bits.{bit_or}
use Rattle.line.specs.Window.{turned, bit_of, One}
use Rattle.line.proofs.WindowLaws.{moved_one, and_one, not_one}
use Rattle.align.proofs.Sets.{any_zero}
use Rattle.align.proofs.zeros.Goals as goal

pub returns : goal.returns
returns c o h b =
    let x = c.eight_octets.result in
    let y = c.eight_octets-2.result in
    let z = turned 8 (bit_or x y) in
    let few : z < 2 ^ 64 = omega (arith, c.turned-none.ensures) in
    let zero : (j k : ℕ) → j + 1 + k ≡ 7 → bit_of 27 k ≡ 0 → bit_of z (56 - o + k) ≡ 0
    = any_zero c.args.s.now c.args.i o x y h b c.eight_octets.ensures c.eight_octets-2.ensures in
    let moved : (k l : ℕ) → k + l ≡ 7 → bit_of z (56 - o + k) ≡ 0 → One ((2 ^ 64 - 1 - z) * 2 ^ l % 2 ^ 64) (63 - o)
    = λ k l e f. moved_one (2 ^ 64 - 1 - z) (56 - o + k) l (63 - o) 64 (omega arith) (omega arith)
    (not_one z (56 - o + k) 64 few (omega arith) f) in
    rw c.turned-none.ensures
    (and_one _ _ (63 - o) (and_one _ _ (63 - o) (moved 6 1 refl (zero 0 6 refl refl)) (moved 5 2 refl (zero 1 5 refl refl)))
    (moved 2 5 refl (zero 4 2 refl refl)))
