use Prim.Native.Nat.{ℕ, ◌+◌, ◌*◌, ◌/◌}
use mathlib.Core.Path.{◌≡◌, ap}
use native.Mathlib.Omega.{arith}
use lib.Bits.{bit_and}
use Rattle.line.specs.Bit.{bit_at}
use Rattle.line.proofs.BitLaws.{place_in}
use Rattle.e1.proofs.Laws.{carried_four}
use Rattle.e1.proofs.carried.Goals as goal

pub returns : goal.returns
returns c =
    let a = c.args in
    let bit_at_lem : (k : ℕ) → bit_at a.s.now (8 * (a.q / 8 + 64 * k) + bit_and a.q 7) ≡ bit_at a.s.now (a.q + 512 * k)
    = λ k. (let e : 8 * (a.q / 8 + 64 * k) + bit_and a.q 7 ≡ a.q + 512 * k = omega (arith, place_in a.q) in ap (bit_at a.s.now) e) in
    let first : bit_at a.s.now (8 * (a.q / 8) + bit_and a.q 7) ≡ bit_at a.s.now a.q = ap (bit_at a.s.now) (place_in a.q) in
    omega (arith, carried_four a.s.now a.q, first, bit_at_lem 1, bit_at_lem 2, bit_at_lem 3)
