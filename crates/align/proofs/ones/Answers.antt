use Prim.Native.Nat.{ℕ, ◌+◌, ◌-◌, ◌*◌, ◌%◌, ◌^◌, ◌<◌}
use mathlib.Core.Path.{◌≡◌, refl, sym, ap, ◌∙◌}
use native.Mathlib.Omega.{arith}
use lib.Bits.{bit_and}
use Rattle.line.specs.Window.{turned, bit_of, One}
use Rattle.line.proofs.WindowLaws.{moved_one, and_one}
use Rattle.align.proofs.Sets.{both_one}
use Rattle.align.proofs.ones.Goals as goal

-- two ones, the first at n + 1
abbrev twos : ℕ → ℕ
twos x = bit_and x (x * 2 ^ 1 % 2 ^ 64)

two : (x n : ℕ) → n + 1 < 64 → One x (n + 1) → One x n → One (twos x) (n + 1)
two x n h a b = and_one _ _ (n + 1) a (moved_one x n 1 (n + 1) 64 refl h b)

-- and two more, three later
two_and_two : (x n : ℕ) → n + 4 < 64 → One x (n + 4) → One x (n + 3) → One x (n + 1) → One x (n + 0)
    → One (bit_and (twos x) (twos x * 2 ^ 3 % 2 ^ 64)) (n + 4)
two_and_two x n h a b c d =
    let e : n + 3 + 1 ≡ n + 4 = omega arith in
    let z : n ≡ n + 0 = omega arith in
    let upper = two x (n + 3) (omega arith) (ap (bit_of x) e ∙ a) b in
    and_one (twos x) _ (n + 4) (ap (bit_of (twos x)) (sym e) ∙ upper)
    (moved_one (twos x) (n + 1) 3 (n + 4) 64 (omega arith) h (two x n (omega arith) c (ap (bit_of x) z ∙ d)))

pub returns : goal.returns
returns c o h b =
    let x = c.eight_octets.result in
    let y = c.eight_octets-2.result in
    let both : (j k : ℕ) → j + 1 + k ≡ 7 → bit_of 27 k ≡ 1 → One (turned 8 (bit_and x y)) (56 - o + k)
    = both_one c.args.s.now c.args.i o x y h b c.eight_octets.ensures c.eight_octets-2.ensures in
    let e : 56 - o + 4 ≡ 60 - o = omega arith in
    rw (c.turned-both.ensures, ← e)
    (two_and_two (turned 8 (bit_and x y)) (56 - o) (omega arith) (both 2 4 refl refl) (both 3 3 refl refl) (both 5 1 refl refl) (both 6 0 refl refl))
