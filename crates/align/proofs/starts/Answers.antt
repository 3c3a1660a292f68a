use Prim.Native.Nat.{ℕ, ◌+◌, ◌-◌, ◌*◌, ◌%◌, ◌^◌, ◌<◌}
use mathlib.Core.Path.{◌≡◌, ap, ◌∙◌}
use mathlib.Core.List.{List}
use native.Mathlib.Omega.{arith}
use lib.Bits.{bit_and}
use Rattle.line.specs.Bit.{bit_at, field}
use Rattle.line.specs.Window.{One}
use Rattle.line.proofs.WindowLaws.{moved_one, and_one, bit_at_lem}
use Rattle.align.specs.Stands.{Basic}
use Rattle.align.proofs.Sets.{none_left}
use Rattle.align.proofs.starts.Goals as goal

-- the ones of its words, and bit 2 between them
with_bit_2 : (s : List ℕ) (i o x y : ℕ) → o < 56 → Basic s (8 * i + o) → One x (60 - o) → y ≡ field s (8 * (i + 32)) 64
    → One (bit_and (x * 2 ^ 3 % 2 ^ 64) (y * 2 ^ 1 % 2 ^ 64)) (63 - o)
with_bit_2 s i o x y h b one e =
    let at : 8 * (i + 32) + (o + 1) ≡ 8 * i + o + 257 = omega arith in
    and_one _ _ (63 - o)
    (moved_one x (60 - o) 3 (63 - o) 64 (omega arith) (omega arith) one)
    (moved_one y (62 - o) 1 (63 - o) 64 (omega arith) (omega arith)
    (bit_at_lem s (8 * (i + 32)) (o + 1) (62 - o) y e (omega arith) ∙ ap (bit_at s) at ∙ b.bit_2))

pub returns-then-with_bit_2-eq0 : goal.returns-then-with_bit_2-eq0
returns-then-with_bit_2-eq0 c o h b =
    absurd
    (none_left _ (63 - o) c.if-with_bit_2-eq0.true (with_bit_2 c.args.s.now c.args.i o _ _ h b (c.ones-one.ensures o h b) c.window.ensures))

pub returns : goal.returns
returns c o h b =
    and_one _ _ (63 - o) (with_bit_2 c.args.s.now c.args.i o _ _ h b (c.ones-one.ensures o h b) c.window.ensures) (c.zeros.ensures o h b)
