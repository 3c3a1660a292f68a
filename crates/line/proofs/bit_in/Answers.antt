use Prim.Native.Nat.{◌-◌, ◌/◌, ◌^◌}
use mathlib.Core.Path.{sym, ◌∙◌}
use native.Mathlib.Omega.{arith}
use lib.ListN.{get_or}
use lib.Bits.{and_le_r, and_mask}
use Rattle.line.proofs.BitLaws.{bit_in}
use Rattle.line.proofs.bit_in.Goals as goal

pub returns : goal.returns
returns c =
    let a = c.args in
    let x = get_or a.s.now a.i 0 / 2 ^ (7 - a.o) in
    (and_mask x 1 ∙ sym (bit_in a.s.now a.i a.o c.requires.1), omega (arith, and_le_r x 1))
