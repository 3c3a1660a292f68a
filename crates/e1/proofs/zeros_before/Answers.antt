-- The zeros are the octet's first bit, and the right bits of the word.
use Prim.Native.Nat.{◌+◌}
use mathlib.Core.Path.{ap, ◌∙◌}
use lib.Bits.{bit_xor}
use lib.Count.{count_leading_zeros, leading_le}
use Rattle.e1.proofs.WordLaws.{first_zeros}
use Rattle.e1.proofs.zeros_before.Goals as goal

pub returns : goal.returns
returns c =
    let a = c.args in (
      ap (λ w. a.q + count_leading_zeros 8 (bit_xor w 27)) c.word.ensures ∙ first_zeros a.s.now a.q,
      leading_le 8 (bit_xor c.word.result 27),
    )
