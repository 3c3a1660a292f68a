-- The ones of the exclusive or are the wrong bits.
use mathlib.Core.Path.{ap, ◌∙◌}
use native.Mathlib.Omega.{arith}
use lib.Bits.{bit_xor}
use lib.Count.{ones}
use Rattle.e1.proofs.WordLaws.{wrong_ones, wrong_most}
use Rattle.e1.proofs.wrong_bits.Goals as goal

pub returns : goal.returns
returns c =
    let a = c.args in
    let e = ap (λ w. ones (bit_xor w 27)) c.word.ensures ∙ wrong_ones a.s.now a.q in
    (e, omega (arith, e, wrong_most a.s.now a.q))
