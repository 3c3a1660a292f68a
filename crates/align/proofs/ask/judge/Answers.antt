use mathlib.Core.Path.{sym, ap, ◌∙◌}
use mathlib.Core.Bool.{not}
use borrow.Author.Tests.{eq-eqb}
use Rattle.align.specs.Why.{judged}
use Rattle.align.specs.declared.Why.TheVariants.{SecondWord}
use Rattle.align.proofs.ask.judge.Goals as goal

-- the second word is wrong
pub returns-then-not-is_word-2 : goal.returns-then-not-is_word-2
unfolding judged
returns-then-not-is_word-2 c =
    let word = ap not (sym c.is_word.ensures ∙ c.if-not-is_word.false) in
    let bit = eq-eqb _ _ (sym c.bit.ensures.0 ∙ c.if-bit-ne1.false) in
    let again = ap not (sym c.is_word-2.ensures ∙ c.if-not-is_word-2.true) in
    rw (word, bit, again) (ap SecondWord c.first_wrong-then-not-is_word-2.ensures)
