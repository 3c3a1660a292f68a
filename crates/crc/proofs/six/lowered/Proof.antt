-- `lowered` meets its contract.
use Prim.Native.Nat.{◌+◌, ◌^◌, ◌<◌}
use mathlib.Core.Path.{sym, ap, ◌∙◌, subst}
use borrow.Author.Rules.{rules}
use lib.Dec.{lit≤}
use lib.Pow.{pow_pos}
use Rattle.crc.specs.Word.{remainder}
use Rattle.crc.proofs.WordLaws.{lowered_same, lowered_lt, lowered_word, one_moved}
use Rattle.crc.proofs.six.lowered.Statement.{statement}
use Rattle.crc.proofs.six.lowered.Tie as tie

rem_result : tie.Need-nonzero_rem-result
rem_result c = let k = c.args.k in subst (λ x. 0 < x) (sym (one_moved k c.requires.1)) (pow_pos k)

returns : tie.Need-returns
returns c =
    let (jk, k64, low) = c.requires in
    let a = c.args.a in
    let k = c.args.k in
    let j = c.args.j in
    let e = lowered_word a k j jk k64 (search rules) in (
      ap (remainder 6 64) e ∙ lowered_same 6 (lit≤ tt) 64 k j a jk k64 low (search rules),
      λ m l h. subst (λ x. x < 2 ^ (m + j)) (sym e) (lowered_lt k j m a l h),
    )

pub lowered_spec : {M : Type 1} → statement M
lowered_spec = tie.close (tie.spec (search rules) (search rules) (search rules) rem_result returns)
