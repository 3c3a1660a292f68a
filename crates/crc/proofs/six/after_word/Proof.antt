-- `after_word` meets its contract.
use native.Mathlib.Omega.{arith}
use borrow.Author.Rules.{rules}
use Rattle.crc.proofs.WordLaws.{high_twice, words_behind}
use Rattle.crc.proofs.six.after_word.Statement.{statement}
use Rattle.crc.proofs.six.after_word.Tie as tie

returns : tie.Need-returns
returns c =
    let s = c.before.before.before in
    let h = s.args.a.high in
    let l = s.args.a.low in (
      words_behind h l s.requires (search rules) s.args.w (search rules),
      omega (arith, high_twice h l s.requires (search rules)),
    )

pub after_word_spec : {M : Type 1} → statement M
after_word_spec = tie.close (tie.spec returns)
