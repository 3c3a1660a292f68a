-- `raws` meets its contract.
use native.Mathlib.Omega.{arith}
use borrow.Author.Rules.{rules}
use Rattle.t1sliced.specs.Sliced.{change}
use Rattle.t1sliced.proofs.Words.{sliced_same}
use Rattle.t1sliced.proofs.Slides.{change_lt}
use Rattle.t1sliced.proofs.Summed.{summed_one, summed_twice, raws_summed}
use Rattle.t1sliced.proofs.raws.Statement.{statement}
use Rattle.t1sliced.proofs.raws.Tie as tie

returns : tie.Need-returns
returns c =
    let t32 = c.before in
    let p32 = t32.before in
    let t16 = p32.before in
    let p16 = t16.before in
    let t8 = p16.before in
    let p8 = t8.before in
    let t4 = p8.before in
    let p4 = t4.before in
    let t2 = p4.before in
    let p2 = t2.before in
    let t1 = p2.before in
    let p1 = t1.before in
    let start = p1.before.before in
    let s = start.args.part.now in
    let lt = change_lt s in
    let h1 = summed_one (change s) lt p1.changes-over_1.result p1.changes-over_1.ensures in
    let h2 = summed_twice (change s) lt 1 p1.changes-over_1.result t1.times_x.result p2.plus_later-over_2.result h1 t1.times_x.ensures p2.plus_later-over_2.ensures in
    let h4 = summed_twice (change s) lt 2 p2.plus_later-over_2.result t2.times_x2.result p4.plus_later-over_4.result h2 t2.times_x2.ensures p4.plus_later-over_4.ensures in
    let h8 = summed_twice (change s) lt 4 p4.plus_later-over_4.result t4.times_x4.result p8.plus_later-over_8.result h4 t4.times_x4.ensures p8.plus_later-over_8.ensures in
    let h16 = summed_twice (change s) lt 8 p8.plus_later-over_8.result t8.times_x8.result p16.plus_later-over_16.result h8 t8.times_x8.ensures p16.plus_later-over_16.ensures in
    let h32 = summed_twice (change s) lt 16 p16.plus_later-over_16.result t16.times_x16.result p32.plus_later-over_32.result h16 t16.times_x16.ensures p32.plus_later-over_32.ensures in
    let h64 = summed_twice (change s) lt 32 p32.plus_later-over_32.result t32.times_x32.result c.plus_later.result h32 t32.times_x32.ensures c.plus_later.ensures in
    sliced_same _ _ c.plus_later.result (λ o h. raws_summed s o (omega arith)) h64

pub raws_spec : {M : Type 1} → statement M
raws_spec =
    tie.close
    (tie.spec (search rules)
    (search rules) (search rules)
    (search rules) (search rules)
    (search rules) (search rules)
    (search rules) (search rules)
    (search rules) (search rules)
    (search rules) (search rules)
    returns)
