-- `framings` meets its contract.
use mathlib.Core.Path.{refl, sym}
use borrow.Author.Rules.{rules}
use Rattle.t1.specs.Raw.{lacking_by}
use Rattle.t1sliced.proofs.Words.{sliced_same, times_both}
use Rattle.t1.proofs.Lacking.{by_lt, lacking_by_lem}
use Rattle.t1sliced.proofs.Frames.{none_lacking}
use Rattle.t1sliced.proofs.framings.Statement.{statement}
use Rattle.t1sliced.proofs.framings.Tie as tie

returns : tie.Need-returns
returns c =
    let twice = c.before in
    let by-24 = twice.before in
    let by-16 = by-24.before in
    let by_8 = by-16.before in
    let s = by_8.before.before.args.part.now in
    let h8 = by_8.with_eight-by_8.ensures 0 refl (none_lacking s) in
    let h16 = by-16.with_eight-by_16.ensures 8 refl h8 in
    let h24 = by-24.with_eight.ensures 16 refl h16 in
    let r = by-24.with_eight.result in
    let times = times_both 2 1 r twice.times_x2.result c.times_x.result twice.times_x2.ensures c.times_x.ensures in
    sliced_same _ _ c.times_x.result (λ o h. sym (lacking_by_lem s o))
    (times (λ o. lacking_by s o 24) (λ o. by_lt s o 24) h24)

pub framings_spec : {M : Type 1} → statement M
framings_spec =
    tie.close (tie.spec (search rules) (search rules) (search rules) (search rules) (search rules) returns)
