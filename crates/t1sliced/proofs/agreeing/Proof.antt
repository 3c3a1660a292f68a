-- `agreeing` meets its contract.
use Prim.Native.Nat.{ℕ, ◌+◌, ◌*◌}
use mathlib.Core.List.{List, [], ◌∷◌}
use borrow.Author.Rules.{rules}
use lib.Bits.{bit_xor}
use lib.ListN.{get_or}
use Rattle.t1.specs.Superframe.{super_check}
use Rattle.t1.specs.Raw.{raw, lacking}
use Rattle.t1sliced.specs.Sliced.{BitsFrom}
use Rattle.t1sliced.proofs.Words.{below_six, sliced_same, plus_here, times_both}
use Rattle.t1.proofs.Lacking.{whole_lt, whole_check}
use Rattle.t1sliced.proofs.Agree.{ors, agree_exactly}
use Rattle.t1sliced.proofs.agreeing.Statement.{statement}
use Rattle.t1sliced.proofs.agreeing.Tie as tie

returns : tie.Need-returns
unfolding ors
returns c =
    let f6 = c.before in
    let f5 = f6.before in
    let f4 = f5.before in
    let f3 = f4.before in
    let f2 = f3.before in
    let f1 = f2.before in
    let x2 = f1.before in
    let x4 = x2.before in
    let p = x4.before in
    let l = p.before in
    let r = l.before in
    let s = r.before.before.args.part.now in
    let whole = plus_here r.raws.result l.framings.result p.plus_later-whole.result p.plus_later-whole.ensures (raw s) (lacking s) r.raws.ensures l.framings.ensures in
    let six = times_both 4 2 p.plus_later-whole.result x4.times_x4.result x2.times_x2-check.result x4.times_x4.ensures x2.times_x2-check.ensures in
    let check = sliced_same _ (super_check s) x2.times_x2-check.result (λ o h. whole_check s o) (six (λ o. bit_xor (raw s o) (lacking s o)) (whole_lt s) whole) in
    let carrying : List ℕ = f1.framing.result ∷ f2.framing-2.result ∷ f3.framing-3.result ∷ f4.framing-4.result ∷ f5.framing-5.result ∷ f6.framing-6.result ∷ [] in
    agree_exactly s x2.times_x2-check.result carrying check
    (below_six (λ i. BitsFrom s (4825 + 772 * i) (get_or carrying i 0)) f1.framing.ensures f2.framing-2.ensures f3.framing-3.ensures
    f4.framing-4.ensures f5.framing-5.ensures f6.framing-6.ensures)
    c.complement.result c.complement.ensures

pub agreeing_spec : {M : Type 1} → statement M
agreeing_spec =
    tie.close
    (tie.spec
    (search rules) (search rules) (search rules) (search rules) (search rules)
    (search rules) (search rules)
    (search rules) (search rules)
    (search rules) (search rules)
    (search rules) (search rules)
    (search rules) (search rules)
    (search rules) (search rules)
    (search rules)
    returns)
