-- `changes` meets its contract.
use Prim.Native.Nat.{ℕ, ◌/◌}
use mathlib.Core.List.{List, [], ◌∷◌}
use borrow.Author.Rules.{rules}
use lib.ListN.{get_or}
use Rattle.t1sliced.specs.Sliced.{TopBit}
use Rattle.t1sliced.proofs.Words.{below_six}
use Rattle.t1sliced.proofs.Changed.{window_later, changes_sliced}
use Rattle.t1sliced.proofs.changes.Statement.{statement}
use Rattle.t1sliced.proofs.changes.Tie as tie

returns : tie.Need-returns
returns c =
    let b4 = c.before in
    let b3 = b4.before in
    let b2 = b3.before in
    let b1 = b2.before in
    let b0 = b1.before in
    let come = b0.before.window-come in
    let gone = b0.before.before.window-gone in
    let start = b0.before.before.before.before in
    let s = start.args.part.now in
    let at = start.args.at in
    let tops : List ℕ = b0.top.result ∷ b1.top-2.result ∷ b2.top-3.result ∷ b3.top-4.result ∷ b4.top-5.result ∷ c.top-6.result ∷ [] in
    changes_sliced s tops at (come.result / 2) (gone.result / 2) start.requires.1
    (below_six (λ t. TopBit at t (get_or tops t 0)) b0.top.ensures b1.top-2.ensures b2.top-3.ensures b3.top-4.ensures
    b4.top-5.ensures c.top-6.ensures)
    (window_later s 4632 come.result come.ensures) (window_later s 0 gone.result gone.ensures)

pub changes_spec : {M : Type 1} → statement M
changes_spec =
    tie.close
    (tie.spec
    (search rules) (search rules)
    (search rules) (search rules) (search rules) (search rules) (search rules) (search rules)
    returns)
