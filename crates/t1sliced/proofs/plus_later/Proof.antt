-- `plus_later` meets its contract.
use Prim.Native.Nat.{ℕ}
use mathlib.Core.List.{List, [], ◌∷◌}
use lib.Dec.{lit<}
use lib.ListN.{get_or}
use Rattle.t1sliced.specs.Sliced.{BitsLater}
use Rattle.t1sliced.proofs.Words.{below_six, plus_words}
use Rattle.t1sliced.proofs.plus_later.Statement.{statement}
use Rattle.t1sliced.proofs.plus_later.Tie as tie

returns : tie.Need-returns
returns c =
    let b4 = c.before in
    let b3 = b4.before in
    let b2 = b3.before in
    let b1 = b2.before in
    let b0 = b1.before in
    let a = b0.before.args in
    let x : List ℕ = b0.later.result ∷ b1.later-2.result ∷ b2.later-3.result ∷ b3.later-4.result ∷ b4.later-5.result ∷ c.later-6.result ∷ [] in
    plus_words a.n a.a a.b x
    (below_six (λ t. BitsLater a.n (get_or a.b t 0) (get_or x t 0)) b0.later.ensures b1.later-2.ensures b2.later-3.ensures
    b3.later-4.ensures b4.later-5.ensures c.later-6.ensures)

pub plus_later_spec : {M : Type 1} → statement M
plus_later_spec =
    tie.close
    (tie.spec
    (λ c. lit< tt) (λ c. lit< tt) (λ c κs. c.requires)
    (λ c. lit< tt) (λ c. lit< tt) (λ c κs. c.before.requires)
    (λ c. lit< tt) (λ c. lit< tt) (λ c κs. c.before.before.requires)
    (λ c. lit< tt) (λ c. lit< tt) (λ c κs. c.before.before.before.requires)
    (λ c. lit< tt) (λ c. lit< tt) (λ c κs. c.before.before.before.before.requires)
    (λ c. lit< tt) (λ c. lit< tt) (λ c κs. c.before.before.before.before.before.requires)
    returns)
