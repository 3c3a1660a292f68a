-- `sevens` meets its contract.
use native.Mathlib.Omega.{arith}
use borrow.Author.Rules.{rules}
use lib.Dec.{lit<}
use Rattle.t1align.proofs.Sets.{half_of_bits, where_bit, where_both, where_neither, where_exactly, as_exactly}
use Rattle.t1align.proofs.sevens.Statement.{statement}
use Rattle.t1align.proofs.sevens.Tie as tie

returns : tie.Need-returns
returns c =
    let x₂ = c.before in
    let x₁ = x₂.before in
    let x₀ = x₁.before in
    let s = x₀.before.before.args.octets.now in
    let bit = where_bit 7 (lit< tt) s 1 in
    rw c.turned.ensures (as_exactly _ _
    (λ o l. (λ w. half_of_bits 1 s o w.1.0 w.1.1 w.0, λ w. (w 2 (lit< tt), (w 0 (lit< tt), w 1 (lit< tt)))))
    _
    (where_exactly 7 (lit< tt) _ _
    (where_both 7 (lit< tt) _ _ _ _
    (bit 2 (λ o. o) 554 _ (λ o. omega arith) x₀.eight_octets.ensures)
    (where_neither 7 (lit< tt) _ _ _ _ (omega arith) (omega arith)
    (bit 0 (λ o. o) 168 _ (λ o. omega arith) x₁.eight_octets-2.ensures)
    (bit 1 (λ o. o) 361 _ (λ o. omega arith) x₂.eight_octets-3.ensures)))))

pub sevens_spec : {M : Type 1} → statement M
sevens_spec = tie.close (tie.spec (search rules) (search rules) (search rules) (search rules) returns)
