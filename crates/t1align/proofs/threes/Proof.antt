-- `threes` meets its contract.
use Prim.Native.Nat.{◌+◌}
use native.Mathlib.Omega.{arith}
use borrow.Author.Rules.{rules}
use lib.Dec.{lit<}
use Rattle.t1align.proofs.Sets.{half_of_bits, where_bit, where_both, where_neither, where_exactly, as_exactly}
use Rattle.t1align.proofs.threes.Statement.{statement}
use Rattle.t1align.proofs.threes.Tie as tie

returns : tie.Need-returns
returns c =
    let x₅ = c.before in
    let x₄ = x₅.before in
    let x₃ = x₄.before in
    let x₂ = x₃.before in
    let x₁ = x₂.before in
    let x₀ = x₁.before in
    let s = x₀.before.before.args.part.now in
    let bit = where_bit 3 (lit< tt) s 0 in
    let both = where_both 3 (lit< tt) in
    rw c.turned.ensures (as_exactly _ _
    (λ o l. (
      λ w. (half_of_bits 0 s o w.1.0 w.0.0.0.0 w.0.0.0.1, half_of_bits 0 s (o + 4632) w.1.1 w.0.0.1 w.0.1),
      λ w. ((((w.0 1 (lit< tt), w.0 2 (lit< tt)), w.1 1 (lit< tt)), w.1 2 (lit< tt)), (w.0 0 (lit< tt), w.1 0 (lit< tt))),
    ))
    _
    (where_exactly 3 (lit< tt) _ _
    (both _ _ _ _
    (both _ _ _ _
    (both _ _ _ _
    (both _ _ _ _
    (bit 1 (λ o. o) 265 _ (λ o. omega arith) x₀.eight_octets.ensures)
    (bit 2 (λ o. o) 458 _ (λ o. omega arith) x₁.eight_octets-2.ensures))
    (bit 1 (λ o. o + 4632) 844 _ (λ o. omega arith) x₂.eight_octets-3.ensures))
    (bit 2 (λ o. o + 4632) 1037 _ (λ o. omega arith) x₃.eight_octets-4.ensures))
    (where_neither 3 (lit< tt) _ _ _ _ (omega arith) (omega arith)
    (bit 0 (λ o. o) 72 _ (λ o. omega arith) x₄.eight_octets-5.ensures)
    (bit 0 (λ o. o + 4632) 651 _ (λ o. omega arith) x₅.eight_octets-6.ensures)))))

pub threes_spec : {M : Type 1} → statement M
threes_spec =
    tie.close
    (tie.spec (search rules) (search rules) (search rules) (search rules) (search rules) (search rules) (search rules) returns)
