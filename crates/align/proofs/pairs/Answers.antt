use Prim.Native.Nat.{ℕ, zero, suc, ◌+◌, ◌*◌, ◌≤◌}
use native.Mathlib.Omega.{arith}
use borrow.Author.Count.{below_more}
use lib.Bits.{bit_and, bit_or}
use lib.ListN.{get_or}
use Rattle.line.specs.Window.{One}
use Rattle.line.proofs.WindowLaws.{and_one, or_one_l, or_one_r}
use Rattle.align.proofs.pairs.Goals as goal

-- one of the three is enough
one_of : (f : ℕ → ℕ) (n j : ℕ) → 1 ≤ j → j ≤ 3 → One (f j) n → One (bit_or (bit_or (f 1) (f 2)) (f 3)) n
one_of f n zero h l e = absurd (omega arith)
one_of f n (suc zero) h l e = or_one_l (bit_or (f 1) (f 2)) (f 3) n (or_one_l (f 1) (f 2) n e)
one_of f n (suc (suc zero)) h l e = or_one_l (bit_or (f 1) (f 2)) (f 3) n (or_one_r (f 1) (f 2) n e)
one_of f n (suc (suc (suc zero))) h l e = or_one_r (bit_or (f 1) (f 2)) (f 3) n e
one_of f n (suc (suc (suc (suc j)))) h l e = absurd (omega arith)

pub loop-k-preserved : goal.loop-k-preserved
loop-k-preserved c =
    let g = c.args.g.now in
    let k = c.loop-k.k in
    let r = c.loop-k.r in
    let more = bit_and (get_or g k 0) (bit_or (bit_or (get_or g (k + 8) 0) (get_or g (k + 16) 0)) (get_or g (k + 24) 0)) in
    below_more _ k
    (λ i h n e j a b f. or_one_l r more n (c.loop-k.invariant i h n e j a b f))
    (λ n e j a b f. or_one_r r more n (and_one _ _ n e (one_of (λ i. get_or g (k + 8 * i) 0) n j a b f)))
