use Rattle.std.proofs.Common.{◌≡◌, ℕ, ◌<◌, ◌≤◌, List, Option, Some, None, true, false, sym, arith, rules, tests}
use Rattle.std.proofs.lemmas.Iterator.{first_from_Range}
use Rattle.std.specs.Option.{MatchOption}
use Rattle.base.specs.Tab.{least}
use Rattle.base.proofs.ChoiceLaws.{denies}
use Rattle.base.proofs.TabLaws.{least_some}
use Rattle.align.specs.Place.{pair_at}
use Rattle.align.proofs.Laws.{pair_holds, pair_below, no_k}
use Rattle.align.proofs.least_k.Goals as goal

-- past 18 none begins
least_of : (s : List ℕ) (p : ℕ) (r : Option ℕ)
    → MatchOption r ((k : ℕ) → 0 ≤ k → k < 19 → pair_at s p k ≡ false)
    (λ i. (0 ≤ i) × (i < 19) × (pair_at s p i ≡ true) × ((k : ℕ) → 0 ≤ k → k < i → pair_at s p k ≡ false))
    → r ≡ least 32 (pair_at s p)
least_of s p None h = sym ((no_k s p).1 (λ k e. denies (pair_holds s p k) (h k (omega arith) (pair_below s p k e)) e))
least_of s p (Some i) h =
    sym ((least_some 32 (pair_at s p) i).1 (record {
      below = omega arith;
      passes = h.2;
      before = λ j l. h.3 j (omega arith) l;
    }))

pub returns : goal.returns
returns c =
    let s = c.args.s.now in
    let p = c.args.p in
    least_of s p c.find.result
    (first_from_Range _ _ _ _ (λ k. pair_at s p k ≡ true) (λ k. pair_at s p k ≡ false) c.find.ensures.ran
    (λ k q e. search (rules, tests))
    (λ k q e. (search rules, search (rules, tests))))
