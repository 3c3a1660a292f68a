-- At the head of the search no place before p is wanted, and at the head of the inner loop no k before k has a pair.
use Rattle.std.proofs.Common.{◌≡◌, ◌-◌, ◌≤◌, ◌<◌, ℕ, Some}
use Rattle.std.specs.Option.{is_some}
use Rattle.align.specs.Stands.{BasicFirst, Pair}
use Rattle.align.specs.Window.{Wanted}
use Rattle.align.proofs.find.Given as goal

abbrev pub invariant-loop-k : goal.invariant-loop-k
invariant-loop-k l = (l.k ≤ 19) × ((j : ℕ) → j < l.k → Pair l.s l.p j → ⊥)

abbrev pub invariant-search : goal.invariant-search
invariant-search l =
    (l.p ≤ l.bits) × ((q : ℕ) → q < l.p → Wanted l.s (is_some l.first) q → ⊥) × ((f : ℕ) → l.first ≡ Some f → BasicFirst l.s f)

abbrev pub decreases-search : goal.decreases-search
decreases-search l = l.bits - l.p
