use Rattle.std.proofs.Common.{rules, ◌≡◌, ℕ, List, sym}
use Rattle.base.specs.Tab.{tab}
use Rattle.base.proofs.TabLaws.{tab_of}
use Rattle.exchange.proofs.State.start.Goals as goal

-- every slot takes from itself
its_slots : (l : List ℕ) → l ≡ tab 32 (λ j. j) → ℕ
its_slots l e = 0

pub returns : goal.returns
returns c =
    let h = c.from_fn.ensures.items in
    let e : c.from_fn.result ≡ tab 32 (λ j. j) = sym (tab_of 32 (λ j. j) c.from_fn.result h.long (λ i l. let w = h.at i 0 l in search rules)) in rw e
