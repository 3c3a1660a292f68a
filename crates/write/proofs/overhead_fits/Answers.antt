use Rattle.std.proofs.Common.{◌≡◌, ℕ, rules, tests, sym, ◌∙◌, ltb, length, Bool, ne_eqb, eq-eqb, ap, ◌&&◌, get_or}
use Rattle.base.specs.Tab.{all}
use Rattle.std.proofs.lemmas.Iterator.{YieldsList-from_slice}
use Rattle.std.proofs.lemmas.Iterator.Consumers.{YieldsList-from_enumerate}
use Rattle.std.proofs.lemmas.Iterator.Search.{all_from_yields_List}
use Rattle.std.specs.List.{list_all, enumerate_from}
use Rattle.write.specs.Entry.{overhead_limit, overhead_fits}
use Rattle.write.proofs.Tests.{all_enumerated}
use Rattle.write.proofs.overhead_fits.Goals as goal

pub returns-then-overhead-n : goal.returns-then-overhead-n
unfolding overhead_fits
returns-then-overhead-n c =
    let o = c.args.overhead.now in
    let within : ℕ → ℕ → Bool = λ h x. ltb x (overhead_limit h) in
    let r : c.all.result ≡ list_all (λ (p : ℕ × ℕ). within p.0 p.1) (enumerate_from 0 o) =
    all_from_yields_List (λ (p : ℕ × ℕ). within p.0 p.1) _ _ c.all.result c.all.ensures.ran
    (YieldsList-from_enumerate (YieldsList-from_slice o (cc)) (cc)) (λ x b q k. search (rules, tests)) in
    r ∙ all_enumerated within o ∙ sym (ap (λ b. b && all (length o) (λ h. within h (get_or o h 0))) (eq-eqb _ _ c.if-overhead-n.true))

pub returns-else-overhead-n : goal.returns-else-overhead-n
unfolding overhead_fits
returns-else-overhead-n c = simp (ne_eqb _ _ c.if-overhead-n.false)
