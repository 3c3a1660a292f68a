use Rattle.std.proofs.Common.{◌≡◌, ℕ, Bool, rules, tests, sym, ap, ◌∙◌, ◌&&◌, leb, get_or, ne_eqb, eq-eqb}
use Rattle.std.proofs.lemmas.Iterator.{YieldsList-from_slice}
use Rattle.std.proofs.lemmas.Iterator.Search.{all_from_yields_List}
use Rattle.std.specs.List.{list_all}
use Rattle.base.specs.Tab.{all}
use Rattle.write.proofs.Tests.{all_listed}
use Rattle.signalled.specs.Slot16.{nibbles}
use Rattle.signalled.proofs.nibbles.Goals as goal

pub returns-then-octets-n : goal.returns-then-octets-n
unfolding nibbles
returns-then-octets-n c =
    let o = c.args.octets.now in
    let within : ℕ → Bool = λ x. leb c.args.low x && leb x 15 in
    let r : c.all.result ≡ list_all within o =
    all_from_yields_List within _ _ c.all.result c.all.ensures.ran (YieldsList-from_slice o (cc)) (λ x b q k. search (rules, tests)) in
    let t = λ (i : ℕ). within (get_or o i 0) in
    r ∙ all_listed within o ∙ ap (λ m. all m t) c.if-octets-n.true
    ∙ sym (ap (λ b. b && all c.args.n t) (eq-eqb _ _ c.if-octets-n.true))

pub returns-else-octets-n : goal.returns-else-octets-n
unfolding nibbles
returns-else-octets-n c = simp (ne_eqb _ _ c.if-octets-n.false)
