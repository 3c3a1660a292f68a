use Prim.Native.Nat.{ℕ, zero, suc, ◌+◌, ◌*◌, ◌^◌, ◌<◌, ◌≤◌}
use mathlib.Core.Path.{◌≡◌, refl, sym, ap, ◌∙◌}
use mathlib.Core.List.{List, map}
use lib.ListN.{length}
use native.Mathlib.Numerals.{add-one}
use native.Mathlib.Omega.{arith}
use Rattle.std.proofs.Common.{rules, tests}
use Rattle.std.specs.List.{range_with_len}
use Rattle.std.specs.Prelude as std
use Rattle.std.proofs.lemmas.Iterator.{YieldsList-from_range, YieldsList-from_map}
use Rattle.std.proofs.lemmas.Iterator.Consumers.{YieldsList-at, sum_from_yields_List, fits_from_yields_list}
use Rattle.std.proofs.lemmas.List.FromFn.{sum_by-map-range_with_len_more}
use Rattle.base.specs.Tab.{sum}
use Rattle.base.proofs.TabLaws.{sum_le}
use Rattle.measure.specs.Reading.{zeros_e, far_end}
use Rattle.measure.proofs.far_end.Goals as goal

total : (f : ℕ → ℕ) (n : ℕ) → std.sum (map f (range_with_len 0 n)) ≡ sum n f
unfolding sum
total f zero = refl
total f (suc n) =
    ap (λ m. std.sum (map f (range_with_len 0 m))) (sym (add-one n))
    ∙ sum_by-map-range_with_len_more (λ x. x) f 0 n n (omega arith)
    ∙ ap (λ x. x + f n) (total f n)

few : (s : List ℕ) (q g : ℕ) → 4096 * g ≤ 8 * length s → length s < 2 ^ 60 → std.sum (map (zeros_e s q) (range_with_len 0 g)) < 2 ^ 64
few s q g h l = omega (arith, total (zeros_e s q) g, sum_le g 2 (zeros_e s q) (λ m k. omega arith))

pub sum-requires-clause-fits : goal.sum-requires-clause-fits
sum-requires-clause-fits c =
    let a = c.args in
    let s = a.s.now in
    fits_from_yields_list c.map.result _
    (YieldsList-from_map _ (zeros_e s a.q) (YieldsList-at c.map.ensures.source (YieldsList-from_range 0 a.g a.g refl (omega arith)))
    c.map.ensures.closure
    (λ x r q k. search (rules, tests)))
    (few s a.q a.g (omega (arith, c.requires.there)) c.requires.countable)

pub returns : goal.returns
unfolding far_end
returns c =
    let a = c.args in
    let s = a.s.now in
    sum_from_yields_List c.map.result _ c.sum.ensures.ran
    (YieldsList-from_map _ (zeros_e s a.q) (YieldsList-at c.map.ensures.source (YieldsList-from_range 0 a.g a.g refl (omega arith)))
    c.map.ensures.closure
    (λ x r q k. search (rules, tests)))
    ∙ total (zeros_e s a.q) a.g
