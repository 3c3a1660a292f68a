use Rattle.std.proofs.Common.{◌≡◌, ℕ, ◌+◌, ◌*◌, ◌≤◌, ◌<◌, Bool, true, List, length, Option, Some, None, sym, ap, ap₂, ◌∙◌, refl, arith, below_more}
use mathlib.Core.Bool.{true≢false}
use mathlib.Core.Logic.{inl, inr}
use native.Mathlib.Decide.{dec_lt}
use Rattle.std.specs.Option.{is_some, option_or}
use Rattle.align.specs.Place.{first_basic, found, found_in}
use Rattle.align.specs.Stands.{Basic, BasicFirst, Pair, Stands}
use Rattle.align.specs.Window.{NoneFrom, Wanted}
use Rattle.base.proofs.ChoiceLaws.{denies}
use Rattle.base.proofs.OptionLaws.{some-injective}
use Rattle.align.proofs.Laws.{basic_holds, pair_holds, pair_below, none_stands, basic_first, none_basic, finds_at, wanted_basic}
use Rattle.align.proofs.find.Goals as goal
use Rattle.align.proofs.find.Goals.{then-basic+else-loop-k-test, else-basic}

-- no place before p is wanted, and what is noted is the first place with basic alignment
module _ (s : List ℕ) (p : ℕ) (first : Option ℕ) (before : (q : ℕ) → q < p → Wanted s (is_some first) q → ⊥)
    (noted : (f : ℕ) → first ≡ Some f → BasicFirst s f) where
  none_before : (q : ℕ) → q < p → (k : ℕ) → Stands s q k → ⊥
  none_before q l k h = before q l (inl (k, h))

  no_basic : first ≡ None → (q : ℕ) → q < p → Basic s q → ⊥
  no_basic e q l b = before q l (inr (ap is_some e, b))

  -- so what is answered where no later place has room is right
  nowhere : 8 * length s < p + 16384 → found None first ≡ found_in s
  nowhere end =
      ap₂ found (sym ((none_stands s).1 (λ q k h. none_before q (omega (arith, h.room)) k h))) (sym (basic first refl))
    where
      basic : (o : Option ℕ) → first ≡ o → first_basic s ≡ o
      basic None e = (none_basic s).1 (λ q room. no_basic e q (omega arith))
      basic (Some f) e = (basic_first s f).1 (noted f e)

  module _ (room : p + 16384 ≤ 8 * length s) where
    -- it stays so past a place that has no basic alignment
    past_other : (Basic s p → ⊥) → (q : ℕ) → q < p + 1 → Wanted s (is_some first) q → ⊥
    past_other other = below_more _ p before (λ w. other (wanted_basic s (is_some first) p w))

    -- and past one that has, and no pair, once it is noted
    module _ (basic : Basic s p) (unpaired : (k : ℕ) → Pair s p k → ⊥) where
      known : (o : Option ℕ) → is_some (option_or o (Some p)) ≡ true
      known None = refl
      known (Some f) = refl

      past_basic : (q : ℕ) → q < p + 1 → Wanted s (is_some (option_or first (Some p))) q → ⊥
      past_basic =
          below_more _ p
          (λ q l w. none_before q l (standing_there q w).0 (standing_there q w).1)
          (λ w. unpaired (standing_there p w).0 (standing_there p w).1.pair)
        where
          standing_there : (q : ℕ) → Wanted s (is_some (option_or first (Some p))) q → (k : ℕ) × Stands s q k
          standing_there q (inl w) = w
          standing_there q (inr w) = absurd (true≢false (sym (known first) ∙ w.0))

      noted_basic : (f : ℕ) → option_or first (Some p) ≡ Some f → BasicFirst s f
      noted_basic = go first refl
        where
          go : (o : Option ℕ) → first ≡ o → (f : ℕ) → option_or o (Some p) ≡ Some f → BasicFirst s f
          go None e f is =
              let here : BasicFirst s p = record { room = room; basic = basic; before = no_basic e } in
              rw (some-injective p f is) at here
          go (Some g) e f is = noted f (e ∙ is)

-- past the places that need no look
onward_before : (s : List ℕ) (first : Option ℕ) (known : Bool) (p₀ p : ℕ) → known ≡ is_some first
    → ((q : ℕ) → q < p₀ → Wanted s (is_some first) q → ⊥)
    → NoneFrom (Wanted s known) p₀ p
    → (q : ℕ) → q < p → Wanted s (is_some first) q → ⊥
onward_before s first known p₀ p e before between q l w =
    elim (dec_lt q p₀) [ yes g ↦ before q g w | no g ↦ between q (omega arith) l (rw e w) ]

pub returns-in-Some : goal.returns-in-Some
returns-in-Some c =
    let s = c.args.s.now in
    let before = onward_before s c.search.first _ c.search.p _ c.is_some.ensures c.search.invariant.1 c.onward-p.ensures.2 in
    ap (found None) (sym c.in-Some.is) ∙ nowhere s c.onward-p.result c.search.first before c.search.invariant.2 (omega arith)

pub returns-in-None : goal.returns-in-None
returns-in-None c =
    let s = c.args.s.now in
    let before = onward_before s c.search.first _ c.search.p _ c.is_some.ensures c.search.invariant.1 c.onward-p.ensures.2 in
    ap (found None) (sym c.in-None.is) ∙ nowhere s c.onward-p.result c.search.first before c.search.invariant.2 (omega arith)

pub loop-k-init : goal.loop-k-init
loop-k-init c = (omega arith, λ j l h. absurd (omega arith))

pub loop-k-preserved : goal.loop-k-preserved
loop-k-preserved c =
    let k = c.loop-k.k in
    (omega arith, below_more _ k c.loop-k.invariant.1 (denies (pair_holds c.args.s.now c.onward-p.result k) (sym c.pair.ensures ∙ c.if-pair.false)))

pub returns-then-pair : goal.returns-then-pair
returns-then-pair c =
    let s = c.args.s.now in
    let p = c.onward-p.result in
    let k = c.loop-k.k in
    let before = onward_before s c.search.first _ c.search.p p c.is_some.ensures c.search.invariant.1 c.onward-p.ensures.2 in
    let w : Stands s p k = record {
      room = omega arith;
      basic = (basic_holds s p).0 (sym c.basic.ensures ∙ c.if-basic.true);
      pair = (pair_holds s p k).0 (sym c.pair.ensures ∙ c.if-pair.true);
      least = c.loop-k.invariant.1;
    } in
    sym ((finds_at s p k).1 (record { stands = w; before = λ q j h. none_before s p c.search.first before c.search.invariant.2 q h j }))

pub search-preserved : goal.search-preserved
search-preserved c =
    let s = c.args.s.now in
    let p = c.onward-p.result in
    let first = c.search.first in
    let before = onward_before s first _ c.search.p p c.is_some.ensures c.search.invariant.1 c.onward-p.ensures.2 in
    let noted = c.search.invariant.2 in
    let room : p + 16384 ≤ 8 * length s = omega arith in
    elim c.if-basic.branch [
      | then-basic+else-loop-k-test w ↦
          let e : c.if-basic.first ≡ option_or first (Some p) = w.first-is ∙ w.or-first.ensures in
          let basic = (basic_holds s p).0 (sym c.basic.ensures ∙ w.if-basic.true) in
          let unpaired : (k : ℕ) → Pair s p k → ⊥ = λ k h. w.loop-k.invariant.1 k (omega (arith, pair_below s p k h)) h in
          (omega arith, rw e (past_basic s p first before noted room basic unpaired), rw e (noted_basic s p first before noted room basic unpaired))
      | else-basic w ↦
          let other = denies (basic_holds s p) (sym c.basic.ensures ∙ w.if-basic.false) in
          (omega arith, rw w.first-is (past_other s p first before noted room other), rw w.first-is noted)
    ]
