use Rattle.std.proofs.Common.{◌≡◌, ℕ, ◌+◌, ◌/◌, ◌^◌, Bool, true, false, List, refl, ◌∙◌, rules, tests}
use Rattle.std.proofs.lemmas.Iterator.{YieldsList-from_range}
use Rattle.std.proofs.lemmas.Iterator.Search.{all_from_yields_List}
use mathlib.Core.Bool.{◌&&◌}
use lib.Bits.{bit_and}
use lib.Dec.{eqb}
use Rattle.base.specs.Tab.{all}
use Rattle.align.specs.Place.{mark, signal_at}
use Rattle.align.proofs.signal.Goals as goal

-- m(k + i) is right, by the constant of the source
abbrev right : List ℕ → ℕ → ℕ → ℕ → Bool
right s p k i = eqb (mark s p (k + i)) (bit_and (0b110100 / 2 ^ i) 1)

six : (a b c d e f : Bool) → a && (b && (c && (d && (e && (f && true))))) ≡ (((((true && a) && b) && c) && d) && e) && f
six false b c d e f = refl
six true false c d e f = refl
six true true false d e f = refl
six true true true false e f = refl
six true true true true false f = refl
six true true true true true false = refl
six true true true true true true = refl

pub returns : goal.returns
unfolding signal_at all
returns c =
    let t : ℕ → Bool = right c.args.s.now c.args.p c.args.k in
    all_from_yields_List t _ _ c.all.result c.all.ensures.ran (YieldsList-from_range 0 6 6 refl refl)
    (λ i b q e. search (rules, tests))
    ∙ six (t 0) (t 1) (t 2) (t 3) (t 4) (t 5)
