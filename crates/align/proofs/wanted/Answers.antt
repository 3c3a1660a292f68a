use Prim.Native.Nat.{ℕ}
use mathlib.Core.Path.{◌≡◌, sym, ◌∙◌}
use mathlib.Core.Bool.{Bool, true, true≢false}
use mathlib.Core.List.{List}
use mathlib.Core.Logic.{inl, inr}
use Rattle.align.specs.Window.{Paired, Wanted}
use Rattle.line.proofs.WindowLaws.{and_one}
use Rattle.align.proofs.Laws.{wanted_basic}
use Rattle.align.proofs.wanted.Goals as goal

-- a place that is wanted once one is known has a pair
wanted_paired : (s : List ℕ) (known : Bool) (q : ℕ) → known ≡ true → Wanted s known q → Paired s q
wanted_paired s known q e (inl w) = (w.0, w.1.pair)
wanted_paired s known q e (inr w) = absurd (true≢false (sym e ∙ w.0))

pub returns : goal.returns
returns c o l h =
    let s = c.args.s.now in
    let known = c.args.known in
    and_one _ _ _ (c.requires.1 o l (wanted_basic s known _ h)) (c.paired.ensures o l (wanted_paired s known _ c.if-not-known.false h))
