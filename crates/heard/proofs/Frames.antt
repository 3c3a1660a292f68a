-- One frame more: counts grow by one at most.
use Rattle.std.specs.Prelude.{if◌then◌else◌}
use Prim.Native.Nat.{ℕ, ◌+◌, ◌/◌, ◌≤◌}
use mathlib.Core.Bool.{Bool, true, false, ◌&&◌, not}
use mathlib.Core.List.{[], ◌∷◌}
use native.Mathlib.Omega.{arith}
use lib.Dec.{eqb, lit≤}
use lib.ListN.{get_or}
use Rattle.signals.specs.Signalling.{aligns, Walk, searching, step}
use Rattle.heard.specs.declared.Hearing.{Hearing}
use Rattle.heard.specs.Hearing.{Few, nothing, walk_of, tallied, after_frame}

module _ (h : Hearing) (octet : ℕ) where
  abbrev signal : Bool
  signal = eqb (octet / 16) 0

  abbrev stepped : Walk
  stepped = step (get_or h.row 15 0 ∷ octet ∷ []) 1 (walk_of h)

  -- counts can be added to for long
  passed_more : (n : ℕ) → h.passed ≤ n → stepped.passed ≤ n + 1
  unfolding step
  passed_more n l =
      go (eqb h.passed 0) (aligns (get_or h.row 15 0 ∷ octet ∷ []) 1) (eqb h.passed 16) (h.wrong && not signal)
    where
      go : (a b c d : Bool)
          → (let w : Walk = if a then (if b then record { passed = 1; wrong = not signal } else searching) else
          if c then (if d then searching else record { passed = 1; wrong = not signal }) else
          record { passed = h.passed + 1; wrong = h.wrong } in
          w.passed ≤ n + 1)
      go true true c d = omega arith
      go true false c d = omega arith
      go false b true true = omega arith
      go false b true false = omega arith
      go false b false d = omega arith

  one_more : (b : Bool) (m n : ℕ) → m ≤ n → (if b then m + 1 else m) ≤ n + 1
  one_more true m n l = omega arith
  one_more false m n l = omega arith

  pub few_more : (n : ℕ) → Few h n → Few (after_frame h octet) (n + 1)
  unfolding after_frame tallied
  few_more n f =
      record {
        frames = omega (arith, f.frames);
        passed = passed_more n f.passed;
        multiframes = one_more (eqb stepped.passed 16) h.multiframes n f.multiframes;
        losses = one_more (eqb h.passed 16 && eqb stepped.passed 0) h.losses n f.losses;
      }

pub few_nothing : Few nothing 0
few_nothing = record { frames = lit≤ tt; passed = lit≤ tt; multiframes = lit≤ tt; losses = lit≤ tt }
