-- The laws of the walk from frame to frame, and of the first alignment.
use Rattle.std.specs.Prelude.{if◌then◌else◌}
use Prim.Native.Nat.{ℕ, zero, suc, ◌+◌, ◌-◌, ◌/◌, ◌%◌, ◌≤◌, ◌<◌}
use mathlib.Core.Path.{◌≡◌, refl, sym, ap, ◌∙◌}
use mathlib.Core.Bool.{Bool, true, false, ◌&&◌, not, true≢false}
use mathlib.Core.List.{List}
use Rattle.std.specs.Prelude.{Option, None, Some}
use native.Mathlib.Nat.{zero-add}
use native.Mathlib.Numerals.{add-one}
use native.Mathlib.Omega.{arith}
use borrow.Author.Tests.{ne_eqb, eqb-false, le-leb, lt-leb}
use lib.Dec.{eqb, lit≤}
use lib.ListN.{get_or}
use Rattle.base.specs.Choice.{value_or}
use Rattle.base.specs.Tab.{least}
use Rattle.base.proofs.TabLaws.{Least, least_some, some_least, least_more, least_none}
use Rattle.signals.specs.Signalling.{signal_at, aligns, Walk, searching, begun, step, walk, first_in, abcd_at}
use Rattle.signals.specs.Follow.{begins}

-- A to D of channels 1 to 15, and of 16 to 30, by an index from 0

pub high_four : (t : List ℕ) (i : ℕ) → i < 15 → get_or t (i + 1) 0 / 16 ≡ abcd_at t 0 (i + 1)
high_four t i h = rw (le-leb (i + 1) 15 (omega arith), zero-add (i + 1))

pub low_four : (t : List ℕ) (i : ℕ) → 15 ≤ i → get_or t (i - 14) 0 % 16 ≡ abcd_at t 0 (i + 1)
low_four t i h =
    let z : i + 1 - 15 ≡ i - 14 = omega arith in
    rw (lt-leb (i + 1) 15 (omega arith), z, zero-add (i - 14))

-- between two signalling multiframes: alignment is held, the last signal right or wrong, or it is searched for
abbrev pub between : Bool → Bool → Walk
between true wrong = record { passed = 16; wrong = wrong }
between false wrong = searching

module _ (t : List ℕ) where
  -- frame f, with the frame before it
  pub aligns_later : (f : ℕ) → (f ≡ 0 → ⊥) → signal_at t f && not (eqb (get_or t (f - 1) 0) 0) ≡ aligns t f
  unfolding aligns
  aligns_later zero h = absurd (h refl)
  aligns_later (suc f) h =
      let z : suc f - 1 ≡ f = omega arith in
      ap (λ g. signal_at t (suc f) && not (eqb (get_or t g 0) 0)) z

  pub walk_more : (f : ℕ) → walk t (f + 1) ≡ step t f (walk t f)
  unfolding walk
  walk_more f = ap (walk t) (add-one f)

  module _ (f : ℕ) (held wrong : Bool) (e : walk t f ≡ between held wrong) where
    next : walk t (f + 1) ≡ (if begins t f held wrong then begun t f else searching)
    unfolding step begins
    next = walk_more f ∙ ap (step t f) e ∙ go held
      where
        go : (h : Bool) → step t f (between h wrong) ≡ (if begins t f h wrong then begun t f else searching)
        go true = at (wrong && not (signal_at t f))
          where
            at : (b : Bool) → (if b then searching else begun t f) ≡ (if not b then begun t f else searching)
            at true = refl
            at false = refl
        go false = refl

    pub next_begun : begins t f held wrong ≡ true → walk t (f + 1) ≡ begun t f
    next_begun b = next ∙ ap (λ b. if b then begun t f else searching) b

    pub next_searching : begins t f held wrong ≡ false → walk t (f + 1) ≡ searching
    next_searching b = next ∙ ap (λ b. if b then begun t f else searching) b

  -- k frames on in a signalling multiframe that began with frame f
  abbrev pub within : ℕ → ℕ → Walk
  within f k = record { passed = k + 1; wrong = not (signal_at t f) }

  pub inside : (f : ℕ) → walk t (f + 1) ≡ begun t f → (k : ℕ) → k ≤ 15 → walk t (f + 1 + k) ≡ within f k
  unfolding step
  inside f b zero l =
      let z : f + 1 + 0 ≡ f + 1 = omega arith in
      ap (walk t) z ∙ b
  inside f b (suc k) l =
      let z : f + 1 + suc k ≡ f + 1 + k + 1 = omega arith in
      let p : k + 1 + 1 ≡ suc k + 1 = omega arith in
      ap (walk t) z ∙ walk_more (f + 1 + k) ∙ ap (step t (f + 1 + k)) (inside f b k (omega arith))
      ∙ rw (ne_eqb (k + 1) 0 (λ q. omega arith), ne_eqb (k + 1) 16 (λ q. omega arith))
      (ap (λ n. record { passed = n; wrong = not (signal_at t f) }) p)

  -- all 16 frames of it
  pub whole_passed : (f : ℕ) → walk t (f + 1) ≡ begun t f → walk t (f + 16) ≡ between true (not (signal_at t f))
  whole_passed f b = let z : f + 16 ≡ f + 1 + 15 = omega arith in ap (walk t) z ∙ inside f b 15 (lit≤ tt)

  -- a frame more passes one at most
  pub step_passed : (f : ℕ) (w : Walk) → w.passed ≤ 16 → (step t f w).passed ≤ w.passed % 16 + 1
  unfolding step
  step_passed f w h = go (eqb w.passed 0) (aligns t f) (eqb w.passed 16) refl (w.wrong && not (signal_at t f))
    where
      go : (a b c : Bool) → eqb w.passed 16 ≡ c → (d : Bool)
          → (if a then (if b then begun t f else searching) else
          if c then (if d then searching else begun t f) else
          record { passed = w.passed + 1; wrong = w.wrong }).passed ≤ w.passed % 16 + 1
      go true true c e d = omega arith
      go true false c e d = omega arith
      go false b true e true = omega arith
      go false b true e false = omega arith
      go false b false e d = let n = eqb-false w.passed 16 e in omega arith

  pub passed_most : (f : ℕ) → (walk t f).passed ≤ 16
  unfolding walk
  passed_most zero = lit≤ tt
  passed_most (suc f) = omega (arith, step_passed f (walk t f) (passed_most f))

  -- and frame 0 is never taken
  step_0 : step t 0 searching ≡ searching
  unfolding step aligns
  step_0 = refl

  pub passed_few : (f : ℕ) → (walk t f).passed ≤ f - 1
  unfolding walk
  passed_few zero = lit≤ tt
  passed_few (suc zero) = rw step_0 (lit≤ tt)
  passed_few (suc (suc f)) =
      omega (arith, passed_few (suc f), step_passed (suc f) (step t f (walk t f)) (passed_most (suc f)))

  -- The first alignment

  -- 0 says that there is none
  pub first_none : (f : ℕ) → first_in t f ≡ 0 → least f (aligns t) ≡ None
  unfolding first_in aligns
  first_none f z = go (least f (aligns t)) refl z
    where
      go : (o : Option ℕ) → least f (aligns t) ≡ o → value_or o 0 ≡ 0 → o ≡ None
      go None e z = refl
      go (Some i) e z =
          let l = (least_some f (aligns t) i).0 e in
          absurd (true≢false (sym l.passes ∙ ap (aligns t) z))

  pub none_first : (f : ℕ) → least f (aligns t) ≡ None → first_in t f ≡ 0
  unfolding first_in
  none_first f e = ap (λ o. value_or o 0) e

  pub first_set : (f : ℕ) → first_in t f ≡ 0 → aligns t f ≡ true → first_in t (f + 1) ≡ f
  unfolding first_in
  first_set f z a = ap (λ o. value_or o 0) (some_least (f + 1) f (aligns t) (omega arith) (first_none f z) a)

  pub first_unset : (f : ℕ) → first_in t f ≡ 0 → aligns t f ≡ false → first_in t (f + 1) ≡ 0
  first_unset f z a = none_first (f + 1) (least_more f (aligns t) (first_none f z) a)

  pub first_kept : (f n : ℕ) → (first_in t f ≡ 0 → ⊥) → f ≤ n → first_in t n ≡ first_in t f
  unfolding first_in
  first_kept f n h l = go (least f (aligns t)) refl h
    where
      go : (o : Option ℕ) → least f (aligns t) ≡ o → (value_or o 0 ≡ 0 → ⊥) → value_or (least n (aligns t)) 0 ≡ value_or o 0
      go None e h = absurd (h refl)
      go (Some i) e h =
          let k = (least_some f (aligns t) i).0 e in
          let m : Least n (aligns t) i = record { below = omega (arith, k.below); passes = k.passes; before = k.before } in
          ap (λ o. value_or o 0) ((least_some n (aligns t) i).1 m)

  -- frame 0 is never taken
  pub taken_later : (f : ℕ) → aligns t f ≡ true → 1 ≤ f
  unfolding aligns
  taken_later zero a = absurd (true≢false (sym a))
  taken_later (suc f) a = omega arith

  -- until then it is searched for
  pub unset_searching : (f : ℕ) → first_in t f ≡ 0 → walk t f ≡ searching
  unfolding walk begins
  unset_searching f z = go f (least_none f (aligns t) (first_none f z))
    where
      go : (f : ℕ) → ((i : ℕ) → i < f → aligns t i ≡ false) → walk t f ≡ searching
      go zero h = refl
      go (suc f) h = ap (walk t) (sym (add-one f)) ∙ next_searching f false false (go f (λ i l. h i (omega arith))) (h f (omega arith))
