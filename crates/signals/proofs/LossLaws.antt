-- The loss of signalling, and the search after it.
use Rattle.std.specs.Prelude.{if◌then◌else◌}
use Prim.Native.Nat.{ℕ, zero, suc, ◌+◌, ◌-◌, ◌≤◌, ◌<◌}
use mathlib.Core.Path.{◌≡◌, refl, sym, ap, subst, ◌∙◌}
use mathlib.Core.Bool.{Bool, true, false, ◌&&◌, not, and-eq-true_iff}
use mathlib.Core.List.{List}
use mathlib.Core.Logic.{◌↔◌}
use native.Mathlib.Numerals.{add-one}
use native.Mathlib.Omega.{arith}
use borrow.Author.Tests.{eqb-true, eqb-false, not-true}
use lib.Dec.{eqb}
use lib.ListN.{get_or}
use Rattle.signals.specs.Signalling.{signal_at, aligns, Walk, searching, begun, step, walk, loses, starts_in, read_in}
use Rattle.signals.specs.Follow.{begins}
use Rattle.signals.specs.Lost.{Lost}
use Rattle.signals.proofs.Laws.{between, walk_more, next_begun, next_searching, passed_few}
use Rattle.signals.proofs.Starts.{each_start}

-- Where frames of a signalling multiframe have passed, it began so many frames back, and its signal is remembered.
abbrev Back : List ℕ → ℕ → Walk → Type 0
Back t f w = (w.passed ≡ 0 → ⊥) → w.wrong ≡ not (signal_at t (f - w.passed))

module _ (t : List ℕ) where
  step_back : (f : ℕ) (w : Walk) → w.passed ≤ f → Back t f w → Back t (f + 1) (step t f w)
  unfolding step
  step_back f w l k = go (eqb w.passed 0) refl (aligns t f) (eqb w.passed 16) (w.wrong && not (signal_at t f))
    where
      here : not (signal_at t f) ≡ not (signal_at t (f + 1 - 1))
      here = let e : f ≡ f + 1 - 1 = omega arith in ap (λ f. not (signal_at t f)) e

      go : (a : Bool) → eqb w.passed 0 ≡ a → (b c d : Bool)
          → Back t (f + 1)
          (if a then (if b then begun t f else searching) else
          if c then (if d then searching else begun t f) else
          record { passed = w.passed + 1; wrong = w.wrong })
      go true e true c d h = here
      go true e false c d h = absurd (h refl)
      go false e b true true h = absurd (h refl)
      go false e b true false h = here
      go false e b false d h =
          let q : f - w.passed ≡ f + 1 - (w.passed + 1) = omega arith in
          k (eqb-false w.passed 0 e) ∙ ap (λ f. not (signal_at t f)) q

  signal_back : (f : ℕ) → Back t f (walk t f)
  unfolding walk
  signal_back zero = λ h. absurd (h refl)
  signal_back (suc f) =
      subst (λ n. Back t n (step t f (walk t f))) (add-one f) (step_back f (walk t f) (omega (arith, passed_few t f)) (signal_back f))

  -- behind a whole signalling multiframe
  module _ (f : ℕ) (e : (walk t f).passed ≡ 16) where
    pub last_signal : (walk t f).wrong ≡ not (signal_at t (f - 16))
    last_signal = signal_back f (λ z. omega arith) ∙ ap (λ n. not (signal_at t (f - n))) e

    pub held_there : walk t f ≡ between true (not (signal_at t (f - 16)))
    held_there = λ i. record { passed = e i; wrong = last_signal i }

  -- the loss, in the words of the paper
  pub loses_at : (f : ℕ) → loses t f ≡ true ↔ Lost t f
  unfolding loses begins
  loses_at f = (there, back)
    where
      there : eqb (walk t f).passed 16 && eqb (walk t (f + 1)).passed 0 ≡ true → Lost t f
      there e =
          let h = (and-eq-true_iff (eqb (walk t f).passed 16) (eqb (walk t (f + 1)).passed 0)).0 e in
          let a = eqb-true (walk t f).passed 16 h.0 in
          go a (eqb-true (walk t (f + 1)).passed 0 h.1) (not (signal_at t (f - 16)) && not (signal_at t f)) refl
        where
          go : (walk t f).passed ≡ 16 → (walk t (f + 1)).passed ≡ 0 → (b : Bool) → not (signal_at t (f - 16)) && not (signal_at t f) ≡ b → Lost t f
          go a z true e =
              let s = (and-eq-true_iff (not (signal_at t (f - 16))) (not (signal_at t f))).0 e in
              record { whole = a; one = not-true (signal_at t (f - 16)) s.0; two = not-true (signal_at t f) s.1 }
          go a z false e =
              let w = next_begun t f true (not (signal_at t (f - 16))) (held_there f a) (ap not e) in
              let k : ◌≡◌ {A = ℕ} 1 0 = sym (ap (λ (w : Walk). w.passed) w) ∙ z in
              absurd (omega arith)

      back : Lost t f → eqb (walk t f).passed 16 && eqb (walk t (f + 1)).passed 0 ≡ true
      back l =
          let b : not (not (signal_at t (f - 16)) && not (signal_at t f)) ≡ false = rw (l.one, l.two) in
          let w = next_searching t f true (not (signal_at t (f - 16))) (held_there f l.whole) b in
          let z : (walk t (f + 1)).passed ≡ 0 = ap (λ (w : Walk). w.passed) w in
          rw (l.whole, z)

  -- the search goes on with the next frame
  pub searches_on : (f : ℕ) → Lost t f → walk t (f + 1) ≡ searching
  unfolding begins
  searches_on f l =
      next_searching t f true (not (signal_at t (f - 16))) (held_there f l.whole) (rw (l.one, l.two))

  -- until alignment can be taken
  pub searches_until : (f g : ℕ) → walk t f ≡ searching → ((i : ℕ) → f ≤ i → i < f + g → aligns t i ≡ false) → walk t (f + g) ≡ searching
  unfolding begins
  searches_until f zero e h = let z : f + 0 ≡ f = omega arith in ap (walk t) z ∙ e
  searches_until f (suc g) e h =
      let z : f + suc g ≡ f + g + 1 = omega arith in
      ap (walk t) z
      ∙ next_searching t (f + g) false false (searches_until f g e (λ i a b. h i a (omega arith))) (h (f + g) (omega arith) (omega arith))

  pub takes : (f : ℕ) → walk t f ≡ searching → aligns t f ≡ true → walk t (f + 1) ≡ begun t f
  unfolding begins
  takes f e a = next_begun t f false false e a

  -- one wrong signal is forgiven
  pub forgiven : (f : ℕ) → (walk t f).passed ≡ 16 → signal_at t (f - 16) ≡ true → walk t (f + 1) ≡ begun t f
  unfolding begins
  forgiven f e a = next_begun t f true (not (signal_at t (f - 16))) (held_there f e) (rw a)

  -- A signalling multiframe of which frames have passed was begun

  step_begun : (f : ℕ) (w : Walk) → (step t f w).passed ≡ 1 → step t f w ≡ begun t f
  unfolding step
  step_begun f w = go (eqb w.passed 0) refl (aligns t f) (eqb w.passed 16) (w.wrong && not (signal_at t f))
    where
      go : (a : Bool) → eqb w.passed 0 ≡ a → (b c d : Bool)
          → (let v : Walk = if a then (if b then begun t f else searching) else
          if c then (if d then searching else begun t f) else
          record { passed = w.passed + 1; wrong = w.wrong } in
          v.passed ≡ 1 → v ≡ begun t f)
      go true e true c d h = refl
      go true e false c d h = let k : ◌≡◌ {A = ℕ} 0 1 = h in absurd (omega arith)
      go false e b true true h = let k : ◌≡◌ {A = ℕ} 0 1 = h in absurd (omega arith)
      go false e b true false h = refl
      go false e b false d h = let n = eqb-false w.passed 0 e in absurd (n (omega arith))

  step_grown : (f k : ℕ) (w : Walk) → (step t f w).passed ≡ k + 2 → w.passed ≡ k + 1
  unfolding step
  step_grown f k w = go (eqb w.passed 0) (aligns t f) (eqb w.passed 16) (w.wrong && not (signal_at t f))
    where
      go : (a b c d : Bool)
          → (let v : Walk = if a then (if b then begun t f else searching) else
          if c then (if d then searching else begun t f) else
          record { passed = w.passed + 1; wrong = w.wrong } in
          v.passed ≡ k + 2 → w.passed ≡ k + 1)
      go true true c d h = let z : 1 ≡ k + 2 = h in absurd (omega arith)
      go true false c d h = let z : 0 ≡ k + 2 = h in absurd (omega arith)
      go false b true true h = let z : 0 ≡ k + 2 = h in absurd (omega arith)
      go false b true false h = let z : 1 ≡ k + 2 = h in absurd (omega arith)
      go false b false d h = let z : w.passed + 1 ≡ k + 2 = h in omega arith

  begun_back : (k f : ℕ) → (walk t (f + 1)).passed ≡ k + 1 → walk t (f - k + 1) ≡ begun t (f - k)
  begun_back zero f e =
      let z : f - 0 ≡ f = omega arith in
      let w = walk_more t f in
      let b = step_begun f (walk t f) (sym (ap (λ (w : Walk). w.passed) w) ∙ e) in
      subst (λ n. walk t (n + 1) ≡ begun t n) (sym z) (w ∙ b)
  begun_back (suc k) f e =
      let y : suc k + 1 ≡ k + 2 = omega arith in
      let w = step_grown f k (walk t f) (sym (ap (λ (w : Walk). w.passed) (walk_more t f)) ∙ e ∙ y) in
      let few = passed_few t f in
      let z : f - 1 + 1 ≡ f = omega arith in
      let x : f - 1 - k ≡ f - suc k = omega arith in
      subst (λ n. walk t (n + 1) ≡ begun t n) x (begun_back k (f - 1) (ap (λ n. (walk t n).passed) z ∙ w))

  pub start_begun : (n m : ℕ) → m < read_in t n → (let a = get_or (starts_in t n) m 0 in walk t (a + 1) ≡ begun t a)
  start_begun n = each_start t (λ a. walk t (a + 1) ≡ begun t a) n (λ f l e. begun_back 15 f e)
