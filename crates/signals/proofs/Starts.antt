-- The signalling multiframes that are read: where they begin, how many there are, and the losses between them.
use Rattle.std.specs.Prelude.{if◌then◌else◌}
use Prim.Native.Nat.{ℕ, zero, suc, ◌+◌, ◌-◌, ◌*◌, ◌%◌, ◌≤◌, ◌<◌}
use mathlib.Core.Path.{◌≡◌, refl, sym, ap, ap₂, subst, ◌∙◌}
use mathlib.Core.Bool.{Bool, true, false, ◌&&◌}
use mathlib.Core.List.{List, [], ◌∷◌, ◌++◌, append-nil}
use native.Mathlib.Numerals.{add-one}
use native.Mathlib.Decide.{dec_lt}
use native.Mathlib.Omega.{arith}
use borrow.Author.Tests.{eq-eqb, ne_eqb, eqb-true, eqb-false}
use lib.Dec.{eqb, lit≤}
use lib.ListN.{length, get_or, length-append, get_or-append}
use lib.Seq.{get_or_at}
use Rattle.base.proofs.TabLaws.{count_yes, count_no}
use Rattle.signals.specs.Signalling.{Walk, begun, step, walk, ends, loses, starts_in, read_in, losses_in}
use Rattle.signals.proofs.Laws.{walk_more, inside, step_passed, passed_most, passed_few}

module _ (t : List ℕ) where
  starts_more : (f : ℕ) → starts_in t (f + 1) ≡ starts_in t f ++ (if ends t f then (f - 15) ∷ [] else [])
  unfolding starts_in
  starts_more f = ap (starts_in t) (add-one f)

  -- one more
  pub starts_new : (f : ℕ) → (walk t (f + 1)).passed ≡ 16 → starts_in t (f + 1) ≡ starts_in t f ++ (f - 15) ∷ []
  unfolding ends
  starts_new f e =
      let here : ends t f ≡ true = eq-eqb (walk t (f + 1)).passed 16 e in
      starts_more f ∙ ap (λ b. starts_in t f ++ (if b then (f - 15) ∷ [] else [])) here

  -- or none
  pub starts_kept : (f : ℕ) → ((walk t (f + 1)).passed ≡ 16 → ⊥) → starts_in t (f + 1) ≡ starts_in t f
  unfolding ends
  starts_kept f h =
      starts_more f ∙ ap (λ b. starts_in t f ++ (if b then (f - 15) ∷ [] else [])) (ne_eqb (walk t (f + 1)).passed 16 h)
      ∙ append-nil (starts_in t f)

  -- a loss more
  pub losses_more : (f : ℕ) → (walk t f).passed ≡ 16 → (walk t (f + 1)).passed ≡ 0 → losses_in t (f + 1) ≡ losses_in t f + 1
  unfolding losses_in loses
  losses_more f a b = count_yes f (loses t) (rw (a, b))

  -- or none
  pub losses_kept : (f : ℕ) → ((walk t f).passed ≡ 16 → (walk t (f + 1)).passed ≡ 0 → ⊥) → losses_in t (f + 1) ≡ losses_in t f
  unfolding losses_in loses
  losses_kept f h = count_no f (loses t) (go (eqb (walk t f).passed 16) (eqb (walk t (f + 1)).passed 0) refl refl)
    where
      go : (a b : Bool) → eqb (walk t f).passed 16 ≡ a → eqb (walk t (f + 1)).passed 0 ≡ b → a && b ≡ false
      go true true p q = absurd (h (eqb-true (walk t f).passed 16 p) (eqb-true (walk t (f + 1)).passed 0 q))
      go true false p q = refl
      go false b p q = refl

  -- inside a signalling multiframe nothing is added
  module _ (f : ℕ) (b : walk t (f + 1) ≡ begun t f) where
    at : (k : ℕ) → k ≤ 15 → (walk t (f + 1 + k)).passed ≡ k + 1
    at k l = ap (λ (w : Walk). w.passed) (inside t f b k l)

    pub starts_inside : (k : ℕ) → k ≤ 14 → starts_in t (f + 1 + k) ≡ starts_in t f
    starts_inside zero l =
        let z : f + 1 + 0 ≡ f + 1 = omega arith in
        ap (starts_in t) z ∙ starts_kept f (λ e. omega (arith, ap (λ (w : Walk). w.passed) b))
    starts_inside (suc k) l =
        let z : f + 1 + suc k ≡ f + 1 + k + 1 = omega arith in
        ap (starts_in t) z
        ∙ starts_kept (f + 1 + k) (λ e. omega (arith, sym (ap (λ n. (walk t n).passed) z) ∙ at (suc k) (omega arith)))
        ∙ starts_inside k (omega arith)

    pub losses_inside : (k : ℕ) → k ≤ 15 → losses_in t (f + 1 + k) ≡ losses_in t f
    losses_inside zero l =
        let z : f + 1 + 0 ≡ f + 1 = omega arith in
        ap (losses_in t) z ∙ losses_kept f (λ d e. omega (arith, ap (λ (w : Walk). w.passed) b))
    losses_inside (suc k) l =
        let z : f + 1 + suc k ≡ f + 1 + k + 1 = omega arith in
        ap (losses_in t) z
        ∙ losses_kept (f + 1 + k) (λ d e. omega (arith, sym (ap (λ n. (walk t n).passed) z) ∙ at (suc k) (omega arith)))
        ∙ losses_inside k (omega arith)

    -- with its last frame it is one more
    pub starts_whole : starts_in t (f + 16) ≡ starts_in t f ++ f ∷ []
    starts_whole =
        let z : f + 16 ≡ f + 1 + 14 + 1 = omega arith in
        let y : f + 1 + 15 ≡ f + 1 + 14 + 1 = omega arith in
        let x : f + 1 + 14 - 15 ≡ f = omega arith in
        ap (starts_in t) z
        ∙ starts_new (f + 1 + 14) (sym (ap (λ n. (walk t n).passed) y) ∙ at 15 (lit≤ tt))
        ∙ ap₂ (λ l a. l ++ a ∷ []) (starts_inside 14 (lit≤ tt)) x

    pub losses_whole : losses_in t (f + 16) ≡ losses_in t f
    losses_whole = let z : f + 16 ≡ f + 1 + 15 = omega arith in ap (losses_in t) z ∙ losses_inside 15 (lit≤ tt)

  -- How many are read

  read_new : (f : ℕ) → (walk t (f + 1)).passed ≡ 16 → read_in t (f + 1) ≡ read_in t f + 1
  read_new f e = ap length (starts_new f e) ∙ length-append (starts_in t f) ((f - 15) ∷ [])

  read_kept : (f : ℕ) → ((walk t (f + 1)).passed ≡ 16 → ⊥) → read_in t (f + 1) ≡ read_in t f
  read_kept f h = ap length (starts_kept f h)

  -- a frame with which one more is read, or none
  either : {P : Type 0} (f : ℕ) → ((walk t (f + 1)).passed ≡ 16 → P) → (((walk t (f + 1)).passed ≡ 16 → ⊥) → P) → P
  either {P} f h k = go (eqb (walk t (f + 1)).passed 16) refl
    where
      go : (b : Bool) → eqb (walk t (f + 1)).passed 16 ≡ b → P
      go true e = h (eqb-true (walk t (f + 1)).passed 16 e)
      go false e = k (eqb-false (walk t (f + 1)).passed 16 e)

  -- those that are read, and what has passed of the next, take up the frames but the first
  read_few : (f : ℕ) → 16 * read_in t f + (walk t f).passed % 16 ≤ f - 1
  unfolding starts_in walk
  read_few zero = lit≤ tt
  read_few (suc f) = subst (λ n. 16 * read_in t n + (walk t n).passed % 16 ≤ n - 1) (add-one f) (next f (read_few f))
    where
      next : (f : ℕ) → 16 * read_in t f + (walk t f).passed % 16 ≤ f - 1 → 16 * read_in t (f + 1) + (walk t (f + 1)).passed % 16 ≤ f + 1 - 1
      next f h =
          let w : (walk t (f + 1)).passed ≡ (step t f (walk t f)).passed = ap (λ (w : Walk). w.passed) (walk_more t f) in
          let n = step_passed t f (walk t f) (passed_most t f) in
          let k = passed_few t (f + 1) in
          either f (λ q. omega (arith, read_new f q)) (λ q. omega (arith, read_kept f q))

  pub few_read : (n : ℕ) → 16 * read_in t n ≤ n - 1
  few_read n = omega (arith, read_few n)

  -- what holds of a signalling multiframe whose last frame is f holds of each that is read
  pub each_start : (P : ℕ → Type 0) (n : ℕ) → ((f : ℕ) → f < n → (walk t (f + 1)).passed ≡ 16 → P (f - 15)) → (m : ℕ) → m < read_in t n
      → P (get_or (starts_in t n) m 0)
  unfolding starts_in
  each_start P zero h = λ m l. absurd (omega arith)
  each_start P (suc n) h =
      subst (λ n. (m : ℕ) → m < read_in t n → P (get_or (starts_in t n) m 0)) (add-one n)
      (next n (h n (omega arith)) (each_start P n (λ f l. h f (omega arith))))
    where
      next : (n : ℕ) → ((walk t (n + 1)).passed ≡ 16 → P (n - 15)) → ((m : ℕ) → m < read_in t n → P (get_or (starts_in t n) m 0))
          → (m : ℕ) → m < read_in t (n + 1) → P (get_or (starts_in t (n + 1)) m 0)
      next n h g m l =
          either n
          (λ q.
          let e = read_new n q in
          rw (starts_new n q)
          (elim (dec_lt m (read_in t n)) [
            | yes k ↦ rw (get_or-append (starts_in t n) ((n - 15) ∷ []) 0 m k) (g m k)
            | no k ↦ rw (get_or_at (starts_in t n) (n - 15) [] 0 m (omega arith)) (h q)
          ]))
          (λ q. rw (starts_kept n q) (g m (omega (arith, read_kept n q))))

  -- so each is whole
  pub start_within : (n m : ℕ) → m < read_in t n → get_or (starts_in t n) m 0 + 16 ≤ n
  start_within n = each_start (λ a. a + 16 ≤ n) n (λ f l e. omega (arith, passed_few t (f + 1)))
