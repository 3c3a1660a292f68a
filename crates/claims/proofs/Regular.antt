-- A line whose signalling multiframes follow each other from frame 0 on, with the signal in frame 0 of each and nowhere
-- else: alignment is taken at frame 16, and is held from there on.
use Prim.Native.Nat.{ℕ, zero, suc, ◌+◌, ◌-◌, ◌*◌, ◌/◌, ◌%◌, ◌≤◌, ◌<◌}
use mathlib.Core.Path.{◌≡◌, refl, sym, ap, ap₂, ◌∙◌}
use mathlib.Core.Bool.{true, false, ◌&&◌, not}
use mathlib.Core.List.{List, [], ◌∷◌, ◌++◌}
use native.Mathlib.Numerals.{add-one}
use native.Mathlib.Omega.{arith}
use borrow.Author.Tests.{ne_eqb, eqb-false, lt-ltb}
use lib.Dec.{eqb, ltb, lit≤}
use lib.ListN.{length, get_or}
use Rattle.base.specs.Tab.{tab, tab_from, sum, first}
use Rattle.base.proofs.TabLaws.{length_tab, tab_more}
use Rattle.signals.specs.Signalling.{signal_at, aligns, Walk, walk, starts_in, read_in, first_in, losses_in, held_in}
use Rattle.signals.specs.Follow.{begins}
use Rattle.signals.proofs.Laws.{between, aligns_later, next_begun, whole_passed, passed_few, first_set, first_unset, first_kept, unset_searching}
use Rattle.signals.proofs.Starts.{few_read, losses_kept, starts_whole, losses_whole}

pub record Regular (t : List ℕ) (n : ℕ) : Type 0 where
  pub right : (m : ℕ) → m < n → signal_at t (16 * m) ≡ true
  pub other : (f : ℕ) → f < 16 * n → (f % 16 ≡ 0 → ⊥) → signal_at t f ≡ false

module _ {t : List ℕ} {n : ℕ} (g : Regular t n) (two : 2 ≤ n) where
  -- nowhere before frame 16
  quiet : (f : ℕ) → f < 16 → aligns t f ≡ false
  unfolding aligns
  quiet zero l = refl
  quiet (suc f) l = ap (λ b. b && not (eqb (get_or t f 0) 0)) (g.other (suc f) (omega arith) (λ z. omega arith))

  unset : (f : ℕ) → f ≤ 16 → first_in t f ≡ 0
  unfolding first_in first
  unset zero l = refl
  unset (suc f) l = ap (first_in t) (sym (add-one f)) ∙ first_unset t f (unset f (omega arith)) (quiet f (omega arith))

  -- but there
  taken : aligns t 16 ≡ true
  taken =
      let n = eqb-false (get_or t 15 0 / 16) 0 (g.other 15 (omega arith) (λ k. omega arith)) in
      let b : eqb (get_or t 15 0) 0 ≡ false = ne_eqb (get_or t 15 0) 0 (λ z. n (omega arith)) in
      sym (aligns_later t 16 (λ z. omega arith)) ∙ ap₂ (λ a b. a && not b) (g.right 1 (omega arith)) b

  pub first_16 : first_in t (16 * n) ≡ 16
  first_16 =
      let e = first_set t 16 (unset 16 (lit≤ tt)) taken in
      first_kept t 17 (16 * n) (λ z. omega arith) (omega arith) ∙ e

  no_loss : (f : ℕ) → f ≤ 16 → losses_in t f ≡ 0
  unfolding losses_in sum
  no_loss zero l = refl
  no_loss (suc f) l =
      ap (losses_in t) (sym (add-one f)) ∙ losses_kept t f (λ q z. omega (arith, passed_few t f)) ∙ no_loss f (omega arith)

  -- what is known before frame 16(k + 1)
  record Known (k : ℕ) : Type 0 where
    its_walk : walk t (16 * (k + 1)) ≡ between (ltb 0 k) false
    its_starts : starts_in t (16 * (k + 1)) ≡ tab k (λ i. 16 * (i + 1))
    its_losses : losses_in t (16 * (k + 1)) ≡ 0

  nil : (l : List ℕ) → length l ≡ 0 → l ≡ []
  nil [] e = refl
  nil (x ∷ l) e = absurd (omega arith)

  -- alignment is taken there, or held
  begins_there : (k : ℕ) → begins t (16 * (k + 1)) (ltb 0 k) false ≡ true
  unfolding begins
  begins_there zero = taken
  begins_there (suc k) = rw (lt-ltb 0 (suc k) (omega arith)) refl

  known : (k : ℕ) → k < n → Known k
  unfolding tab_from
  known zero l =
      record {
        its_walk = unset_searching t 16 (unset 16 (lit≤ tt));
        its_starts = nil (starts_in t 16) (omega (arith, few_read t 16));
        its_losses = no_loss 16 (lit≤ tt);
      }
  known (suc k) l = next k l (known k (omega arith))
    where
      next : (k : ℕ) → suc k < n → Known k → Known (suc k)
      next k l h =
          let f = 16 * (k + 1) in
          let z : 16 * (suc k + 1) ≡ f + 16 = omega arith in
          let b = next_begun t f (ltb 0 k) false h.its_walk (begins_there k) in
          record {
            its_walk = ap (walk t) z ∙ whole_passed t f b
                ∙ ap₂ between (sym (lt-ltb 0 (suc k) (omega arith))) (ap not (g.right (k + 1) (omega arith)));
            its_starts = ap (starts_in t) z ∙ starts_whole t f b ∙ ap (λ l. l ++ f ∷ []) h.its_starts
                ∙ sym (tab_more k (λ i. 16 * (i + 1))) ∙ ap (λ m. tab m (λ i. 16 * (i + 1))) (add-one k);
            its_losses = ap (losses_in t) z ∙ losses_whole t f b ∙ h.its_losses;
          }

  pub all_known : (n - 1 ≡ read_in t (16 * n)) × (starts_in t (16 * n) ≡ tab (n - 1) (λ i. 16 * (i + 1))) × (losses_in t (16 * n) ≡ 0) × (held_in t (16 * n) ≡ true)
  unfolding held_in
  all_known =
      let h = known (n - 1) (omega arith) in
      let z : 16 * n ≡ 16 * (n - 1 + 1) = omega arith in
      let s = ap (starts_in t) z ∙ h.its_starts in
      let w = ap (walk t) z ∙ h.its_walk ∙ ap (λ b. between b false) (lt-ltb 0 (n - 1) (omega arith)) in (
        sym (ap length s ∙ length_tab (n - 1) (λ i. 16 * (i + 1))),
        s,
        ap (losses_in t) z ∙ h.its_losses,
        ap (λ (w : Walk). not (eqb w.passed 0)) w,
      )
