-- Runs: how many in a row pass a test, and what three of them mean, once for words and bits 2.
use Rattle.std.specs.Prelude.{if◌then◌else◌}
use Prim.Native.Nat.{ℕ, zero, suc, ◌+◌, ◌-◌, ◌*◌, ◌/◌, ◌%◌, ◌≤◌, ◌<◌, min}
use mathlib.Core.Path.{◌≡◌, refl, sym, ap, ◌∙◌, subst}
use mathlib.Core.Bool.{Bool, true, false, ◌&&◌, and-eq-true_iff, true≢false}
use mathlib.Core.Logic.{◌↔◌}
use Rattle.std.specs.Prelude.{Option, None, Some}
use native.Mathlib.Numerals.{add-one}
use native.Mathlib.Omega.{arith}
use borrow.Author.Tests.{leb-true, leb-false, le-leb, lt-leb, ltb-true, ltb-false}
use lib.Dec.{leb, ltb}
use Rattle.base.specs.Choice.{when_so}
use Rattle.base.specs.Tab.{first}
use Rattle.base.proofs.ChoiceLaws.{denies}
use Rattle.base.proofs.TabLaws.{some_first, first_none, none_first, first_some}
use Rattle.base.proofs.TabLaws.{when_so_some, when_so_none}
use Rattle.measure.specs.Reading.{third}
use Rattle.measure.specs.Track.{run_of}
use Rattle.measure.specs.Loss.{ThirdInRow}

run_more : (t : ℕ → Bool) (i : ℕ) → run_of t (i + 1) ≡ (if t i then run_of t i + 1 else 0)
unfolding run_of
run_more t i = ap (run_of t) (add-one i)

run_le : (t : ℕ → Bool) (i : ℕ) → run_of t i ≤ i
unfolding run_of
run_le t zero = omega arith
run_le t (suc i) = go (t i) (run_le t i)
  where
    go : (b : Bool) → run_of t i ≤ i → (if b then run_of t i + 1 else 0) ≤ suc i
    go true h = omega arith
    go false h = omega arith

-- three steps of a run
three_more : (a b c : Bool) (r x y z : ℕ) → x ≡ (if a then r + 1 else 0) → y ≡ (if b then x + 1 else 0)
    → z ≡ (if c then y + 1 else 0) → a && (b && c) ≡ leb 3 z
three_more true true true r x y z e f g = sym (le-leb 3 z (omega arith))
three_more true true false r x y z e f g = sym (lt-leb 3 z (omega arith))
three_more true false true r x y z e f g = sym (lt-leb 3 z (omega arith))
three_more true false false r x y z e f g = sym (lt-leb 3 z (omega arith))
three_more false true true r x y z e f g = sym (lt-leb 3 z (omega arith))
three_more false true false r x y z e f g = sym (lt-leb 3 z (omega arith))
three_more false false true r x y z e f g = sym (lt-leb 3 z (omega arith))
three_more false false false r x y z e f g = sym (lt-leb 3 z (omega arith))

-- i is the third in a row where the run with it is three or more
third_run : (t : ℕ → Bool) (i : ℕ) → third t i ≡ leb 3 (run_of t (i + 1))
unfolding third
third_run t i = go (leb 2 i) refl
  where
    go : (b : Bool) → leb 2 i ≡ b → leb 2 i && (t (i - 2) && (t (i - 1) && t i)) ≡ leb 3 (run_of t (i + 1))
    go false e = rw e (sym (lt-leb 3 (run_of t (i + 1)) (omega (arith, run_le t (i + 1), leb-false 2 i e))))
    go true e =
        let h = leb-true 2 i e in
        let j : i - 1 ≡ i - 2 + 1 = omega arith in
        let k : i ≡ i - 1 + 1 = omega arith in
        rw e
        (three_more (t (i - 2)) (t (i - 1)) (t i) (run_of t (i - 2)) (run_of t (i - 1)) (run_of t i) (run_of t (i + 1))
        (ap (run_of t) j ∙ run_more t (i - 2)) (ap (run_of t) k ∙ run_more t (i - 1)) (run_more t i))

-- A rule finds loss at the third in a row: i there is frame `frame i` of the line.

abbrev pub loss_by : (ℕ → Bool) → (ℕ → ℕ) → ℕ → Option ℕ
loss_by t frame n = first n (λ i. when_so (third t i) (frame i))

-- the same among the n from c on alone
abbrev pub loss_in : (ℕ → Bool) → (ℕ → ℕ) → ℕ → ℕ → Option ℕ
loss_in t frame c n = first n (λ i. when_so (third t (c + i)) (frame (c + i)))

last_false : (a b c d : Bool) → d ≡ false → a && (b && (c && d)) ≡ false
last_false false b c d e = refl
last_false true false c d e = refl
last_false true true false d e = refl
last_false true true true d e = e

-- where none passes the test there is no loss
pub never_third : (t : ℕ → Bool) (frame : ℕ → ℕ) (n : ℕ) → ((i : ℕ) → i < n → t i ≡ false) → loss_by t frame n ≡ None
unfolding third
never_third t frame n h =
    none_first n (λ i. when_so (third t i) (frame i))
    (λ i l. ap (λ b. when_so b (frame i)) (last_false (leb 2 i) (t (i - 2)) (t (i - 1)) (t i) (h i l)))

-- a run that is told up to d is told up to one more with i
pub run_more_of : (t : ℕ → Bool) (i d run run' : ℕ) → run ≡ min d (run_of t i) → run' ≡ (if t i then run + 1 else 0)
    → run' ≡ min (d + 1) (run_of t (i + 1))
run_more_of t i d run run' e k = go (t i) k (run_more t i)
  where
    go : (b : Bool) → run' ≡ (if b then run + 1 else 0) → run_of t (i + 1) ≡ (if b then run_of t i + 1 else 0)
        → run' ≡ min (d + 1) (run_of t (i + 1))
    go true f g = omega arith
    go false f g = omega arith

-- what is known before i: the run, which is no loss, and that there was none from c on
pub record Run (t : ℕ → Bool) (c i run : ℕ) : Type 0 where
  pub its : run ≡ min 2 (run_of t i)
  pub no_loss : (k : ℕ) → c ≤ k → k < i → third t k ≡ false

module _ {t : ℕ → Bool} {c i run : ℕ} (h : Run t c i run) where
  pub short : run < 3
  short = omega (arith, h.its)

  -- no loss before, and none among fewer
  pub none_lost : (frame : ℕ → ℕ) (n : ℕ) → c + n ≤ i → loss_in t frame c n ≡ None
  none_lost frame n l =
      none_first n (λ j. when_so (third t (c + j)) (frame (c + j)))
      (λ j k. ap (λ b. when_so b (frame (c + j))) (h.no_loss (c + j) (omega arith) (omega arith)))

  module _ {run' : ℕ} (e : run' ≡ (if t i then run + 1 else 0)) where
    run_now : run' ≡ min 3 (run_of t (i + 1))
    run_now = run_more_of t i 2 run run' h.its e

    third_now : third t i ≡ leb 3 run'
    third_now = third_run t i ∙ go (leb 3 (run_of t (i + 1))) refl
      where
        go : (b : Bool) → leb 3 (run_of t (i + 1)) ≡ b → leb 3 (run_of t (i + 1)) ≡ leb 3 run'
        go true k = k ∙ sym (le-leb 3 run' (omega (arith, run_now, leb-true 3 (run_of t (i + 1)) k)))
        go false k = k ∙ sym (lt-leb 3 run' (omega (arith, run_now, leb-false 3 (run_of t (i + 1)) k)))

    -- one more, and still no loss
    pub run_on : (run' ≡ 3 → ⊥) → Run t c (i + 1) run'
    run_on z =
        let l : run' < 3 = omega (arith, run_now) in
        record { its = omega (arith, run_now); no_loss = λ k a b. go l k a b (ltb k i) refl }
      where
        go : run' < 3 → (k : ℕ) → c ≤ k → k < i + 1 → (b : Bool) → ltb k i ≡ b → third t k ≡ false
        go l k a b true w = h.no_loss k a (ltb-true k i w)
        go l k a b false w =
            let is : k ≡ i = omega (arith, ltb-false k i w) in ap (third t) is ∙ third_now ∙ lt-leb 3 run' l

    -- the loss
    pub run_lost : run' ≡ 3 → c ≤ i → (frame : ℕ → ℕ) (n : ℕ) → i < c + n → loss_in t frame c n ≡ Some (frame i)
    run_lost z a frame n l =
        let is : c + (i - c) ≡ i = omega arith in
        some_first n (i - c) (λ j. when_so (third t (c + j)) (frame (c + j))) (frame i) (omega arith)
        (none_lost frame (i - c) (omega arith))
        (ap (λ k. when_so (third t k) (frame k)) is ∙ ap (λ b. when_so b (frame i)) (third_now ∙ ap (leb 3) z))

  -- what is lost later is lost at i or after it
  pub lost_later : (frame : ℕ → ℕ) (n f : ℕ) → loss_in t frame c n ≡ Some f → (j : ℕ) × (i ≤ j) × (f ≡ frame j)
  lost_later frame n f e =
      let w = first_some n (λ j. when_so (third t (c + j)) (frame (c + j))) f e in
      let j = c + w.0 in
      let q = when_so_some (third t j) (frame j) f w.2 in
      (j, not_before j (omega arith) q.0, sym q.1)
    where
      not_before : (j : ℕ) → c ≤ j → third t j ≡ true → i ≤ j
      not_before j a p = go (leb i j) refl
        where
          go : (b : Bool) → leb i j ≡ b → i ≤ j
          go true k = leb-true i j k
          go false k = absurd (true≢false (sym p ∙ h.no_loss j a (leb-false i j k)))

-- The same in words: i is the third in a row exactly where its frame is, and the loss is at the first such frame. Words
-- are in the frames 2i + 0, bits 2 in the frames 2i + 1.
module _ (t : ℕ → Bool) (P : ℕ → Type 0) (b : ℕ) (two-kinds : b < 2) (frame : ℕ → ℕ) (at : (i : ℕ) → frame i ≡ 2 * i + b)
    (holds : (i : ℕ) → t i ≡ true ↔ P (frame i)) where
  back_by : (i k : ℕ) → k ≤ i → frame (i - k) ≡ frame i - 2 * k
  back_by i k h = omega (arith, at i, at (i - k))

  third_holds : (i : ℕ) → third t i ≡ true ↔ ThirdInRow P (frame i)
  unfolding third
  third_holds i = (there, back)
    where
      there : third t i ≡ true → ThirdInRow P (frame i)
      there e =
          let x = (and-eq-true_iff (leb 2 i) (t (i - 2) && (t (i - 1) && t i))).0 e in
          let y = (and-eq-true_iff (t (i - 2)) (t (i - 1) && t i)).0 x.1 in
          let z = (and-eq-true_iff (t (i - 1)) (t i)).0 y.1 in
          let l = leb-true 2 i x.0 in
          record {
            enough = omega (arith, at i);
            one = subst P (back_by i 2 l) ((holds (i - 2)).0 y.0);
            two = subst P (back_by i 1 (omega arith)) ((holds (i - 1)).0 z.0);
            three = (holds i).0 z.1;
          }

      back : ThirdInRow P (frame i) → third t i ≡ true
      back h =
          let l : 2 ≤ i = omega (arith, at i, h.enough) in
          let x = (holds (i - 2)).1 (subst P (sym (back_by i 2 l)) h.one) in
          let y = (holds (i - 1)).1 (subst P (sym (back_by i 1 (omega arith))) h.two) in
          rw (le-leb 2 i l, x, y, (holds i).1 h.three)

  -- a frame of this kind that is no third in a row
  not_third : (g : ℕ) → third t (g / 2) ≡ false → g % 2 ≡ b → ThirdInRow P g → ⊥
  not_third g e k h =
      let f : g ≡ frame (g / 2) = omega (arith, at (g / 2)) in
      denies (third_holds (g / 2)) e (subst (ThirdInRow P) f h)

  module _ (n : ℕ) where
    pub lost_by_lem : (f : ℕ) → loss_by t frame n ≡ Some f
        → (f % 2 ≡ b) × ThirdInRow P f × (f < 2 * n) × ((g : ℕ) → g < f → g % 2 ≡ b → ThirdInRow P g → ⊥)
    lost_by_lem f e =
        let w = first_some n (λ j. when_so (third t j) (frame j)) f e in
        let j = w.0 in
        let q = when_so_some (third t j) (frame j) f w.2 in
        let x : f ≡ 2 * j + b = sym q.1 ∙ at j in (
          omega arith,
          subst (ThirdInRow P) q.1 ((third_holds j).0 q.0),
          omega (arith, w.1),
          λ g l k. not_third g (when_so_none (third t (g / 2)) (frame (g / 2)) (w.3 (g / 2) (omega arith))) k,
        )

    pub not_lost_by : loss_by t frame n ≡ None → (g : ℕ) → g < 2 * n → g % 2 ≡ b → ThirdInRow P g → ⊥
    not_lost_by e g l k =
        not_third g (when_so_none (third t (g / 2)) (frame (g / 2)) (first_none n (λ j. when_so (third t j) (frame j)) e (g / 2) (omega arith))) k
