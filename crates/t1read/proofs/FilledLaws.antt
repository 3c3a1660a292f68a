-- The laws of a payload that is written frame by frame, in any order.
use Prim.Native.Nat.{ℕ, ◌+◌, ◌-◌, ◌*◌, ◌/◌, ◌%◌, ◌≤◌, ◌<◌}
use mathlib.Core.Path.{◌≡◌, refl, sym, ap, ◌∙◌}
use mathlib.Core.Bool.{Bool, true, false, cond, ◌&&◌, ◌||◌, and-false}
use mathlib.Core.List.{List, ◌++◌}
use native.Mathlib.Nat.{zero-add}
use native.Mathlib.Omega.{arith}
use borrow.Author.Tests.{eqb-true, eqb-false, eq-eqb, ne_eqb, ltb-true, ltb-false, lt-ltb, le-ltb}
use borrow.Rule.Slice.PartMut.{put_mid}
use lib.Dec.{eqb, ltb}
use lib.ListN.{length, drop, get_or}
use Rattle.base.specs.Tab.{tab}
use Rattle.base.proofs.TabLaws.{length_tab, get_d_tab, tab_agree, tab_of}
use Rattle.base.proofs.PartLaws.{part_put}
use Rattle.t1read.specs.Reading.{octet_of, payload_of}
use Rattle.t1read.specs.Filled.{filled, every_eighth}

-- frame f is one of n, and its number among its eight is below g
abbrev pub of_eighths : ℕ → ℕ → ℕ → Bool
of_eighths g n f = ltb f n && ltb (f % 8) g

pub eighth_none : (g f : ℕ) → every_eighth g 0 f ≡ false
eighth_none g f = rw (le-ltb f 0 (omega arith))

-- one frame eight further on
pub eighth_more : (g a f : ℕ) → g < 8 → eqb f (8 * a + g) || every_eighth g (8 * a) f ≡ every_eighth g (8 * (a + 1)) f
eighth_more g a f h = go (eqb f (8 * a + g)) refl (eqb (f % 8) g) refl (ltb f (8 * a)) refl
  where
    go : (x : Bool) → eqb f (8 * a + g) ≡ x → (y : Bool) → eqb (f % 8) g ≡ y → (z : Bool) → ltb f (8 * a) ≡ z
        → x || (z && y) ≡ ltb f (8 * (a + 1)) && y
    go true p true q z r = let e = eqb-true f (8 * a + g) p in rw (lt-ltb f (8 * (a + 1)) (omega arith))
    go true p false q z r = let e = eqb-true f (8 * a + g) p in absurd (eqb-false (f % 8) g q (omega arith))
    go false p y q true r = let l = ltb-true f (8 * a) r in rw (lt-ltb f (8 * (a + 1)) (omega arith))
    go false p true q false r =
        let e = eqb-true (f % 8) g q in
        let l = ltb-false f (8 * a) r in
        rw (le-ltb f (8 * (a + 1)) (omega (arith, eqb-false f (8 * a + g) p)))
    go false p false q false r = sym (and-false (ltb f (8 * (a + 1))))

pub eighths_none : (n f : ℕ) → of_eighths 0 n f ≡ false
eighths_none n f = rw (le-ltb (f % 8) 0 (omega arith)) (and-false (ltb f n))

-- the frames of one number more
pub eighths_more : (g n f : ℕ) → every_eighth g n f || of_eighths g n f ≡ of_eighths (g + 1) n f
eighths_more g n f = go (ltb f n) (eqb (f % 8) g) refl (ltb (f % 8) g) refl
  where
    go : (x y : Bool) → eqb (f % 8) g ≡ y → (z : Bool) → ltb (f % 8) g ≡ z → (x && y) || (x && z) ≡ x && ltb (f % 8) (g + 1)
    go false y q z r = refl
    go true true q z r = let e = eqb-true (f % 8) g q in rw (lt-ltb (f % 8) (g + 1) (omega arith))
    go true false q true r = let l = ltb-true (f % 8) g r in rw (lt-ltb (f % 8) (g + 1) (omega arith))
    go true false q false r =
        let l = ltb-false (f % 8) g r in rw (le-ltb (f % 8) (g + 1) (omega (arith, eqb-false (f % 8) g q)))

module _ (s : List ℕ) (q : ℕ) where
  -- octet k, as the test of its frame says
  abbrev octet_by : (ℕ → Bool) → List ℕ → ℕ → ℕ
  octet_by t out k = cond (t (k / 24)) (octet_of s q k) (get_or out k 0)

  pub filled_none : (t : ℕ → Bool) (out : List ℕ) → ((f : ℕ) → t f ≡ false) → filled t s q out ≡ out
  unfolding filled
  filled_none t out h = tab_of (length out) (octet_by t out) out refl (λ k l. rw (h (k / 24)))

  -- where those that pass one test are written, those that pass another
  pub filled_more : (t u v : ℕ → Bool) (xs ys out : List ℕ) → xs ≡ filled t s q out → ys ≡ filled u s q xs
      → ((f : ℕ) → u f || t f ≡ v f) → ys ≡ filled v s q out
  unfolding filled
  filled_more t u v xs ys out e y h =
      y ∙ ap (filled u s q) e
      ∙ ap (λ n. tab n (octet_by u (filled t s q out))) (length_tab (length out) (octet_by t out))
      ∙ tab_agree (length out) (octet_by u (filled t s q out)) (octet_by v out)
      (λ k l. ap (cond (u (k / 24)) (octet_of s q k)) (get_d_tab (length out) (octet_by t out) k 0 l)
      ∙ either (u (k / 24)) (t (k / 24)) (octet_of s q k) (get_or out k 0)
      ∙ ap (λ b. cond b (octet_of s q k) (get_or out k 0)) (h (k / 24)))
    where
      either : (a b : Bool) (x y : ℕ) → cond a x (cond b x y) ≡ cond (a || b) x y
      either true b x y = refl
      either false b x y = refl

  -- the part of frame f is put back as ys
  pub frame_put : (f : ℕ) (xs ys : List ℕ) → 24 * f + 24 ≤ length xs → ys ≡ tab 24 (λ j. octet_of s q (24 * f + j))
      → put_mid (24 * f) (24 * f + 24 - 24 * f) xs ys ≡ filled (λ x. eqb x f) s q xs
  unfolding filled
  frame_put f xs ys fits y =
      let t : ℕ → Bool = λ x. eqb x f in
      let n : 24 ≡ 24 * f + 24 - 24 * f = omega arith in
      part_put (octet_by t xs) (24 * f) (24 * f + 24) xs ys (omega arith) fits
      (y ∙ tab_agree 24 (λ j. octet_of s q (24 * f + j)) (λ j. octet_by t xs (24 * f + j))
      (λ j l. rw (eq-eqb ((24 * f + j) / 24) f (omega arith)))
      ∙ ap (λ k. tab k (λ j. octet_by t xs (24 * f + j))) n)
      (λ k l. rw (ne_eqb (k / 24) f (λ e. omega arith)))
      (λ k l. rw (ne_eqb (k / 24) f (λ e. omega arith)))

  -- all frames of n superframes
  pub filled_all : (n : ℕ) (out : List ℕ) → 576 * n ≤ length out
      → filled (of_eighths 8 (24 * n)) s q out ≡ payload_of s q n ++ drop (576 * n) out
  unfolding filled payload_of
  filled_all n out fits =
      let t = of_eighths 8 (24 * n) in
      let m : 576 * n ≡ 576 * n - 0 = omega arith in
      sym (part_put (octet_by t out) 0 (576 * n) out (payload_of s q n) (omega arith) fits
      (tab_agree (576 * n) (octet_of s q) (λ k. octet_by t out (0 + k))
      (λ k l. sym (ap (octet_by t out) (zero-add k)
      ∙ rw (lt-ltb (k / 24) (24 * n) (omega arith), lt-ltb (k / 24 % 8) 8 (omega arith))))
      ∙ ap (λ x. tab x (λ k. octet_by t out (0 + k))) m)
      (λ k l. absurd (omega arith))
      (λ k l. rw (le-ltb (k / 24) (24 * n) (omega arith))))
      ∙ ap (λ x. payload_of s q n ++ drop x out) (sym m)
