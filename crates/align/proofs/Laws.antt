-- The place that is worked out is the one that the words of KIT §4 name, both ways.
use Prim.Native.Nat.{ℕ, zero, suc, ◌+◌, ◌*◌, ◌≤◌, ◌<◌}
use mathlib.Core.Path.{◌≡◌, refl, sym, ap, ap₂, ◌∙◌}
use mathlib.Core.Bool.{Bool, true, false, cond, ◌&&◌, ◌||◌, and-eq-true_iff, or-true}
use mathlib.Core.List.{List}
use mathlib.Core.Logic.{◌↔◌, inl, inr}
use Rattle.std.specs.Prelude.{Option, None, Some}
use Rattle.base.proofs.OptionLaws.{none-ne-some, some-injective}
use mathlib.Mathlib.Data.Bool.Basic.{eq-false_of_not-eq-true}
use native.Mathlib.Omega.{arith}
use borrow.Author.Tests.{leb-true, le-leb, eqb-true, eq-eqb}
use lib.Dec.{eqb, leb}
use lib.ListN.{length, get_or}
use Rattle.line.specs.Bit.{bit_at, field}
use Rattle.base.specs.Tab.{least}
use Rattle.base.proofs.ChoiceLaws.{denies}
use Rattle.base.proofs.TabLaws.{all_at, at_all, least_some, least_none, none_least, first_some, first_none, none_first}
use Rattle.base.proofs.TabLaws.{some_first}
use Rattle.line.specs.Signal.{signal}
use Rattle.e1.specs.Frame.{word_at}
use Rattle.e1.proofs.WordLaws.{word_holds}
use Rattle.align.specs.Place.{basic, basic_with_room, mark, signal_at, again_at, pair_at, Standing, with_place}
use Rattle.align.specs.Place.{standing, first_standing, first_basic, found, found_in}
use Rattle.align.specs.Stands.{Basic, BasicFirst, Signal, Pair, Stands, StandsFirst}
use Rattle.align.specs.Window.{Wanted}
use Rattle.align.specs.declared.Found.TheVariants.{At, BasicAt, Nothing}

-- one of j = 1, 2, 3 passes
some_j_passes : (t : ℕ → Bool) → t 1 || (t 2 || t 3) ≡ true ↔ ((j : ℕ) × (1 ≤ j) × (j ≤ 3) × (t j ≡ true))
some_j_passes t = (there (t 1) (t 2) refl refl, λ h. back h.0 h.1 h.2 h.3)
  where
    there : (a b : Bool) → t 1 ≡ a → t 2 ≡ b → a || (b || t 3) ≡ true → (j : ℕ) × (1 ≤ j) × (j ≤ 3) × (t j ≡ true)
    there true b p q e = (1, omega arith, omega arith, p)
    there false true p q e = (2, omega arith, omega arith, q)
    there false false p q e = (3, omega arith, omega arith, e)

    back : (j : ℕ) → 1 ≤ j → j ≤ 3 → t j ≡ true → t 1 || (t 2 || t 3) ≡ true
    back zero h g e = absurd (omega arith)
    back (suc zero) h g e = rw e
    back (suc (suc zero)) h g e = rw e (or-true (t 1))
    back (suc (suc (suc zero))) h g e = rw (e, or-true (t 2)) (or-true (t 1))
    back (suc (suc (suc (suc j)))) h g e = absurd (omega arith)

module _ (s : List ℕ) (p : ℕ) where
  -- basic alignment, by what is tested
  pub basic_parts : (word_at s p ≡ true) × (eqb (bit_at s (p + 257)) 1 ≡ true) × (word_at s (p + 512) ≡ true) ↔ Basic s p
  basic_parts = (
    λ t.
        record {
          word = (word_holds s p).0 t.0;
          bit_2 = eqb-true _ _ t.1;
          word_again = rw next at ((word_holds s (p + 512)).0 t.2);
        },
    λ h.
        let again : field s (p + 512 + 1) 7 ≡ 27 = rw next h.word_again in
        ((word_holds s p).1 h.word, eq-eqb _ _ h.bit_2, (word_holds s (p + 512)).1 again),
  )
    where
      next : p + 512 + 1 ≡ p + 513
      next = omega arith

  pub basic_holds : basic s p ≡ true ↔ Basic s p
  unfolding basic
  basic_holds = (there, λ h. let t = basic_parts.1 h in rw (t.0, t.1, t.2))
    where
      there : basic s p ≡ true → Basic s p
      there e =
          let a = (and-eq-true_iff (word_at s p) (eqb (bit_at s (p + 257)) 1 && word_at s (p + 512))).0 e in
          let b = (and-eq-true_iff (eqb (bit_at s (p + 257)) 1) (word_at s (p + 512))).0 a.1 in
          basic_parts.0 (a.0, b.0, b.1)

  pub signal_holds : (k : ℕ) → signal_at s p k ≡ true ↔ Signal s p k
  unfolding signal_at
  signal_holds k =
      let t : ℕ → Bool = λ i. eqb (mark s p (k + i)) (get_or signal i 0) in
      (λ e i h. eqb-true _ _ (all_at 6 t e i h), λ h. at_all 6 t (λ i l. eq-eqb _ _ (h i l)))

  pub pair_holds : (k : ℕ) → pair_at s p k ≡ true ↔ Pair s p k
  unfolding pair_at
  pair_holds k = (there, back)
    where
      there : pair_at s p k ≡ true → Pair s p k
      there e =
          let a = (and-eq-true_iff (signal_at s p k) (again_at s p k 1 || (again_at s p k 2 || again_at s p k 3))).0 e in
          let b = (some_j_passes (again_at s p k)).0 a.1 in
          let j = b.0 in
          let d = (and-eq-true_iff (leb (k + 8 * j + 5) 31) (signal_at s p (k + 8 * j))).0 b.3 in
          record {
            here = (signal_holds k).0 a.0;
            j = j;
            least_j = b.1;
            most_j = b.2;
            within = leb-true _ _ d.0;
            again = (signal_holds (k + 8 * j)).0 d.1;
          }

      back : Pair s p k → pair_at s p k ≡ true
      back h =
          let j = h.j in
          let a : again_at s p k j ≡ true = rw (le-leb _ _ h.within) ((signal_holds (k + 8 * j)).1 h.again) in
          rw ((signal_holds k).1 h.here) ((some_j_passes (again_at s p k)).1 (j, h.least_j, h.most_j, a))

  -- no pair begins past 18
  pub pair_below : (k : ℕ) → Pair s p k → k < 19
  pair_below k h = omega arith

  -- the least k that is worked out
  pub least_k : (k : ℕ) → least 32 (pair_at s p) ≡ Some k ↔ (Pair s p k × ((l : ℕ) → l < k → Pair s p l → ⊥))
  least_k k = (there, back)
    where
      there : least 32 (pair_at s p) ≡ Some k → Pair s p k × ((l : ℕ) → l < k → Pair s p l → ⊥)
      there e =
          let l = (least_some 32 (pair_at s p) k).0 e in
          ((pair_holds k).0 l.passes, λ j h. denies (pair_holds j) (l.before j h))

      back : Pair s p k × ((l : ℕ) → l < k → Pair s p l → ⊥) → least 32 (pair_at s p) ≡ Some k
      back h =
          (least_some 32 (pair_at s p) k).1 (record {
            below = omega (arith, pair_below k h.0);
            passes = (pair_holds k).1 h.0;
            before = λ j g. eq-false_of_not-eq-true (λ e. h.1 j g ((pair_holds j).0 e));
          })

  pub no_k : least 32 (pair_at s p) ≡ None ↔ ((k : ℕ) → Pair s p k → ⊥)
  no_k = (
    λ e k h. denies (pair_holds k) (least_none 32 (pair_at s p) e k (omega (arith, pair_below k h))) h,
    λ h. none_least 32 (pair_at s p) (λ k l. eq-false_of_not-eq-true (λ e. h k ((pair_holds k).0 e))),
  )

  -- what `standing` is worked out from
  from_cond : (b : Bool) (o : Option ℕ) (w : Standing) → cond b (with_place p o) None ≡ Some w
      → (b ≡ true) × (o ≡ Some w.k) × (w.place ≡ p)
  from_cond false o w e = absurd (none-ne-some w e)
  from_cond true None w e = absurd (none-ne-some w e)
  from_cond true (Some k) w e =
      let q = some-injective _ _ e in
      (refl, ap (λ (x : Standing). Some x.k) q, sym (ap (λ (x : Standing). x.place) q))

  some_stands : (w : Standing) → standing s p ≡ Some w → (w.place ≡ p) × Stands s p w.k
  unfolding standing
  some_stands w e =
      let a = from_cond (leb (p + 16384) (8 * length s) && basic s p) (least 32 (pair_at s p)) w e in
      let b = (and-eq-true_iff (leb (p + 16384) (8 * length s)) (basic s p)).0 a.0 in
      let l = (least_k w.k).0 a.1 in
      (a.2, record { room = leb-true _ _ b.0; basic = basic_holds.0 b.1; pair = l.0; least = l.1 })

  pub stands_here : (k : ℕ) → standing s p ≡ Some (record { place = p; k = k }) ↔ Stands s p k
  unfolding standing
  stands_here k = (λ e. (some_stands (record { place = p; k = k }) e).1, back)
    where
      back : Stands s p k → standing s p ≡ Some (record { place = p; k = k })
      back h = rw (le-leb _ _ h.room, basic_holds.1 h.basic, (least_k k).1 (h.pair, h.least))

  none_here : ((k : ℕ) → Stands s p k → ⊥) → standing s p ≡ None
  none_here h = go (standing s p) refl
    where
      go : (o : Option Standing) → standing s p ≡ o → o ≡ None
      go None e = refl
      go (Some w) e = absurd (h w.k (some_stands w e).1)

  -- where some k is there, there is a least
  pub some_k : (k : ℕ) → p + 16384 ≤ 8 * length s → Basic s p → Pair s p k → (l : ℕ) × Stands s p l
  some_k k room basic pair = go (least 32 (pair_at s p)) refl
    where
      go : (o : Option ℕ) → least 32 (pair_at s p) ≡ o → (l : ℕ) × Stands s p l
      go None e = absurd (no_k.0 e k pair)
      go (Some l) e =
          let h = (least_k l).0 e in
          (l, record { room = room; basic = basic; pair = h.0; least = h.1 })

module _ (s : List ℕ) where
  -- the place and the k that are worked out are those of the first place that stands
  pub first_stands : (p k : ℕ) → first_standing s ≡ Some (record { place = p; k = k }) ↔ StandsFirst s p k
  unfolding first_standing
  first_stands p k = (there, back)
    where
      there : first_standing s ≡ Some (record { place = p; k = k }) → StandsFirst s p k
      there e =
          let w = first_some (8 * length s) (standing s) (record { place = p; k = k }) e in
          let a = some_stands s w.0 (record { place = p; k = k }) w.2 in
          record {
            stands = rw a.0 a.1;
            before = λ q l h g. none-ne-some _ (sym (w.3 q (omega arith)) ∙ (stands_here s q l).1 g);
          }

      back : StandsFirst s p k → first_standing s ≡ Some (record { place = p; k = k })
      back h =
          some_first (8 * length s) p (standing s) (record { place = p; k = k })
          (omega (arith, h.stands.room))
          (none_first p (standing s) (λ q g. none_here s q (λ l. h.before q l g)))
          ((stands_here s p k).1 h.stands)

  -- and there is none exactly if no place stands
  pub none_stands : first_standing s ≡ None ↔ ((p k : ℕ) → Stands s p k → ⊥)
  unfolding first_standing
  none_stands = (there, back)
    where
      there : first_standing s ≡ None → (p k : ℕ) → Stands s p k → ⊥
      there e p k h =
          none-ne-some _ (sym (first_none (8 * length s) (standing s) e p (omega (arith, h.room))) ∙ (stands_here s p k).1 h)

      back : ((p k : ℕ) → Stands s p k → ⊥) → first_standing s ≡ None
      back h = none_first (8 * length s) (standing s) (λ p l. none_here s p (h p))

  -- so it is one place and one k
  pub stands_single : (p q k l : ℕ) → StandsFirst s p k → StandsFirst s q l → (p ≡ q) × (k ≡ l)
  stands_single p q k l h g =
      let e = some-injective _ _ (sym ((first_stands p k).1 h) ∙ (first_stands q l).1 g) in
      (ap (λ (x : Standing). x.place) e, ap (λ (x : Standing). x.k) e)

  -- no place stands exactly if none has room, basic alignment and some k, the least or not
  pub none_at_all : ((p k : ℕ) → Stands s p k → ⊥)
      ↔ ((p k : ℕ) → p + 16384 ≤ 8 * length s → Basic s p → Pair s p k → ⊥)
  none_at_all = (
    λ n p k room basic pair. let w = some_k s p k room basic pair in n p w.0 w.1,
    λ n p k h. n p k h.room h.basic h.pair,
  )

  -- the first place with room and basic alignment, and that there is none
  with_room : (p : ℕ) → basic_with_room s p ≡ true ↔ ((p + 16384 ≤ 8 * length s) × Basic s p)
  with_room p = (
    λ e.
        let a = (and-eq-true_iff (leb (p + 16384) (8 * length s)) (basic s p)).0 e in
        (leb-true _ _ a.0, (basic_holds s p).0 a.1),
    λ h. rw (le-leb _ _ h.0, (basic_holds s p).1 h.1),
  )

  pub basic_first : (p : ℕ) → first_basic s ≡ Some p ↔ BasicFirst s p
  unfolding first_basic
  basic_first p = (there, back)
    where
      there : first_basic s ≡ Some p → BasicFirst s p
      there e =
          let l = (least_some (8 * length s) (basic_with_room s) p).0 e in
          let h = (with_room p).0 l.passes in
          record {
            room = h.0;
            basic = h.1;
            before = λ q g b. denies (with_room q) (l.before q g) (omega (arith, h.0), b);
          }

      back : BasicFirst s p → first_basic s ≡ Some p
      back h =
          (least_some (8 * length s) (basic_with_room s) p).1 (record {
            below = omega (arith, h.room);
            passes = (with_room p).1 (h.room, h.basic);
            before = λ q g. eq-false_of_not-eq-true (λ e. h.before q g ((with_room q).0 e).1);
          })

  pub none_basic : first_basic s ≡ None ↔ ((p : ℕ) → p + 16384 ≤ 8 * length s → Basic s p → ⊥)
  unfolding first_basic
  none_basic = (
    λ e p room b. denies (with_room p) (least_none (8 * length s) (basic_with_room s) e p (omega arith)) (room, b),
    λ h. none_least (8 * length s) (basic_with_room s) (λ p l. eq-false_of_not-eq-true (λ e. let w = (with_room p).0 e in h p w.0 w.1)),
  )

  -- where none has basic alignment none stands
  pub basic_none : first_basic s ≡ None → first_standing s ≡ None
  basic_none e = none_stands.1 (λ p k h. none_basic.0 e p h.room h.basic)

-- what the search answers, case by case
pub found_at : (o : Option Standing) (b : Option ℕ) (p k : ℕ) → found o b ≡ At p k
    → o ≡ Some (record { place = p; k = k })
found_at (Some w) b p k e = ap₂ (λ x y. Some (record { place = x; k = y })) (cc) (cc)
found_at None (Some q) p k e = let z : ◌≡◌ {A = ℕ} 0 1 = cc in absurd (omega arith)
found_at None None p k e = let z : ◌≡◌ {A = ℕ} 0 1 = cc in absurd (omega arith)

pub found_basic : (o : Option Standing) (b : Option ℕ) (p : ℕ) → found o b ≡ BasicAt p → (o ≡ None) × (b ≡ Some p)
found_basic (Some w) b p e = let z : ◌≡◌ {A = ℕ} 0 1 = cc in absurd (omega arith)
found_basic None (Some q) p e = (refl, ap Some (cc))
found_basic None None p e = let z : ◌≡◌ {A = ℕ} 0 1 = cc in absurd (omega arith)

pub found_nothing : (o : Option Standing) (b : Option ℕ) → found o b ≡ Nothing → (o ≡ None) × (b ≡ None)
found_nothing (Some w) b e = let z : ◌≡◌ {A = ℕ} 0 1 = cc in absurd (omega arith)
found_nothing None (Some q) e = let z : ◌≡◌ {A = ℕ} 0 1 = cc in absurd (omega arith)
found_nothing None None e = (refl, refl)

-- that is, the first place that stands, the first with basic alignment where none does, or nothing where none has it
pub finds_at : (s : List ℕ) (p k : ℕ) → found_in s ≡ At p k ↔ StandsFirst s p k
finds_at s p k = (
  λ e. (first_stands s p k).0 (found_at (first_standing s) (first_basic s) p k e),
  λ h. ap (λ o. found o (first_basic s)) ((first_stands s p k).1 h),
)

pub finds_basic : (s : List ℕ) (p : ℕ) → found_in s ≡ BasicAt p ↔ BasicFirst s p × ((q k : ℕ) → Stands s q k → ⊥)
finds_basic s p = (
  λ e.
      let f = found_basic (first_standing s) (first_basic s) p e in
      ((basic_first s p).0 f.1, (none_stands s).0 f.0),
  λ h. ap₂ found ((none_stands s).1 h.1) ((basic_first s p).1 h.0),
)

pub finds_nothing : (s : List ℕ)
    → found_in s ≡ Nothing ↔ ((p : ℕ) → p + 16384 ≤ 8 * length s → Basic s p → ⊥)
finds_nothing s = (
  λ e. (none_basic s).0 (found_nothing (first_standing s) (first_basic s) e).1,
  λ h. let e = (none_basic s).1 h in ap₂ found (basic_none s e) e,
)

-- the bits from the place on are there, and k is at most 18
pub first_within : (s : List ℕ) (p k : ℕ) → first_standing s ≡ Some (record {
  place =
      p;
  k = k;
}) → (p + 16384 ≤ 8 * length s) × (k < 19)
first_within s p k e =
    let h = ((first_stands s p k).0 e).stands in
    (h.room, pair_below s p k h.pair)

-- a place that the search has to look at has basic alignment
pub wanted_basic : (s : List ℕ) (known : Bool) (q : ℕ) → Wanted s known q → Basic s q
wanted_basic s known q (inl w) = w.1.basic
wanted_basic s known q (inr w) = w.1
