-- The place that is worked out is the one that the words of KIT §15 name, both ways.
use Prim.Native.Nat.{ℕ, ◌+◌, ◌*◌, ◌≤◌}
use mathlib.Core.Path.{◌≡◌, sym, ◌∙◌}
use mathlib.Core.Bool.{Bool, true, ◌&&◌, and-eq-true_iff}
use mathlib.Core.List.{List}
use mathlib.Core.Logic.{◌↔◌}
use Rattle.std.specs.Prelude.{None, Some}
use Rattle.base.proofs.OptionLaws.{some-injective}
use mathlib.Mathlib.Data.Bool.Basic.{eq-false_of_not-eq-true}
use native.Mathlib.Omega.{arith}
use borrow.Author.Tests.{leb-true, le-leb, eqb-true, eq-eqb}
use lib.Dec.{eqb}
use lib.ListN.{length, get_or}
use Rattle.base.proofs.ChoiceLaws.{denies}
use Rattle.base.proofs.TabLaws.{all_at, at_all, least_some, least_none, none_least}
use Rattle.line.specs.Bit.{bit_at}
use Rattle.line.specs.Signal.{signal}
use Rattle.t1.specs.Superframe.{framing_at, framed, agrees}
use Rattle.t1align.specs.Place.{standing, first_standing}
use Rattle.t1align.specs.Stands.{Framed, Stands, StandsFirst}

pub framed_holds : (s : List ℕ) (q : ℕ) → framed s q ≡ true ↔ Framed s q
unfolding framed
framed_holds s q =
    let t : ℕ → Bool = λ i. eqb (bit_at s (framing_at q (4 * i + 3))) (get_or signal i 0) in
    (λ e i h. eqb-true _ _ (all_at 6 t e i h), λ h. at_all 6 t (λ i l. eq-eqb _ _ (h i l)))

pub stands_here : (s : List ℕ) (p : ℕ) → standing s p ≡ true ↔ Stands s p
unfolding standing agrees
stands_here s p = (there, back)
  where
    there : standing s p ≡ true → Stands s p
    there e =
        let a = (and-eq-true_iff _ (framed s p && (framed s (p + 4632) && agrees s p))).0 e in
        let b = (and-eq-true_iff (framed s p) (framed s (p + 4632) && agrees s p)).0 a.1 in
        let d = (and-eq-true_iff (framed s (p + 4632)) (agrees s p)).0 b.1 in
        record {
          room = leb-true _ _ a.0;
          first = (framed_holds s p).0 b.0;
          second = (framed_holds s (p + 4632)).0 d.0;
          agreement = eqb-true _ _ d.1;
        }

    back : Stands s p → standing s p ≡ true
    back h =
        rw (
          le-leb _ _ h.room,
          (framed_holds s p).1 h.first,
          (framed_holds s (p + 4632)).1 h.second,
          eq-eqb _ _ h.agreement,
        )

module _ (s : List ℕ) where
  -- the place that is worked out is the first that stands
  pub first_stands : (p : ℕ) → first_standing s ≡ Some p ↔ StandsFirst s p
  unfolding first_standing
  first_stands p = (there, back)
    where
      there : first_standing s ≡ Some p → StandsFirst s p
      there e =
          let l = (least_some (8 * length s) (standing s) p).0 e in
          record { stands = (stands_here s p).0 l.passes; before = λ q h. denies (stands_here s q) (l.before q h) }

      back : StandsFirst s p → first_standing s ≡ Some p
      back h =
          (least_some (8 * length s) (standing s) p).1 (record {
            below = omega (arith, h.stands.room);
            passes = (stands_here s p).1 h.stands;
            before = λ q l. eq-false_of_not-eq-true (λ e. h.before q l ((stands_here s q).0 e));
          })

  -- and there is none exactly if no place stands
  pub none_stands : first_standing s ≡ None ↔ ((p : ℕ) → Stands s p → ⊥)
  unfolding first_standing
  none_stands = (
    λ e p h. denies (stands_here s p) (least_none (8 * length s) (standing s) e p (omega (arith, h.room))) h,
    λ h. none_least (8 * length s) (standing s) (λ p l. eq-false_of_not-eq-true (λ e. h p ((stands_here s p).0 e))),
  )

  -- so it is one place
  pub stands_single : (p q : ℕ) → StandsFirst s p → StandsFirst s q → p ≡ q
  stands_single p q h g = some-injective _ _ (sym ((first_stands p).1 h) ∙ (first_stands q).1 g)

  -- and the bits from it on are there
  pub first_within : (p : ℕ) → first_standing s ≡ Some p → p + 9264 ≤ 8 * length s
  first_within p e = ((first_stands p).0 e).stands.room
