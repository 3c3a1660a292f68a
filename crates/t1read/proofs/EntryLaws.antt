-- The laws of the entry: its numbers, what an accepted call and a refused one give, and that two results are equal.
use Prim.Native.Nat.{ℕ, zero, suc, ◌+◌, ◌*◌, ◌≤◌, ◌<◌}
use mathlib.Core.Path.{◌≡◌, refl, sym, ap, subst, ◌∙◌}
use mathlib.Core.Bool.{Bool, true, false, ◌||◌, true≢false, or-true}
use mathlib.Core.List.{List}
use mathlib.Core.Logic.{◌↔◌, ◌⊎◌, ⊎_elim, inl, inr}
use Rattle.std.specs.Prelude.{Option, None, Some, is_none}
use Rattle.base.specs.Choice.{value_or}
use mathlib.Mathlib.Data.Bool.Basic.{or-eq-false-eq-eq-false-and-eq-false}
use native.Mathlib.Omega.{arith}
use borrow.Author.Tests.{lt-ltb, le-ltb, ltb-true, ltb-false}
use lib.Dec.{ltb}
use lib.ListN.{length}
use Rattle.base.specs.Answer.{accepted}
use Rattle.base.proofs.AnswerLaws.{accepted_so, accepted_single, Tells, first_tells, tells_first}
use Rattle.t1align.specs.Place.{first_standing}
use Rattle.t1align.specs.Stands.{Stands, StandsFirst}
use Rattle.t1align.proofs.Laws.{first_stands, none_stands}
use Rattle.t1read.specs.Reading.{whole}
use Rattle.t1read.specs.Entry.{GoodLength, place_in, whole_in, refusals, refusal, accept, refuse, reading, Read}
use Rattle.t1read.specs.Answer.{Reading}

-- The numbers

found_none : (o : Option ℕ) → is_none o ≡ true → o ≡ None
found_none (Some p) e = absurd (true≢false (sym e))
found_none None e = refl

found_some : (o : Option ℕ) → is_none o ≡ false → (p : ℕ) × (o ≡ Some p)
found_some (Some p) e = (p, refl)
found_some None e = absurd (true≢false e)

-- the place is the first that stands
pub place_is : (s : List ℕ) (p : ℕ) → first_standing s ≡ Some p → p ≡ place_in s
unfolding place_in
place_is s p e = sym (ap (λ o. value_or o 0) e)

-- two whole superframes at least lie from there on
pub whole_is : (s : List ℕ) (p : ℕ) → first_standing s ≡ Some p → (2 ≤ whole s p) × (p + 4632 * whole s p ≤ 8 * length s)
unfolding whole
whole_is s p e = let h = ((first_stands s p).0 e).stands.room in (omega arith, omega arith)

-- where a place stands, there is a first
pub some_stands : (s : List ℕ) (p : ℕ) → Stands s p → (q : ℕ) × (first_standing s ≡ Some q)
some_stands s p h = go (first_standing s) refl
  where
    go : (o : Option ℕ) → first_standing s ≡ o → (q : ℕ) × (first_standing s ≡ Some q)
    go (Some q) e = (q, e)
    go None e = absurd ((none_stands s).0 e p h)

module _ (s : List ℕ) (a b : ℕ) where
  -- an output is shorter than the call needs
  abbrev pub short_output : Bool
  short_output = ltb a (576 * whole_in s) || ltb b (12 * whole_in s)

  tells : Tells (refusal s a b) (refusals s a b)
  unfolding refusal
  tells = first_tells (refusals s a b) refl

  pub number_1 : refusal s a b ≡ 1 ↔ length s < 1158
  unfolding refusal
  number_1 = (λ e. ltb-true (length s) 1158 (rw e at tells), λ h. tells_first 1 (refusals s a b) refl (lt-ltb (length s) 1158 h))

  pub number_2 : refusal s a b ≡ 2 ↔ 8192 < length s
  unfolding refusal
  number_2 = (
    λ e. ltb-true 8192 (length s) (rw e at tells).1,
    λ h. tells_first 2 (refusals s a b) refl (le-ltb (length s) 1158 (omega arith), lt-ltb 8192 (length s) h),
  )

  -- of an image of good length
  module _ (good : GoodLength s) where
    short_not : ltb (length s) 1158 ≡ false
    short_not = le-ltb (length s) 1158 good.long

    long_not : ltb 8192 (length s) ≡ false
    long_not = le-ltb 8192 (length s) good.short

    -- 3 exactly when no place stands
    pub number_3 : refusal s a b ≡ 3 ↔ ((p : ℕ) → Stands s p → ⊥)
    unfolding refusal
    number_3 = (
      λ e. (none_stands s).0 (found_none (first_standing s) (rw e at tells).1.1),
      λ h. tells_first 3 (refusals s a b) refl (short_not, (long_not, rw ((none_stands s).1 h))),
    )

    -- on which a place stands
    module _ (p : ℕ) (e : first_standing s ≡ Some p) where
      pub refused_4 : short_output ≡ true → refusal s a b ≡ 4
      unfolding refusal
      refused_4 f = tells_first 4 (refusals s a b) refl (short_not, (long_not, (rw e, f)))

      pub number_4 : refusal s a b ≡ 4 ↔ (a < 576 * whole_in s) ⊎ (b < 12 * whole_in s)
      number_4 = (
        λ z. which (ltb a (576 * whole_in s)) refl (rw z at tells).1.1.1,
        ⊎_elim
            (λ h. refused_4 (rw (lt-ltb a (576 * whole_in s) h)))
            (λ h. refused_4 (rw (lt-ltb b (12 * whole_in s) h) (or-true (ltb a (576 * whole_in s))))),
      )
        where
          which : (t : Bool) → ltb a (576 * whole_in s) ≡ t → t || ltb b (12 * whole_in s) ≡ true
              → (a < 576 * whole_in s) ⊎ (b < 12 * whole_in s)
          which true h k = inl (ltb-true a (576 * whole_in s) h)
          which false h k = inr (ltb-true b (12 * whole_in s) k)

      pub accepts : short_output ≡ false → refusal s a b ≡ 0
      unfolding refusal
      accepts f = tells_first 0 (refusals s a b) refl (short_not, (long_not, (rw e, (f, tt))))

-- what holds where the call is accepted
pub record Ready (s : List ℕ) (a b : ℕ) : Type 0 where
  pub good : GoodLength s
  pub first : StandsFirst s (place_in s)
  pub two : 2 ≤ whole_in s
  pub payload : 576 * whole_in s ≤ a
  pub link : 12 * whole_in s ≤ b

pub ready : (s : List ℕ) (a b : ℕ) → refusal s a b ≡ 0 → Ready s a b
ready s a b e =
    let t = rw e at (tells s a b) in
    let w = found_some (first_standing s) t.1.1.0 in
    let p = place_is s w.0 w.1 in
    let f = (or-eq-false-eq-eq-false-and-eq-false (ltb a (576 * whole_in s)) (ltb b (12 * whole_in s))).0 t.1.1.1.0 in
    record {
      good = record { long = ltb-false (length s) 1158 t.0; short = ltb-false 8192 (length s) t.1.0 };
      first = subst (StandsFirst s) p ((first_stands s w.0).0 w.1);
      two = subst (λ x. 2 ≤ whole s x) p (whole_is s w.0 w.1).0;
      payload = ltb-false a (576 * whole_in s) f.0;
      link = ltb-false b (12 * whole_in s) f.1;
    }

-- The results

-- a refusal: zeros beside its number, both outputs as they were
pub refused_as : (s payload link : List ℕ) (n : ℕ) → refusal s (length payload) (length link) ≡ suc n
    → Read s payload link (refuse (suc n)) payload link
unfolding reading
refused_as s payload link n e = record { its_answer = rw e; its_payload = refl; its_link = refl }

module _ (s payload link : List ℕ) where
  abbrev number : ℕ
  number = refusal s (length payload) (length link)

  pub read_number : (r : Reading) (p l : List ℕ) → Read s payload link r p l → r.number ≡ number
  unfolding reading accept
  read_number r p l h = ap (λ (x : Reading). x.number) h.its_answer ∙ go number
    where
      go : (n : ℕ) → (accepted n (accept s) (refuse n)).number ≡ n
      go zero = refl
      go (suc n) = refl

  -- an accepted call
  pub read_accepted : (r : Reading) (p l : List ℕ) → Read s payload link r p l → r.number ≡ 0 → r ≡ accept s
  unfolding reading
  read_accepted r p l h z =
      h.its_answer ∙ accepted_so number (accept s) (refuse number) (sym (read_number r p l h) ∙ z)

  -- two results that the contract admits are equal
  pub read_single : (r r' : Reading) (p p' l l' : List ℕ) → Read s payload link r p l → Read s payload link r' p' l'
      → (r ≡ r') × (p ≡ p') × (l ≡ l')
  read_single r r' p p' l l' h h' =
      let e : r ≡ r' = h.its_answer ∙ sym h'.its_answer in (
        e,
        accepted_single _ _ _ _ _ _ (ap (λ (x : Reading). x.number) e) h.its_payload h'.its_payload,
        accepted_single _ _ _ _ _ _ (ap (λ (x : Reading). x.number) e) h.its_link h'.its_link,
      )

  pub read_refused : (r : Reading) (p l : List ℕ) (n : ℕ) → Read s payload link r p l → r.number ≡ suc n
      → (r ≡ refuse (suc n)) × (p ≡ payload) × (l ≡ link)
  read_refused r p l n h e =
      read_single r (refuse (suc n)) p payload l link h (refused_as s payload link n (sym (read_number r p l h) ∙ e))
