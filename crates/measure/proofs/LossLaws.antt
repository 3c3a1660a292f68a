-- The laws of the loss: what is computed is what KIT §5 says in words.
use Rattle.std.specs.Prelude.{if◌then◌else◌}
use Prim.Native.Nat.{ℕ, ◌+◌, ◌*◌, ◌/◌, ◌≤◌, ◌<◌}
use mathlib.Core.Path.{◌≡◌, refl, ap, ◌∙◌, subst}
use mathlib.Core.Bool.{Bool, true, false, not}
use mathlib.Core.List.{List}
use mathlib.Core.Logic.{◌↔◌, ⊎_elim, inl, inr}
use Rattle.std.specs.Prelude.{Option, None, Some}
use Rattle.base.proofs.OptionLaws.{none-ne-some, some-ne-none, some-injective}
use mathlib.Mathlib.Data.Bool.Basic.{eq-false_of_not-eq-true}
use native.Mathlib.Omega.{arith}
use borrow.Author.Tests.{leb-true, leb-false, ltb-true, ltb-false, eqb-true, eq-eqb, not-true}
use lib.Dec.{eqb, leb, ltb}
use Rattle.base.proofs.ChoiceLaws.{denies}
use Rattle.line.specs.Bit.{bit_at, field}
use Rattle.e1.specs.Frame.{frame_at}
use Rattle.e1.proofs.WordLaws.{word_holds}
use Rattle.measure.specs.Loss.{LostByWords, LostByBits2, LostBy, Loss}
use Rattle.measure.specs.Reading.{wrong, wrong_bit2, word_loss, bit2_loss, earlier, loss, lost_at, cause_of, used_of}
use Rattle.measure.proofs.Runs.{never_third, lost_by_lem, not_lost_by}

-- the word of the even frame 2i isn't 0011011
pub wrong_word : (s : List ℕ) (q i : ℕ) → wrong s q i ≡ true ↔ (field s (frame_at q (2 * i) + 1) 7 ≡ 27 → ⊥)
unfolding wrong
wrong_word s q i =
    let w = word_holds s (frame_at q (2 * i)) in
    (λ e. denies w (not-true _ e), λ h. ap not (eq-false_of_not-eq-true (λ t. h (w.0 t))))

wrong_bit_2 : (s : List ℕ) (q i : ℕ) → wrong_bit2 s q i ≡ true ↔ bit_at s (frame_at q (2 * i + 1) + 1) ≡ 0
unfolding wrong_bit2
wrong_bit_2 s q i = let b = bit_at s (frame_at q (2 * i + 1) + 1) in (eqb-true b 0, eq-eqb b 0)

pub right_bit_2 : (s : List ℕ) (q i : ℕ) → bit_at s (frame_at q (2 * i + 1) + 1) ≡ 1 → wrong_bit2 s q i ≡ false
unfolding wrong_bit2
right_bit_2 s q i e = ap (λ b. eqb b 0) e

module _ (s : List ℕ) (q m : ℕ) where
  -- what is found by either rule
  word_loss_lem : (f : ℕ) → word_loss s q m ≡ Some f
      → LostByWords s q f × (f < 16 * m) × ((g : ℕ) → g < f → LostByWords s q g → ⊥)
  unfolding word_loss
  word_loss_lem f e =
      let w = lost_by_lem (wrong s q) _ 0 (omega arith) (λ i. 2 * i) (λ i. omega arith) (wrong_word s q) (8 * m) f e in
      (record { even = w.0; wrong = w.1 }, omega (arith, w.2), λ g l h. w.3 g l h.even h.wrong)

  no_word_loss : word_loss s q m ≡ None → (g : ℕ) → g < 16 * m → LostByWords s q g → ⊥
  unfolding word_loss
  no_word_loss e g l h =
      not_lost_by (wrong s q) _ 0 (omega arith) (λ i. 2 * i) (λ i. omega arith) (wrong_word s q) (8 * m) e g (omega arith) h.even h.wrong

  bit2_loss_lem : (f : ℕ) → bit2_loss s q m ≡ Some f
      → LostByBits2 s q f × (f < 16 * m) × ((g : ℕ) → g < f → LostByBits2 s q g → ⊥)
  unfolding bit2_loss
  bit2_loss_lem f e =
      let w = lost_by_lem (wrong_bit2 s q) _ 1 (omega arith) (λ i. 2 * i + 1) (λ i. refl) (wrong_bit_2 s q) (8 * m) f e in
      (record { odd = w.0; wrong = w.1 }, omega (arith, w.2), λ g l h. w.3 g l h.odd h.wrong)

  no_bit2_loss : bit2_loss s q m ≡ None → (g : ℕ) → g < 16 * m → LostByBits2 s q g → ⊥
  unfolding bit2_loss
  no_bit2_loss e g l h =
      not_lost_by (wrong_bit2 s q) _ 1 (omega arith) (λ i. 2 * i + 1) (λ i. refl) (wrong_bit_2 s q) (8 * m) e g (omega arith) h.odd h.wrong

  -- one of them, where the other finds nothing earlier
  by_words : (f : ℕ) → word_loss s q m ≡ Some f → ((g : ℕ) → g < f → LostByBits2 s q g → ⊥) → Loss s q m f
  by_words f e b =
      let w = word_loss_lem f e in
      record { here = inl w.0; among = w.1; before = λ g l. ⊎_elim (w.2 g l) (b g l) }

  by_bits2 : (f : ℕ) → bit2_loss s q m ≡ Some f → ((g : ℕ) → g < f → LostByWords s q g → ⊥) → Loss s q m f
  by_bits2 f e b =
      let w = bit2_loss_lem f e in
      record { here = inr w.0; among = w.1; before = λ g l. ⊎_elim (b g l) (w.2 g l) }

  the_earlier : (f g : ℕ) → word_loss s q m ≡ Some f → bit2_loss s q m ≡ Some g → (b : Bool) → leb f g ≡ b → Loss s q m (if b then f else g)
  the_earlier f g e k true c = let l = leb-true f g c in by_words f e (λ h i. (bit2_loss_lem g k).2 h (omega arith))
  the_earlier f g e k false c = let l = leb-false f g c in by_bits2 g k (λ h i. (word_loss_lem f e).2 h (omega arith))

  found_loss : (a b : Option ℕ) → word_loss s q m ≡ a → bit2_loss s q m ≡ b → (f : ℕ) → earlier a b ≡ Some f → Loss s q m f
  found_loss None None e k f w = absurd (none-ne-some f w)
  found_loss (Some g) None e k f w =
      let l = (word_loss_lem g e).1 in
      subst (Loss s q m) (some-injective g f w) (by_words g e (λ h i. no_bit2_loss k h (omega arith)))
  found_loss None (Some g) e k f w =
      let l = (bit2_loss_lem g k).1 in
      subst (Loss s q m) (some-injective g f w) (by_bits2 g k (λ h i. no_word_loss e h (omega arith)))
  found_loss (Some g) (Some h) e k f w =
      subst (Loss s q m) (some-injective (if leb g h then g else h) f w) (the_earlier g h e k (leb g h) refl)

  no_loss : (a b : Option ℕ) → word_loss s q m ≡ a → bit2_loss s q m ≡ b → earlier a b ≡ None → (f : ℕ) → f < 16 * m → LostBy s q f → ⊥
  no_loss None None e k w f l = ⊎_elim (no_word_loss e f l) (no_bit2_loss k f l)
  no_loss (Some g) None e k w f l = absurd (some-ne-none g w)
  no_loss None (Some g) e k w f l = absurd (some-ne-none g w)
  no_loss (Some g) (Some h) e k w f l = absurd (some-ne-none (if leb g h then g else h) w)

  pub loss_is : (f : ℕ) → loss s q m ≡ Some f → Loss s q m f
  unfolding loss
  loss_is = found_loss (word_loss s q m) (bit2_loss s q m) refl refl

  none_is : loss s q m ≡ None → (f : ℕ) → f < 16 * m → LostBy s q f → ⊥
  unfolding loss
  none_is = no_loss (word_loss s q m) (bit2_loss s q m) refl refl

  not_at_0 : LostBy s q 0 → ⊥
  not_at_0 = ⊎_elim (λ w. omega (arith, w.wrong.enough)) (λ w. omega (arith, w.wrong.enough))

  only_one : (f g : ℕ) → Loss s q m f → Loss s q m g → f ≡ g
  only_one f g v w = go (ltb f g) refl (ltb g f) refl
    where
      go : (a : Bool) → ltb f g ≡ a → (b : Bool) → ltb g f ≡ b → f ≡ g
      go true e true k = absurd (w.before f (ltb-true f g e) v.here)
      go true e false k = absurd (w.before f (ltb-true f g e) v.here)
      go false e true k = absurd (v.before g (ltb-true g f k) w.here)
      go false e false k = omega (arith, ltb-false f g e, ltb-false g f k)

  -- it is answered as the frame that is lost, and 0 where there is none
  pub lost_at_lem : (f : ℕ) → 0 < f → lost_at (loss s q m) ≡ f ↔ Loss s q m f
  lost_at_lem f z = (there (loss s q m) refl, λ w. back w (loss s q m) refl)
    where
      there : (o : Option ℕ) → loss s q m ≡ o → lost_at o ≡ f → Loss s q m f
      there None e k = absurd (omega arith)
      there (Some g) e k = rw (← k) (loss_is g e)

      back : Loss s q m f → (o : Option ℕ) → loss s q m ≡ o → lost_at (loss s q m) ≡ f
      back w None e = absurd (none_is e f w.among w.here)
      back w (Some g) e = ap lost_at e ∙ only_one g f (loss_is g e) w

  pub never_lost : lost_at (loss s q m) ≡ 0 ↔ ((f : ℕ) → f < 16 * m → LostBy s q f → ⊥)
  never_lost = (there (loss s q m) refl, λ h. back h (loss s q m) refl)
    where
      there : (o : Option ℕ) → loss s q m ≡ o → lost_at o ≡ 0 → (f : ℕ) → f < 16 * m → LostBy s q f → ⊥
      there None e k = none_is e
      there (Some g) e k = absurd (not_at_0 (rw k at (loss_is g e).here))

      back : ((f : ℕ) → f < 16 * m → LostBy s q f → ⊥) → (o : Option ℕ) → loss s q m ≡ o → lost_at (loss s q m) ≡ 0
      back h None e = ap lost_at e
      back h (Some g) e = let w = loss_is g e in absurd (h g w.among w.here)

  -- its cause is the rule by which it is lost
  pub cause_words : cause_of (loss s q m) ≡ 1 ↔ LostByWords s q (lost_at (loss s q m))
  cause_words = go (loss s q m) refl
    where
      go : (o : Option ℕ) → loss s q m ≡ o → cause_of o ≡ 1 ↔ LostByWords s q (lost_at o)
      go None e = (λ k. absurd (omega arith), λ w. absurd (not_at_0 (inl w)))
      go (Some f) e = (λ k. ⊎_elim (λ w. w) (λ w. absurd (omega (arith, w.odd))) (loss_is f e).here, λ w. omega (arith, w.even))

  pub cause_bits2 : cause_of (loss s q m) ≡ 2 ↔ LostByBits2 s q (lost_at (loss s q m))
  cause_bits2 = go (loss s q m) refl
    where
      go : (o : Option ℕ) → loss s q m ≡ o → cause_of o ≡ 2 ↔ LostByBits2 s q (lost_at o)
      go None e = (λ k. absurd (omega arith), λ w. absurd (not_at_0 (inr w)))
      go (Some f) e = (λ k. ⊎_elim (λ w. absurd (omega (arith, w.even))) (λ w. w) (loss_is f e).here, λ w. omega (arith, w.odd))

  pub cause_none : cause_of (loss s q m) ≡ 0 ↔ lost_at (loss s q m) ≡ 0
  cause_none = go (loss s q m) refl
    where
      go : (o : Option ℕ) → loss s q m ≡ o → cause_of o ≡ 0 ↔ lost_at o ≡ 0
      go None e = (λ k. refl, λ k. refl)
      go (Some f) e = (λ k. absurd (omega arith), λ k. absurd (not_at_0 (rw k at (loss_is f e).here)))

  -- with no bit 2 wrong it is that by words
  pub words_alone : ((i : ℕ) → i < 8 * m → bit_at s (frame_at q (2 * i + 1) + 1) ≡ 1) → loss s q m ≡ word_loss s q m
  unfolding loss bit2_loss
  words_alone h =
      ap (earlier (word_loss s q m)) (never_third (wrong_bit2 s q) (λ i. 2 * i + 1) (8 * m) (λ i l. right_bit_2 s q i (h i l)))
      ∙ go (word_loss s q m)
    where
      go : (o : Option ℕ) → earlier o None ≡ o
      go None = refl
      go (Some f) = refl

  -- G is the number of the multiframe that holds the frame, or m
  pub used_at : 0 < lost_at (loss s q m) → used_of (loss s q m) m ≡ lost_at (loss s q m) / 16
  used_at = go (loss s q m)
    where
      go : (o : Option ℕ) → 0 < lost_at o → used_of o m ≡ lost_at o / 16
      go None h = absurd (omega arith)
      go (Some f) h = refl

  pub used_all : lost_at (loss s q m) ≡ 0 → used_of (loss s q m) m ≡ m
  used_all = go (loss s q m) refl
    where
      go : (o : Option ℕ) → loss s q m ≡ o → lost_at o ≡ 0 → used_of o m ≡ m
      go None e k = refl
      go (Some f) e k = absurd (not_at_0 (rw k at (loss_is f e).here))

  pub used_le : used_of (loss s q m) m ≤ m
  used_le = go (loss s q m) refl
    where
      go : (o : Option ℕ) → loss s q m ≡ o → used_of o m ≤ m
      go None e = omega arith
      go (Some f) e = let l = loss_is f e in omega (arith, l.among)
