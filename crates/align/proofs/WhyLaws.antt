-- What is said of a place is what the words of KIT §4 say, both ways.
use Prim.Native.Nat.{ℕ, suc, ◌+◌, ◌*◌, ◌≤◌, ◌<◌}
use mathlib.Core.Path.{◌≡◌, refl, sym, ap, subst, ◌∙◌}
use mathlib.Core.Bool.{Bool, true, false, cond, not}
use mathlib.Core.List.{List, [], ◌∷◌}
use mathlib.Core.Logic.{◌↔◌}
use Rattle.std.specs.Prelude.{Option, None, Some, Result, Ok, Err}
use native.Mathlib.Omega.{arith}
use borrow.Author.Tests.{eqb-true, eqb-false, eq-eqb, ne_eqb, ltb-true, ltb-false, lt-ltb, le-ltb, not-true, not-false}
use lib.Dec.{eqb, ltb}
use lib.ListN.{length}
use Rattle.base.specs.Answer.{◌when◌, first_number}
use Rattle.base.specs.declared.Refused.{Refused}
use Rattle.base.specs.declared.Refused.TheVariants.{TooShort, TooLong, Place}
use Rattle.base.specs.Tab.{least}
use Rattle.base.proofs.AnswerLaws.{Tells, first_tells}
use Rattle.base.proofs.TabLaws.{Least}
use Rattle.line.specs.Bit.{bit_at}
use Rattle.line.proofs.BitLaws.{bit_lt}
use Rattle.e1.specs.Frame.{wrong_bit, word_at, first_wrong}
use Rattle.e1.proofs.WordLaws.{word_holds, first_wrong_lem, first_only}
use Rattle.align.specs.Place.{pair_at}
use Rattle.align.specs.Stands.{Stands}
use Rattle.align.specs.Why.{signalled, judged, why_refusals, why_refusal, why, why_values, why_number}
use Rattle.align.specs.Says.{FirstWrong, Says}
use Rattle.align.specs.declared.Why.{Why}
use Rattle.align.specs.declared.Why.TheVariants.{NoneFails, FirstWord, Bit2, SecondWord, NoPair}
use Rattle.align.proofs.Laws.{basic_parts, least_k, no_k}

-- a word that is wrong, and its first wrong bit
first_wrong_at : (s : List ℕ) (q b : ℕ) → (word_at s q ≡ false) × (first_wrong s q ≡ b) ↔ FirstWrong s q b
first_wrong_at s q b = (there, back)
  where
    there : (word_at s q ≡ false) × (first_wrong s q ≡ b) → FirstWrong s q b
    there h =
        let f = first_wrong_lem s q h.0 in
        record {
          i = f.0;
          of_seven = f.1.below;
          place = sym h.1 ∙ f.2;
          before = λ j g. eqb-true _ _ (not-false _ (f.1.before j g));
          wrong = eqb-false _ _ (not-true _ f.1.passes);
        }

    back : FirstWrong s q b → (word_at s q ≡ false) × (first_wrong s q ≡ b)
    back h =
        let l : Least 7 (wrong_bit s q) h.i = record {
          below = h.of_seven;
          passes = ap not (ne_eqb _ _ h.wrong);
          before = λ j g. ap not (eq-eqb _ _ (h.before j g));
        } in
        let o = first_only s q h.i l in
        (o.0, o.1 ∙ sym h.place)

module _ (s : List ℕ) (p : ℕ) (room : p + 16384 ≤ 8 * length s) where
  says_so : Says s p (judged s p)
  unfolding judged Says
  says_so = go (word_at s p) refl (eqb (bit_at s (p + 257)) 1) refl (word_at s (p + 512)) refl (least 32 (pair_at s p)) refl
    where
      go : (a : Bool) → word_at s p ≡ a → (b : Bool) → eqb (bit_at s (p + 257)) 1 ≡ b → (c : Bool) → word_at s (p + 512) ≡ c
          → (o : Option ℕ) → least 32 (pair_at s p) ≡ o
          → Says s p (cond (not a) (FirstWord (first_wrong s p)) (cond (not b) Bit2 (cond (not c) (SecondWord (first_wrong s (p + 512))) (signalled o))))
      go false ea b eb c ec o eo = (first_wrong_at s p (first_wrong s p)).0 (ea, refl)
      go true ea false eb c ec o eo =
          ((word_holds s p).0 ea, omega (arith, bit_lt s (p + 257), eqb-false (bit_at s (p + 257)) 1 eb))
      go true ea true eb false ec o eo =
          ((word_holds s p).0 ea, eqb-true _ _ eb, (first_wrong_at s (p + 512) (first_wrong s (p + 512))).0 (ec, refl))
      go true ea true eb true ec None eo = ((basic_parts s p).0 (ea, eb, ec), (no_k s p).0 eo)
      go true ea true eb true ec (Some k) eo =
          let l = (least_k s p k).0 eo in
          record { room = room; basic = (basic_parts s p).0 (ea, eb, ec); pair = l.0; least = l.1 }

  said_so : (w : Why) → Says s p w → judged s p ≡ w
  unfolding judged Says
  said_so (NoneFails k) h =
      let t = (basic_parts s p).1 h.basic in
      rw (t.0, t.1, t.2, (least_k s p k).1 (h.pair, h.least))
  said_so (FirstWord b) h = let f = (first_wrong_at s p b).1 h in rw f.0 (ap FirstWord f.1)
  said_so Bit2 h = rw ((word_holds s p).1 h.0, ne_eqb (bit_at s (p + 257)) 1 (λ e. omega (arith, e, h.1)))
  said_so (SecondWord b) h =
      let f = (first_wrong_at s (p + 512) b).1 h.2 in
      rw ((word_holds s p).1 h.0, eq-eqb _ _ h.1, f.0) (ap SecondWord f.1)
  said_so NoPair h =
      let t = (basic_parts s p).1 h.0 in
      rw (t.0, t.1, t.2, (no_k s p).1 h.1)

  judged_says : (w : Why) → judged s p ≡ w ↔ Says s p w
  judged_says w = (λ e. subst (Says s p) e says_so, said_so w)

-- The entry: its numbers, and what an accepted call and a refused one answer.
module _ (s : List ℕ) (p : ℕ) where
  tells : Tells (why_refusal s p) (why_refusals s p)
  unfolding why_refusal
  tells = first_tells (why_refusals s p) refl

  pub asked : why_refusal s p ≡ 0 ↔ (2048 ≤ length s) × (length s ≤ 8192) × (p + 16384 ≤ 8 * length s)
  unfolding why_refusal
  asked = (there, λ h. rw (le-ltb (length s) 2048 h.0, le-ltb 8192 (length s) h.1, le-ltb (8 * length s) (p + 16384) h.2))
    where
      there : why_refusal s p ≡ 0 → (2048 ≤ length s) × (length s ≤ 8192) × (p + 16384 ≤ 8 * length s)
      there e =
          let t = rw e at tells in
          (ltb-false (length s) 2048 t.0, ltb-false 8192 (length s) t.1.0, ltb-false (8 * length s) (p + 16384) t.1.1.0)

  -- the number that is answered is that of the table
  pub why_answers : why_number (why s p) ≡ why_refusal s p
  unfolding why why_refusal
  why_answers = go (ltb (length s) 2048) (ltb 8192 (length s)) (ltb (8 * length s) (p + 16384)) (judged s p)
    where
      go : (a b c : Bool) (w : Why)
          → why_number (cond a (Err TooShort) (cond b (Err TooLong) (cond c (Err Place) (Ok w))))
          ≡ first_number (1 when a ∷ 2 when b ∷ 14 when c ∷ [])
      go true b c w = refl
      go false true c w = refl
      go false false true w = refl
      go false false false (NoneFails k) = refl
      go false false false (FirstWord b) = refl
      go false false false Bit2 = refl
      go false false false (SecondWord b) = refl
      go false false false NoPair = refl

  pub why_short : why s p ≡ Err TooShort ↔ length s < 2048
  unfolding why why_refusal
  why_short = (λ e. ltb-true (length s) 2048 (rw (number e) at tells), λ h. rw (lt-ltb (length s) 2048 h))
    where
      number : why s p ≡ Err TooShort → why_refusal s p ≡ 1
      number e = sym why_answers ∙ ap why_number e

  pub why_long : why s p ≡ Err TooLong ↔ 8192 < length s
  unfolding why why_refusal
  why_long = (
    λ e. ltb-true 8192 (length s) (rw (number e) at tells).1,
    λ h. rw (le-ltb (length s) 2048 (omega arith), lt-ltb 8192 (length s) h),
  )
    where
      number : why s p ≡ Err TooLong → why_refusal s p ≡ 2
      number e = sym why_answers ∙ ap why_number e

  pub why_late : 2048 ≤ length s → length s ≤ 8192 → why s p ≡ Err Place ↔ 8 * length s < p + 16384
  unfolding why why_refusal
  why_late long short = (
    λ e. ltb-true (8 * length s) (p + 16384) (rw (number e) at tells).1.1,
    λ h. rw (le-ltb (length s) 2048 long, le-ltb 8192 (length s) short, lt-ltb (8 * length s) (p + 16384) h),
  )
    where
      number : why s p ≡ Err Place → why_refusal s p ≡ 14
      number e = sym why_answers ∙ ap why_number e

  pub why_judged : why_refusal s p ≡ 0 → why s p ≡ Ok (judged s p)
  unfolding why
  why_judged e =
      let a = asked.0 e in
      rw (le-ltb (length s) 2048 a.0, le-ltb 8192 (length s) a.1, le-ltb (8 * length s) (p + 16384) a.2)

  -- each answer to an accepted call is given exactly when what it says holds
  pub why_says : why_refusal s p ≡ 0 → (w : Why) → why s p ≡ Ok w ↔ Says s p w
  why_says e w =
      let says = judged_says s p (asked.0 e).2 w in
      (λ h. let same : Ok (judged s p) ≡ Ok w = sym (why_judged e) ∙ h in says.0 (cc), λ h. why_judged e ∙ ap Ok (says.1 h))

  -- that it stands is said of a place exactly when it does
  pub why_stands : 2048 ≤ length s → length s ≤ 8192 → (k : ℕ) → why s p ≡ Ok (NoneFails k) ↔ Stands s p k
  unfolding Says
  why_stands long short k = (
    λ e. (why_says (sym why_answers ∙ ap why_number e) (NoneFails k)).0 e,
    λ h. (why_says (asked.1 (long, short, h.room)) (NoneFails k)).1 h,
  )

-- a refusal is zeros beside its number
pub why_zeros : (r : Result Why Refused) (n : ℕ) → why_number r ≡ suc n → why_values r ≡ suc n ∷ 0 ∷ 0 ∷ 0 ∷ []
why_zeros (Ok (NoneFails k)) n e = absurd (omega arith)
why_zeros (Ok (FirstWord b)) n e = absurd (omega arith)
why_zeros (Ok Bit2) n e = absurd (omega arith)
why_zeros (Ok (SecondWord b)) n e = absurd (omega arith)
why_zeros (Ok NoPair) n e = absurd (omega arith)
why_zeros (Err e) n h = ap (λ m. m ∷ 0 ∷ 0 ∷ 0 ∷ []) h
