-- The laws of the entry: its numbers, what an accepted call and a refused one give, and that two results are equal.
use Rattle.std.specs.Prelude.{if◌then◌else◌}
use Prim.Native.Nat.{ℕ, zero, suc, ◌+◌, ◌*◌, ◌≤◌, ◌<◌}
use mathlib.Core.Path.{◌≡◌, refl, sym, ap, subst, ◌∙◌}
use mathlib.Core.Bool.{Bool, true, false, ◌||◌, true≢false}
use mathlib.Core.List.{List, [], ◌∷◌}
use Rattle.std.specs.Prelude.{Option, None, Some}
use mathlib.Mathlib.Data.Bool.Basic.{or-eq-false-eq-eq-false-and-eq-false}
use native.Mathlib.Omega.{arith}
use borrow.Author.Tests.{lt-ltb, le-ltb, ltb-false}
use lib.Dec.{eqb, ltb}
use lib.ListN.{length}
use Rattle.base.proofs.AnswerLaws.{accepted_so, accepted_both, accepted_single, joined_first, joined_then, Tells, first_tells}
use Rattle.base.specs.Answer.{accepted, Refusal, ◌when◌, first_number}
use Rattle.align.specs.Place.{found, found_in, number_of, place_of, start_of, Standing, first_standing, first_basic}
use Rattle.align.specs.Stands.{StandsFirst}
use Rattle.align.specs.declared.Found.{Found}
use Rattle.align.specs.declared.Found.TheVariants.{At, BasicAt, Nothing}
use Rattle.align.proofs.Laws.{first_stands, first_within}
use Rattle.read.specs.Entry.{GoodLength, refused_place, reading, accept, unplaced, refusals, refusal, place_in, start_in}
use Rattle.read.specs.Entry.{whole_in, used_in, Read}
use Rattle.measure.proofs.Laws.{whole_fits}
use Rattle.measure.proofs.LossLaws.{used_le}
use Rattle.read.specs.Answer.{Reading, refuse}

-- The numbers

-- the search's answer by its number
numbered_3 : (f : Found) → eqb (number_of f) 3 ≡ true → f ≡ Nothing
numbered_3 (At p k) e = absurd (true≢false (sym e))
numbered_3 (BasicAt p) e = absurd (true≢false (sym e))
numbered_3 Nothing e = refl

numbered_15 : (f : Found) → eqb (number_of f) 15 ≡ true → f ≡ BasicAt (place_of f)
numbered_15 (At p k) e = absurd (true≢false (sym e))
numbered_15 (BasicAt p) e = refl
numbered_15 Nothing e = absurd (true≢false (sym e))

found_0 : (o : Option Standing) (b : Option ℕ) → eqb (number_of (found o b)) 3 ≡ false
    → eqb (number_of (found o b)) 15 ≡ false → (w : Standing) × (o ≡ Some w)
found_0 (Some w) b e f = (w, refl)
found_0 None (Some p) e f = absurd (true≢false f)
found_0 None None e f = absurd (true≢false e)

-- past the tests of the length
tested_good : (s : List ℕ) → ltb (length s) 2048 ≡ false → ltb 8192 (length s) ≡ false → GoodLength s
tested_good s e f = record { long = ltb-false (length s) 2048 e; short = ltb-false 8192 (length s) f }

pub placed_1 : (s : List ℕ) → length s < 2048 → first_number (unplaced s) ≡ 1
placed_1 s h = rw (lt-ltb (length s) 2048 h)

pub placed_2 : (s : List ℕ) → 8192 < length s → first_number (unplaced s) ≡ 2
placed_2 s h = rw (le-ltb (length s) 2048 (omega arith), lt-ltb 8192 (length s) h)

module _ (s : List ℕ) (good : GoodLength s) where
  pub placed_0 : (w : Standing) → first_standing s ≡ Some w → first_number (unplaced s) ≡ 0
  placed_0 w e = rw (le-ltb (length s) 2048 good.long, le-ltb 8192 (length s) good.short, e) refl

  pub placed_3 : found_in s ≡ Nothing → first_number (unplaced s) ≡ 3
  placed_3 e = rw (le-ltb (length s) 2048 good.long, le-ltb 8192 (length s) good.short, e)

  pub placed_15 : (p : ℕ) → found_in s ≡ BasicAt p → first_number (unplaced s) ≡ 15
  placed_15 p e = rw (le-ltb (length s) 2048 good.long, le-ltb 8192 (length s) good.short, e)

-- an image that is not refused by these has a good length, and a place stands in it
pub placed : (s : List ℕ) → first_number (unplaced s) ≡ 0 → GoodLength s × (w : Standing) × (first_standing s ≡ Some w)
placed s e =
    let t = rw e at (first_tells (unplaced s) refl) in
    let w = found_0 (first_standing s) (first_basic s) t.1.1.0 t.1.1.1.0 in
    (tested_good s t.0 t.1.0, w.0, w.1)

module _ (s : List ℕ) (a b : ℕ) where
  -- an output is shorter than the call needs
  abbrev pub short_output : Bool
  short_output = ltb a (496 * used_in s) || ltb b (16 * used_in s)

  tells : Tells (refusal s a b) (refusals s a b)
  unfolding refusal
  tells = first_tells (refusals s a b) refl

  -- the number: what the image is refused for comes first
  abbrev last : List Refusal
  last = 4 when short_output ∷ []

  pub unplaced_first : (n : ℕ) → n ≡ first_number (unplaced s) → (n ≡ 0 → ⊥) → refusal s a b ≡ n
  unfolding refusal
  unplaced_first n e h = joined_first last (unplaced s) refl n e h

  pub placed_then : first_number (unplaced s) ≡ 0 → (t : Bool) → short_output ≡ t → refusal s a b ≡ (if t then 4 else 0)
  unfolding refusal
  placed_then z t e = joined_then last (unplaced s) refl z ∙ ap (λ t. if t then 4 else 0) e

  -- what 3 and 15 tell of the search
  pub told_3 : refusal s a b ≡ 3 → GoodLength s × (found_in s ≡ Nothing)
  told_3 e =
      let t = rw e at tells in
      (tested_good s t.0 t.1.0, numbered_3 (found_in s) t.1.1)

  pub told_15 : refusal s a b ≡ 15 → GoodLength s × (found_in s ≡ BasicAt (place_in s))
  unfolding place_in
  told_15 e =
      let t = rw e at tells in
      (tested_good s t.0 t.1.0, numbered_15 (found_in s) t.1.1.1)

  -- of an image of good length
  module _ (good : GoodLength s) where
    pub refused_3 : found_in s ≡ Nothing → refusal s a b ≡ 3
    refused_3 e = unplaced_first 3 (sym (placed_3 s good e)) (λ z. omega arith)

    pub refused_15 : (p : ℕ) → found_in s ≡ BasicAt p → refusal s a b ≡ 15
    refused_15 p e = unplaced_first 15 (sym (placed_15 s good p e)) (λ z. omega arith)

    -- on which a place stands
    pub accepts : (w : Standing) → first_standing s ≡ Some w → short_output ≡ false → refusal s a b ≡ 0
    accepts w e f = placed_then (placed_0 s good w e) false f

-- the place and the start are those of the first place that stands
module _ (s : List ℕ) (w : Standing) (e : first_standing s ≡ Some w) where
  pub place_is : w.place ≡ place_in s
  unfolding place_in
  place_is = sym (ap (λ o. place_of (found o (first_basic s))) e)

  pub start_is : w.place + 512 * w.k ≡ start_in s
  unfolding start_in
  start_is = sym (ap (λ o. start_of (found o (first_basic s))) e)

-- what holds where the call is accepted
pub record Ready (s : List ℕ) (a b : ℕ) : Type 0 where
  pub good : GoodLength s
  pub k : ℕ
  pub first : StandsFirst s (place_in s) k
  pub start : start_in s ≡ place_in s + 512 * k
  pub whole : start_in s + 4096 * whole_in s ≤ 8 * length s
  pub used : used_in s ≤ whole_in s
  pub payload : 496 * used_in s ≤ a
  pub slot0 : 16 * used_in s ≤ b

pub ready : (s : List ℕ) (a b : ℕ) → refusal s a b ≡ 0 → Ready s a b
ready s a b e =
    let t = rw e at (tells s a b) in
    let w = found_0 (first_standing s) (first_basic s) t.1.1.0 t.1.1.1.0 in
    let f = (or-eq-false-eq-eq-false-and-eq-false (ltb a (496 * used_in s)) (ltb b (16 * used_in s))).0 t.1.1.1.1.0 in
    let p = place_is s w.0 w.1 in
    let q = start_is s w.0 w.1 in
    let r = first_within s w.0.place w.0.k w.1 in
    record {
      good = tested_good s t.0 t.1.0;
      k = w.0.k;
      first = rw (← p) ((first_stands s w.0.place w.0.k).0 w.1);
      start = omega arith;
      whole = whole_fits s (start_in s) (omega arith);
      used = used_le s (start_in s) (whole_in s);
      payload = ltb-false a (496 * used_in s) f.0;
      slot0 = ltb-false b (16 * used_in s) f.1;
    }

-- The results

-- a refusal answers its number, with 15 a place, and zeros
pub refused_as : (s payload slot0 : List ℕ) (n : ℕ) → refusal s (length payload) (length slot0) ≡ suc n
    → Read s payload slot0 (refuse (suc n) (refused_place s (suc n))) payload slot0
unfolding reading
refused_as s payload slot0 n e = record { its_answer = rw e; its_payload = refl; its_slot0 = refl }

module _ (s payload slot0 : List ℕ) where
  abbrev number : ℕ
  number = refusal s (length payload) (length slot0)

  pub read_number : (r : Reading) (p o : List ℕ) → Read s payload slot0 r p o → r.number ≡ number
  unfolding reading accept
  read_number r p o h = ap (λ (x : Reading). x.number) h.its_answer ∙ go number
    where
      go : (n : ℕ) → (accepted n (accept s) (refuse n (refused_place s n))).number ≡ n
      go zero = refl
      go (suc n) = refl

  -- an accepted call
  pub read_accepted : (r : Reading) (p o : List ℕ) → Read s payload slot0 r p o → r.number ≡ 0 → r ≡ accept s
  unfolding reading
  read_accepted r p o h z =
      h.its_answer ∙ accepted_so number (accept s) (refuse number (refused_place s number)) (sym (read_number r p o h) ∙ z)

  -- what holds of an accepted answer and of every refusal holds of any answer
  pub read_either : (P : Reading → Type 0) → P (accept s) → ((n q : ℕ) → P (refuse n q)) → (r : Reading) (p o : List ℕ)
      → Read s payload slot0 r p o → P r
  unfolding reading
  read_either P a f r p o h = subst P (sym h.its_answer) (accepted_both P number a (f number (refused_place s number)))

  -- two results that the contract admits are equal
  pub read_single : (r r' : Reading) (p p' o o' : List ℕ) → Read s payload slot0 r p o → Read s payload slot0 r' p' o'
      → (r ≡ r') × (p ≡ p') × (o ≡ o')
  read_single r r' p p' o o' h h' =
      let e : r ≡ r' = h.its_answer ∙ sym h'.its_answer in (
        e,
        accepted_single _ _ _ _ _ _ (ap (λ (x : Reading). x.number) e) h.its_payload h'.its_payload,
        accepted_single _ _ _ _ _ _ (ap (λ (x : Reading). x.number) e) h.its_slot0 h'.its_slot0,
      )

  -- a refusal is zeros beside its number and, with 15, its place; and both outputs as they were
  pub read_refused : (r : Reading) (p o : List ℕ) (n : ℕ) → Read s payload slot0 r p o → r.number ≡ suc n
      → (r ≡ refuse (suc n) (refused_place s (suc n))) × (p ≡ payload) × (o ≡ slot0)
  read_refused r p o n h e =
      read_single r (refuse (suc n) (refused_place s (suc n))) p payload o slot0 h
      (refused_as s payload slot0 n (sym (read_number r p o h) ∙ e))

  -- the place that is answered is the first that stands, and the start is s = p + 512k with its least k
  pub read_place : (r : Reading) (p o : List ℕ) → Read s payload slot0 r p o → r.number ≡ 0
      → (k : ℕ) × StandsFirst s r.place k × (r.start ≡ r.place + 512 * k)
  unfolding accept
  read_place r p o h e =
      let d = ready s (length payload) (length slot0) (sym (read_number r p o h) ∙ e) in
      let a = read_accepted r p o h e in
      let at : r.place ≡ place_in s = ap (λ (x : Reading). x.place) a in
      let from : r.start ≡ start_in s = ap (λ (x : Reading). x.start) a in (
        d.k,
        subst (λ x. StandsFirst s x d.k) (sym at) d.first,
        from ∙ d.start ∙ ap (λ x. x + 512 * d.k) (sym at),
      )
