-- What is measured from the first place that stands, what is located with it, and what is answered of it.
use Prim.Native.Nat.{ℕ, zero, suc, ◌+◌, ◌-◌, ◌*◌, ◌/◌, ◌≤◌}
use mathlib.Core.Path.{◌≡◌, refl, sym, ap, ap₂, ◌∙◌}
use mathlib.Core.Bool.{true, false, ◌||◌}
use mathlib.Core.List.{List, ◌++◌}
use Rattle.std.specs.Prelude.{Some, Ok, Err}
use native.Mathlib.Nat.{add-zero}
use native.Mathlib.Omega.{arith}
use lib.Dec.{ltb}
use lib.ListN.{length, drop}
use Rattle.line.specs.Bit.{Room}
use Rattle.align.specs.Place.{first_standing}
use Rattle.align.proofs.Laws.{first_within}
use Rattle.measure.specs.Reading.{whole, loss, loss_from, lost_at, cause_of, used_of, payload_of, slot0_of, word_errors, word_bits}
use Rattle.measure.specs.Reading.{compared, errored, far_end}
use Rattle.read.specs.Answer.{answered, refuse}
use Rattle.read.specs.Entry.{unplaced, located, Locates, start_in, whole_in, loss_in, used_in, GoodLength}
use Rattle.read.specs.Entry.{reading, accept, refused_place, refusal, Read}
use Rattle.measure.proofs.Laws.{whole_fits}
use Rattle.measure.proofs.LossLaws.{used_le}
use Rattle.measure.proofs.FromLaws.{from_first, used_upto}
use Rattle.read.specs.declared.Located.{Located}
use Rattle.read.specs.declared.Reading as code
use Rattle.read.proofs.EntryLaws.{place_is, start_is, placed, unplaced_first, placed_then, refused_as}
use Rattle.base.specs.Answer.{first_number}
use Rattle.base.specs.Number.{refusal_number, refusal_place}
use Rattle.base.specs.declared.Refused.{Refused}
use Rattle.base.proofs.AnswerLaws.{accepted_so}
use Rattle.base.proofs.NumberLaws.{refusal_above_0}

-- the start q, M and G
pub record Measured (s : List ℕ) (q m g : ℕ) : Type 0 where
  pub at : q ≡ start_in s
  pub of : m ≡ whole_in s
  pub upto : g ≡ used_in s
  pub room : Room s q (4096 * g)

module _ (s : List ℕ) (good : GoodLength s) (p k : ℕ) (e : first_standing s ≡ Some (record { place = p; k = k })) where
  pub start_room : (p + 16384 ≤ 8 * length s) × (k ≤ 18) × (length s ≤ 8192)
  start_room = let h = first_within s p k e in (h.0, omega arith, good.short)

  module _ (q m g : ℕ) (hq : q ≡ p + 512 * k) (hm : m ≡ (8 * length s - q) / 4096) (hg : g ≡ used_of (loss_from s q 0 m) m) where
    pub measured : Measured s q m g
    unfolding whole
    measured =
        let at : q ≡ start_in s = hq ∙ start_is s (record { place = p; k = k }) e in
        let of : m ≡ whole_in s = hm ∙ ap (whole s) at in
        let r = start_room in
        let t = whole_fits s q (omega arith) in
        record {
          at = at;
          of = of;
          upto = hg ∙ ap (λ o. used_of o m) (from_first s q m) ∙ ap₂ (λ x y. used_of (loss s x y) y) at of;
          room = record { countable = omega arith; there = omega (arith, used_upto s q 0 m) };
        }

    -- what is located from there
    pub located_so : (l : Located) → l.place ≡ p → l.start ≡ q → l.whole ≡ m → l.used ≡ g → l.loss ≡ loss_from s q 0 m
        → l.words ≡ word_errors s (q + 4096 * 0) (g - 0) → l.wordbits ≡ word_bits s (q + 4096 * 0) (g - 0) → l ≡ located s
    unfolding located
    located_so l h₁ h₂ h₃ h₄ h₅ h₆ h₇ =
        let d = measured in
        let at : q + 4096 * 0 ≡ start_in s = add-zero q ∙ d.at in
        let all : g - 0 ≡ g = omega arith in
        λ i.
        record {
          place = (h₁ ∙ place_is s (record { place = p; k = k }) e) i;
          start = (h₂ ∙ d.at) i;
          whole = (h₃ ∙ d.of) i;
          used = (h₄ ∙ d.upto) i;
          loss = (h₅ ∙ from_first s q m ∙ ap₂ (loss s) d.at d.of) i;
          words = (h₆ ∙ ap₂ (word_errors s) at (all ∙ d.upto)) i;
          wordbits = (h₇ ∙ ap₂ (word_bits s) at (all ∙ d.upto)) i;
        }

-- what is located in an image that a place stands in
pub record Places (s : List ℕ) (l : Located) : Type 0 where
  pub none : first_number (unplaced s) ≡ 0
  pub its : l ≡ located s
  pub at : l.start ≡ start_in s
  pub upto : l.used ≡ used_in s
  pub few : l.used ≤ 16
  pub room : Room s l.start (4096 * l.used)

pub places : (s : List ℕ) (l : Located) → Locates s (Ok l) → Places s l
unfolding located
places s l h =
    let t = placed s h.0 in
    let at : l.start ≡ start_in s = ap (λ (x : Located). x.start) h.1 in
    let upto : l.used ≡ used_in s = ap (λ (x : Located). x.used) h.1 in
    let from = start_is s t.1 t.2 in
    let r = start_room s t.0 t.1.place t.1.k t.2 in
    let f = whole_fits s (start_in s) (omega arith) in
    let u = used_le s (start_in s) (whole_in s) in
    record {
      none = h.0;
      its = h.1;
      at = at;
      upto = upto;
      few = omega arith;
      room = record { countable = omega arith; there = omega arith };
    }

-- the same refusal is the reading's
pub unplaced_read : (s : List ℕ) (e : Refused) → Locates s (Err e) → (payload slot0 : List ℕ)
    → Read s payload slot0 (answered (Err e)) payload slot0
unplaced_read s e h payload slot0 = go (refusal_number e) h.0 h.1 (refusal_above_0 e)
  where
    go : (n : ℕ) → first_number (unplaced s) ≡ n → refusal_place e ≡ refused_place s n → (n ≡ 0 → ⊥)
        → Read s payload slot0 (refuse n (refusal_place e)) payload slot0
    go zero f p z = absurd (z refl)
    go (suc n) f p z =
        rw p (refused_as s payload slot0 n (unplaced_first s (length payload) (length slot0) (suc n) (sym f) z))

module _ (s : List ℕ) (l : Located) (h : Locates s (Ok l)) (payload slot0 : List ℕ) where
  -- number 4, or 0
  pub short_read : (let t = ltb (length payload) (496 * l.used) || ltb (length slot0) (16 * l.used) in
      (t ≡ true → Read s payload slot0 (refuse 4 0) payload slot0)
      × (t ≡ false → refusal s (length payload) (length slot0) ≡ 0))
  short_read =
      let d = places s l h in
      let n = placed_then s (length payload) (length slot0) d.none in
      let u = ap (λ g. ltb (length payload) (496 * g) || ltb (length slot0) (16 * g)) d.upto in (
        λ e. refused_as s payload slot0 3 (n true (sym u ∙ e)),
        λ e. n false (sym u ∙ e),
      )

  pub all_read : (payload' slot0' : List ℕ) (r : code.Reading)
      → refusal s (length payload) (length slot0) ≡ 0
      → r.place ≡ l.place
      → r.start ≡ l.start
      → r.whole ≡ l.whole
      → r.used ≡ l.used
      → r.loss ≡ l.loss
      → r.words ≡ l.words
      → r.compared ≡ compared l.used
      → r.errored ≡ errored s l.start l.used
      → r.farend ≡ far_end s l.start l.used
      → r.wordbits ≡ l.wordbits
      → payload' ≡ payload_of s l.start l.used ++ drop (496 * l.used) payload
      → slot0' ≡ slot0_of s l.start l.used ++ drop (16 * l.used) slot0
      → Read s payload slot0 (answered (Ok r)) payload' slot0'
  unfolding reading accept located
  all_read payload' slot0' r n h₁ h₂ h₃ h₄ h₅ h₆ h₇ h₈ h₉ h₁₀ ep eo =
      let d = places s l h in
      let k = refusal s (length payload) (length slot0) in
      let of : l ≡ located s = h.1 in
      let lost : r.loss ≡ loss_in s = h₅ ∙ ap (λ (x : Located). x.loss) of in
      let its : answered (Ok r) ≡ accept s = λ i.
      record {
        number = 0;
        place = (h₁ ∙ ap (λ (x : Located). x.place) of) i;
        start = (h₂ ∙ d.at) i;
        whole = (h₃ ∙ ap (λ (x : Located). x.whole) of) i;
        used = (h₄ ∙ d.upto) i;
        lost = lost_at (lost i);
        words = (h₆ ∙ ap (λ (x : Located). x.words) of) i;
        compared = (h₇ ∙ ap compared d.upto) i;
        errored = (h₈ ∙ ap₂ (errored s) d.at d.upto) i;
        farend = (h₉ ∙ ap₂ (far_end s) d.at d.upto) i;
        wordbits = (h₁₀ ∙ ap (λ (x : Located). x.wordbits) of) i;
        cause = cause_of (lost i);
      } in
      record {
        its_answer = its ∙ sym (accepted_so k (accept s) (refuse k (refused_place s k)) n);
        its_payload = ep ∙ ap₂ (λ x y. payload_of s x y ++ drop (496 * y) payload) d.at d.upto;
        its_slot0 = eo ∙ ap₂ (λ x y. slot0_of s x y ++ drop (16 * y) slot0) d.at d.upto;
      }
