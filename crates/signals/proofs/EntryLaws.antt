-- The laws of the entry: its numbers, what an accepted call and a refused one give, and that two results are equal.
use Rattle.std.specs.Prelude.{if◌then◌else◌}
use Prim.Native.Nat.{ℕ, zero, suc, ◌*◌, ◌/◌, ◌%◌}
use mathlib.Core.Path.{◌≡◌, refl, sym, ap, ◌∙◌}
use mathlib.Core.Bool.{Bool}
use mathlib.Core.List.{List, [], ◌∷◌, ◌++◌}
use native.Mathlib.Omega.{arith}
use lib.Dec.{ltb}
use lib.ListN.{length, drop}
use Rattle.base.specs.Answer.{accepted, Refusal, ◌when◌, first_number}
use Rattle.base.proofs.AnswerLaws.{accepted_so, accepted_not, accepted_single, joined_first, joined_then}
use Rattle.base.proofs.TabLaws.{length_tab}
use Rattle.std.specs.Prelude.{Ok, Err}
use Rattle.base.specs.Number.{refusal_number}
use Rattle.base.specs.declared.Refused.{Refused}
use Rattle.base.proofs.NumberLaws.{refusal_above_0}
use Rattle.read.specs.Entry.{unplaced, Locates}
use Rattle.signals.specs.Signalling.{read_in, abcd_in, xy_in}
use Rattle.signals.specs.Entry.{slot16_of, slot16_in, filled, refusal, accept, refuse, signalling, Signalled}
use Rattle.signals.specs.Follow.{followed}
use Rattle.signals.specs.declared.Followed.{Followed}
use Rattle.signals.specs.Answer.{Signalling, answered}

pub slot16_length : (s : List ℕ) (q g : ℕ) → length (slot16_of s q g) ≡ 16 * g
unfolding slot16_of
slot16_length s q g = length_tab (16 * g) _

pub abcd_length : (t : List ℕ) (n : ℕ) → length (abcd_in t n) ≡ 30 * read_in t n
unfolding abcd_in
abcd_length t n = length_tab (30 * read_in t n) _

-- The number: what the image is refused for comes first

module _ (s : List ℕ) (a : ℕ) where
  abbrev last : List Refusal
  last = 4 when ltb a (filled (slot16_in s)) ∷ []

  pub unplaced_first : (n : ℕ) → n ≡ first_number (unplaced s) → (n ≡ 0 → ⊥) → refusal s a ≡ n
  unfolding refusal
  unplaced_first n e h = joined_first last (unplaced s) refl n e h

  pub placed_then : first_number (unplaced s) ≡ 0 → (t : Bool) → ltb a (filled (slot16_in s)) ≡ t → refusal s a ≡ (if t then 4 else 0)
  unfolding refusal
  placed_then z t e = joined_then last (unplaced s) refl z ∙ ap (λ t. if t then 4 else 0) e

-- The results

module _ (s out : List ℕ) where
  abbrev t : List ℕ
  t = slot16_in s

  abbrev number : ℕ
  number = refusal s (length out)

  pub signals_number : (r : Signalling) (o : List ℕ) → Signalled s out r o → r.number ≡ number
  unfolding signalling accept
  signals_number r o h = ap (λ (x : Signalling). x.number) h.its_answer ∙ go number
    where
      go : (n : ℕ) → (accepted n (accept t) (refuse n)).number ≡ n
      go zero = refl
      go (suc n) = refl

  pub refused_as : (n : ℕ) → number ≡ n → (n ≡ 0 → ⊥) → Signalled s out (refuse n) out
  unfolding signalling
  refused_as n e h =
      record {
        its_answer = sym (ap refuse e) ∙ sym (accepted_not number (accept t) (refuse number) (λ z. h (sym e ∙ z)));
        its_out = sym (accepted_not n (abcd_in t (length t) ++ drop (filled t) out) out h);
      }

  pub accepted_as : (r : Signalling) (o : List ℕ) → number ≡ 0 → r ≡ accept t → o ≡ abcd_in t (length t) ++ drop (filled t) out
      → Signalled s out r o
  unfolding signalling accept
  accepted_as r o z e k =
      record {
        its_answer = e ∙ sym (accepted_so number (accept t) (refuse number) z);
        its_out = k ∙ sym (accepted_so r.number _ out (ap (λ (x : Signalling). x.number) e));
      }

  pub signals_accepted : (r : Signalling) (o : List ℕ) → Signalled s out r o → r.number ≡ 0
      → (r ≡ accept t) × (o ≡ abcd_in t (length t) ++ drop (filled t) out)
  unfolding signalling
  signals_accepted r o h z = (
    h.its_answer ∙ accepted_so number (accept t) (refuse number) (sym (signals_number r o h) ∙ z),
    h.its_out ∙ accepted_so r.number _ out z,
  )

  pub signals_single : (r r' : Signalling) (o o' : List ℕ) → Signalled s out r o → Signalled s out r' o' → (r ≡ r') × (o ≡ o')
  signals_single r r' o o' h h' =
      let e : r ≡ r' = h.its_answer ∙ sym h'.its_answer in
      (e, accepted_single _ _ _ _ _ _ (ap (λ (x : Signalling). x.number) e) h.its_out h'.its_out)

  -- a refusal is zeros beside its number, and the output as it was
  pub signals_refused : (r : Signalling) (o : List ℕ) (n : ℕ) → Signalled s out r o → r.number ≡ suc n
      → (r ≡ refuse (suc n)) × (o ≡ out)
  signals_refused r o n h e =
      signals_single r (refuse (suc n)) o out h (refused_as (suc n) (sym (signals_number r o h) ∙ e) (λ z. omega arith))

  -- what `locate` refuses
  pub unplaced_as : (e : Refused) → Locates s (Err e) → Signalled s out (refuse (refusal_number e)) out
  unplaced_as e l =
      refused_as (refusal_number e) (unplaced_first s (length out) (refusal_number e) (sym l.0) (refusal_above_0 e)) (refusal_above_0 e)

-- the answer from what is found
pub answer_found : (t : List ℕ) (r : Followed) (x : ℕ) → r ≡ followed t → x ≡ xy_in t (length t)
    → answered (Ok record {
      multiframes = r.multiframes;
      first = r.first;
      losses = r.losses;
      held = r.held;
      x0 = x / 8 % 2;
      x1 = x / 2 % 2;
      x2 = x % 2;
      y = x / 4 % 2;
      starts = r.starts;
    }) ≡ accept t
unfolding accept followed
answer_found t r x e k = λ i.
    record {
      number = 0;
      multiframes = (e i).multiframes;
      first = (e i).first;
      losses = (e i).losses;
      held = (e i).held;
      x0 = k i / 8 % 2;
      x1 = k i / 2 % 2;
      x2 = k i % 2;
      y = k i / 4 % 2;
      starts = (e i).starts;
    }
