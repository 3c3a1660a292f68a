-- Calls of `write`: what an accepted one was given, that two in a row make one line, and that any two results of one
-- call are equal.
use Rattle.std.specs.Prelude.{if◌then◌else◌, Result, Ok, Err}
use Prim.Native.Nat.{ℕ, zero, suc, ◌+◌, ◌*◌, ◌%◌, ◌<◌, ◌≤◌}
use mathlib.Core.Path.{◌≡◌, refl, sym, ap, ap₂, ◌∙◌}
use mathlib.Core.Bool.{Bool, true, false, ◌&&◌, and-eq-true_iff}
use mathlib.Core.List.{List, [], ◌∷◌, ◌++◌}
use native.Mathlib.Decide.{dec_lt}
use native.Mathlib.Omega.{arith}
use borrow.Author.Tests.{lt-ltb, le-ltb, not-false, ltb-true, ltb-false, leb-true, eqb-true}
use lib.Dec.{eqb, leb, ltb}
use lib.ListN.{length, get_or, take, drop, get_or-eq_default}
use lib.Seq.{take_at}
use Rattle.base.specs.Tab.{all}
use Rattle.base.proofs.TabLaws.{all_at}
use Rattle.base.proofs.AnswerLaws.{accepted_so, accepted_not, accepted_single, joined_first, joined_then, first_tells}
use Rattle.base.specs.Answer.{accepted, Refusal, ◌when◌, first_number}
use Rattle.base.specs.Number.{refusal_number}
use Rattle.base.proofs.NumberLaws.{refusal_above_0}
use Rattle.base.specs.declared.Refused.{Refused}
use Rattle.e1.specs.Payload.{multiframes, sized}
use Rattle.write.specs.Writing.{carries, written}
use Rattle.write.specs.Answer.{Written, accept, refuse, answered}
use Rattle.write.specs.Entry.{overhead_limit, overhead_fits, faults, no_room, refusals, refusal, writing, Wrote}
use Rattle.write.specs.Inputs.{Inputs}
use Rattle.write.proofs.Laws.{limit_range, length_written}
use Rattle.write.proofs.Answers.{answered_single, not_15}
use Rattle.write.proofs.Joins.{carries_join, written_join}

-- the number: what is wrong with what is given comes first
module _ (p o : List ℕ) (c m : ℕ) where
  abbrev last : List Refusal
  last = 4 when no_room p m ∷ []

  pub fault_first : (e : Refused) → refusal_number e ≡ first_number (faults p o c) → refusal_number e ≡ refusal p o c m
  unfolding refusal
  fault_first e h = sym (joined_first last (faults p o c) refl (refusal_number e) h (refusal_above_0 e))

  no_fault : (t : Bool) → 0 ≡ first_number (faults p o c) → no_room p m ≡ t → (if t then 4 else 0) ≡ refusal p o c m
  unfolding refusal
  no_fault t z e = sym (joined_then last (faults p o c) refl (sym z) ∙ ap (λ t. if t then 4 else 0) e)

  pub room_short : 0 ≡ first_number (faults p o c) → m < 512 * multiframes p → 4 ≡ refusal p o c m
  room_short z h = no_fault true z (lt-ltb _ _ h)

  pub sound : 0 ≡ first_number (faults p o c) → 512 * multiframes p ≤ m → 0 ≡ refusal p o c m
  sound z h = no_fault false z (le-ltb _ _ h)

-- what a call answers
module _ (p o : List ℕ) (c : ℕ) (out : List ℕ) where
  abbrev number : ℕ
  number = refusal p o c (length out)

  pub refused : (e : Refused) → refusal_number e ≡ number → Wrote p o c out (answered (Err e)) out
  unfolding writing
  refused e h =
      let n : number ≡ 0 → ⊥ = λ z. refusal_above_0 e (h ∙ z) in
      record {
        its_answer = ap refuse h ∙ sym (accepted_not number _ _ n);
        its_out = sym (accepted_not (refusal_number e) _ out (refusal_above_0 e));
      }

  pub taken : (k : ℕ) (out' : List ℕ) → 0 ≡ number → k ≡ carries p o c (2 * multiframes p)
      → out' ≡ written p o c (2 * multiframes p) ++ drop (512 * multiframes p) out
      → Wrote p o c out (answered (Ok k)) out'
  unfolding writing
  taken k out' z ek eo = record { its_answer = ap accept ek ∙ sym (accepted_so number _ _ (sym z)); its_out = eo }

-- what an accepted call was given, and its room of m octets
pub record Fits (p o : List ℕ) (c m : ℕ) : Type 0 where
  pub inputs : Inputs p o c (multiframes p)
  pub least : 1 ≤ multiframes p
  pub most : multiframes p ≤ 16
  pub room : 512 * multiframes p ≤ m

pub accepted_call : (p o : List ℕ) (c m : ℕ) → refusal p o c m ≡ 0 → Fits p o c m
unfolding refusal sized overhead_fits
accepted_call p o c m z =
    let n = multiframes p in
    let within : ℕ → Bool = λ h. ltb (get_or o h 0) (overhead_limit h) in
    let t = rw z at (first_tells (refusals p o c m) refl) in
    let a = (and-eq-true_iff (eqb (length p % 496) 0) (leb 1 n && leb n 16)).0 (not-false _ t.0) in
    let b = (and-eq-true_iff (leb 1 n) (leb n 16)).0 a.1 in
    let d = (and-eq-true_iff (eqb (length o) (8 * n)) (all (length o) within)).0 (not-false _ t.1.0) in
    let e : length p % 496 ≡ 0 = eqb-true (length p % 496) 0 a.0 in
    record {
      inputs = record {
        payload_length = omega arith;
        overhead_length = eqb-true (length o) (8 * n) d.0;
        limited = λ h.
            elim (dec_lt h (length o)) [
              | yes l ↦ ltb-true (get_or o h 0) (overhead_limit h) (all_at (length o) within d.1 h l)
              | no l ↦ rw (get_or-eq_default o 0 {n = h} (omega arith)) (limit_range h).0
            ];
        four_bits = omega (arith, ltb-false 15 c t.1.1.0);
      };
      least = leb-true 1 n b.0;
      most = leb-true n 16 b.1;
      room = ltb-false m (512 * n) t.1.1.1.0;
    }

pub wrote_number : {p o : List ℕ} {c : ℕ} {out : List ℕ} {r : Written} {out' : List ℕ} → Wrote p o c out r out'
    → r.number ≡ refusal p o c (length out)
unfolding writing
wrote_number {p} {o} {c} {out} w = ap (λ (x : Written). x.number) w.its_answer ∙ go (refusal p o c (length out))
  where
    go : (n : ℕ) → (accepted n (accept (carries p o c (2 * multiframes p))) (refuse n)).number ≡ n
    go zero = refl
    go (suc n) = refl

-- a refused call answers zero beside its number, and leaves the output as it was
pub wrote_refused : {p o : List ℕ} {c : ℕ} {out : List ℕ} {r : Written} {out' : List ℕ} (n : ℕ) → Wrote p o c out r out'
    → r.number ≡ suc n
    → (r ≡ refuse (suc n)) × (out' ≡ out)
unfolding writing
wrote_refused {p} {o} {c} {out} n w z = (
  w.its_answer ∙ ap (λ k. accepted k (accept (carries p o c (2 * multiframes p))) (refuse k)) (sym (wrote_number w) ∙ z),
  w.its_out ∙ ap (λ k. accepted k (written p o c (2 * multiframes p) ++ drop (512 * multiframes p) out) out) z,
)

-- an accepted call's answer
module _ {p o : List ℕ} {c : ℕ} {out : List ℕ} {r : Written} {out' : List ℕ} (w : Wrote p o c out r out') (z : r.number ≡ 0) where
  pub wrote_check : r.check ≡ carries p o c (2 * multiframes p)
  unfolding writing
  wrote_check =
      ap (λ (x : Written). x.check)
      (w.its_answer ∙ ap (λ k. accepted k (accept (carries p o c (2 * multiframes p))) (refuse k)) (sym (wrote_number w) ∙ z))

  pub wrote_line : take (512 * multiframes p) out' ≡ written p o c (2 * multiframes p)
  wrote_line =
      let n = multiframes p in
      let l = written p o c (2 * n) in
      ap (take (512 * n)) (w.its_out ∙ ap (λ x. accepted x (l ++ drop (512 * n) out) out) z)
      ∙ take_at l (drop (512 * n) out) (512 * n) (length_written p o c (2 * n) ∙ omega arith)

  pub wrote_accepted : Fits p o c (length out)
  wrote_accepted = accepted_call p o c (length out) (sym (wrote_number w) ∙ z)

-- two calls in a row, the check handed on: one line
pub two_calls : {p p' o o' : List ℕ} {c : ℕ} {x x' y y' : List ℕ} {r r' : Written} → Wrote p o c x r y → r.number ≡ 0
    → Wrote p' o' r.check x' r' y' → r'.number ≡ 0
    → (take (512 * multiframes p) y ++ take (512 * multiframes p') y' ≡ written (p ++ p') (o ++ o') c (2 * (multiframes p + multiframes p')))
    × (r'.check ≡ carries (p ++ p') (o ++ o') c (2 * (multiframes p + multiframes p')))
two_calls {p} {p'} {o} {o'} {c} w z w' z' =
    let n = multiframes p in
    let m = multiframes p' in
    let i = (wrote_accepted w z).inputs in (
      ap₂ (λ a b. a ++ b) (wrote_line w z) (wrote_line w' z' ∙ ap (λ k. written p' o' k (2 * m)) (wrote_check w z))
          ∙ sym (written_join p p' o o' c n m i.payload_length i.overhead_length),
      wrote_check w' z' ∙ ap (λ k. carries p' o' k (2 * m)) (wrote_check w z) ∙ sym (carries_join p p' o o' c n m i.payload_length i.overhead_length),
    )

-- two results that one call admits
pub wrote_single : {p o : List ℕ} {c : ℕ} {out : List ℕ} {r r' : Written} {out' out'' : List ℕ} → Wrote p o c out r out'
    → Wrote p o c out r' out''
    → (r ≡ r') × (out' ≡ out'')
wrote_single w w' =
    let e = w.its_answer ∙ sym w'.its_answer in
    (e, accepted_single _ _ _ _ _ _ (ap (λ (x : Written). x.number) e) w.its_out w'.its_out)

pub results_single : {p o : List ℕ} {c : ℕ} {out : List ℕ} {r s : Result ℕ Refused} {out' out'' : List ℕ}
    → Wrote p o c out (answered r) out' → Wrote p o c out (answered s) out'' → r ≡ s
unfolding refusal
results_single {p} {o} {c} {out} {r} {s} w w' =
    answered_single r s (not_15 (refusals p o c (length out)) (answered r).number refl (wrote_number w)) (wrote_single w w').0
