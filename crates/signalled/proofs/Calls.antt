-- Calls of `write_signalled`: what an accepted one was given, that it is `write`'s with slot 16 replaced, and that any two
-- results of one call are equal.
use Rattle.std.specs.Prelude.{if◌then◌else◌, Result, Ok, Err}
use Prim.Native.Nat.{ℕ, zero, suc, ◌*◌, ◌%◌, ◌<◌, ◌≤◌}
use mathlib.Core.Path.{◌≡◌, refl, sym, ap, ap₂, ◌∙◌}
use mathlib.Core.Bool.{Bool, true, false, ◌&&◌, not, and-eq-true_iff}
use mathlib.Core.List.{List, ◌++◌}
use borrow.Author.Tests.{lt-ltb, le-ltb, not-false, leb-true}
use lib.Dec.{eqb, leb}
use lib.ListN.{length, drop}
use Rattle.base.specs.Answer.{accepted, Refusal, first_number}
use Rattle.base.specs.Number.{refusal_number}
use Rattle.base.proofs.NumberLaws.{refusal_above_0}
use Rattle.base.specs.declared.Refused.{Refused}
use Rattle.base.proofs.AnswerLaws.{accepted_so, accepted_not, accepted_single, joined_first, joined_then, first_tells, tells_first}
use Rattle.e1.specs.Payload.{multiframes, sized}
use Rattle.write.specs.Writing.{carries, written}
use Rattle.write.specs.Inputs.{Inputs}
use Rattle.write.specs.Entry as write
use Rattle.write.specs.Entry.{faults, no_room}
use Rattle.write.specs.Answer.{Written, accept, refuse, answered}
use Rattle.write.proofs.Answers.{answered_single, not_15}
use Rattle.write.proofs.Calls as plain
use Rattle.signalled.specs.Slot16.{with_slot16, signals_fit}
use Rattle.signalled.specs.Entry.{refusals, refusal, writing, Wrote}
use Rattle.signalled.specs.Given.{Given}
use Rattle.signalled.proofs.Laws.{given, with_length, with_multiframes}

-- without a fault it is 16 multiframes at most
pub faultless : (p o : List ℕ) (c : ℕ) → 0 ≡ first_number (faults p o c) → multiframes p ≤ 16
unfolding sized
faultless p o c z =
    let n = multiframes p in
    let t = rw (sym z) at (first_tells (faults p o c) refl) in
    let a = (and-eq-true_iff (eqb (length p % 496) 0) (leb 1 n && leb n 16)).0 (not-false _ t.0) in
    leb-true n 16 ((and-eq-true_iff (leb 1 n) (leb n 16)).0 a.1).1

module _ (p o : List ℕ) (c : ℕ) (xy v : List ℕ) (m : ℕ) where
  -- behind the faults
  abbrev last : List Refusal
  last = drop 3 (refusals p o c xy v m)

  pub fault_first : (e : Refused) → refusal_number e ≡ first_number (faults p o c) → refusal_number e ≡ refusal p o c xy v m
  unfolding refusal
  fault_first e h = sym (joined_first last (faults p o c) refl (refusal_number e) h (refusal_above_0 e))

  abbrev number : Bool → Bool → ℕ
  number s t = if s then 16 else if t then 4 else 0

  no_fault : (s t : Bool) → 0 ≡ first_number (faults p o c) → not (signals_fit xy v (multiframes p)) ≡ s → no_room p m ≡ t
      → number s t ≡ refusal p o c xy v m
  unfolding refusal
  no_fault s t z e k =
      let h : first_number last ≡ number (not (signals_fit xy v (multiframes p))) (no_room p m) = refl in
      sym (joined_then last (faults p o c) refl (sym z) ∙ h ∙ ap₂ number e k)

  pub no_signals : 0 ≡ first_number (faults p o c) → signals_fit xy v (multiframes p) ≡ false → 16 ≡ refusal p o c xy v m
  no_signals z e = no_fault true (no_room p m) z (ap not e) refl

  module _ (z : 0 ≡ first_number (faults p o c)) (e : signals_fit xy v (multiframes p) ≡ true) where
    pub room_short : m < 512 * multiframes p → 4 ≡ refusal p o c xy v m
    room_short h = no_fault false true z (ap not e) (lt-ltb _ _ h)

    pub sound : 512 * multiframes p ≤ m → 0 ≡ refusal p o c xy v m
    sound h = no_fault false false z (ap not e) (le-ltb _ _ h)

  -- what an accepted call was given
  plain_refusal : write.refusal (with_slot16 p xy v) o c m ≡ write.refusal p o c m
  unfolding write.refusal
  plain_refusal = rw (with_length p xy v)

  plain_accepts : refusal p o c xy v m ≡ 0 → write.refusal p o c m ≡ 0
  unfolding refusal write.refusal
  plain_accepts z =
      let t = rw z at (first_tells (refusals p o c xy v m) refl) in
      tells_first 0 (write.refusals p o c m) refl (t.0, (t.1.0, (t.1.1.0, (t.1.1.1.1.0, tt))))

  pub accepted_fits : refusal p o c xy v m ≡ 0 → plain.Fits p o c m
  accepted_fits z = plain.accepted_call p o c m (plain_accepts z)

  pub accepted_call : refusal p o c xy v m ≡ 0 → Given xy v (multiframes p) × plain.Fits (with_slot16 p xy v) o c m
  unfolding refusal
  accepted_call z =
      let t = rw z at (first_tells (refusals p o c xy v m) refl) in (
        given xy v (multiframes p) (not-false _ t.1.1.1.0),
        plain.accepted_call (with_slot16 p xy v) o c m (plain_refusal ∙ plain_accepts z),
      )

-- and what the writer is given then
module _ (p o : List ℕ) (c : ℕ) (xy v : List ℕ) (m : ℕ) (z : refusal p o c xy v m ≡ 0) where
  pub accepted_inputs : Inputs (with_slot16 p xy v) o c (multiframes p)
  accepted_inputs = rw (with_multiframes p xy v) at ((accepted_call p o c xy v m z).1.inputs)

  pub accepted_whole : length p ≡ 496 * length xy
  accepted_whole = rw (sym (accepted_call p o c xy v m z).0.its_xy.long) at (accepted_fits p o c xy v m z).inputs.payload_length

  pub accepted_given : Given xy v (length xy)
  accepted_given = let g = (accepted_call p o c xy v m z).0 in rw (sym g.its_xy.long) at g

-- what a call answers
module _ (p o : List ℕ) (c : ℕ) (xy v out : List ℕ) where
  abbrev its_number : ℕ
  its_number = refusal p o c xy v (length out)

  abbrev q : List ℕ
  q = with_slot16 p xy v

  pub refused : (e : Refused) → refusal_number e ≡ its_number → Wrote p o c xy v out (answered (Err e)) out
  unfolding writing
  refused e h =
      let n : its_number ≡ 0 → ⊥ = λ z. refusal_above_0 e (h ∙ z) in
      record {
        its_answer = ap refuse h ∙ sym (accepted_not its_number _ _ n);
        its_out = sym (accepted_not (refusal_number e) _ out (refusal_above_0 e));
      }

  pub taken : (k : ℕ) (out' : List ℕ) → 0 ≡ its_number → k ≡ carries q o c (2 * multiframes p)
      → out' ≡ written q o c (2 * multiframes p) ++ drop (512 * multiframes p) out
      → Wrote p o c xy v out (answered (Ok k)) out'
  unfolding writing
  taken k out' z ek eo = record { its_answer = ap accept ek ∙ sym (accepted_so its_number _ _ (sym z)); its_out = eo }

module _ {p o : List ℕ} {c : ℕ} {xy v out : List ℕ} {r : Written} {out' : List ℕ} (w : Wrote p o c xy v out r out') where
  abbrev answer : ℕ → Written
  answer k = accepted k (accept (carries (with_slot16 p xy v) o c (2 * multiframes p))) (refuse k)

  abbrev left : ℕ → ℕ → List ℕ
  left k n = accepted k (written (with_slot16 p xy v) o c (2 * n) ++ drop (512 * n) out) out

  pub wrote_number : r.number ≡ refusal p o c xy v (length out)
  unfolding writing
  wrote_number = ap (λ (x : Written). x.number) w.its_answer ∙ go (refusal p o c xy v (length out))
    where
      go : (n : ℕ) → (answer n).number ≡ n
      go zero = refl
      go (suc n) = refl

  -- an accepted call is `write`'s, with slot 16 replaced
  pub wrote_plain : r.number ≡ 0 → write.Wrote (with_slot16 p xy v) o c out r out'
  unfolding writing write.writing
  wrote_plain z =
      let a = sym wrote_number ∙ z in
      let q = with_slot16 p xy v in
      let k = with_multiframes p xy v in
      record {
        its_answer = w.its_answer ∙ ap answer a ∙ ap (λ n. accept (carries q o c (2 * n))) (sym k)
            ∙ sym (accepted_so (write.refusal q o c (length out)) _ _
            (plain_refusal p o c xy v (length out) ∙ plain_accepts p o c xy v (length out) a));
        its_out = w.its_out ∙ ap (left r.number) (sym k);
      }

-- a refused call answers zero beside its number, and leaves the output as it was
pub wrote_refused : {p o : List ℕ} {c : ℕ} {xy v out : List ℕ} {r : Written} {out' : List ℕ} (n : ℕ)
    → Wrote p o c xy v out r out' → r.number ≡ suc n
    → (r ≡ refuse (suc n)) × (out' ≡ out)
unfolding writing
wrote_refused {p} n w z = (
  w.its_answer ∙ ap (answer w) (sym (wrote_number w) ∙ z),
  w.its_out ∙ ap (λ k. left w k (multiframes p)) z,
)

-- two results that one call admits
pub wrote_single : {p o : List ℕ} {c : ℕ} {xy v out : List ℕ} {r r' : Written} {out' out'' : List ℕ}
    → Wrote p o c xy v out r out' → Wrote p o c xy v out r' out''
    → (r ≡ r') × (out' ≡ out'')
wrote_single w w' =
    let e = w.its_answer ∙ sym w'.its_answer in
    (e, accepted_single _ _ _ _ _ _ (ap (λ (x : Written). x.number) e) w.its_out w'.its_out)

pub results_single : {p o : List ℕ} {c : ℕ} {xy v out : List ℕ} {r s : Result ℕ Refused} {out' out'' : List ℕ}
    → Wrote p o c xy v out (answered r) out' → Wrote p o c xy v out (answered s) out'' → r ≡ s
unfolding refusal
results_single {p} {o} {c} {xy} {v} {out} {r} {s} w w' =
    answered_single r s (not_15 (refusals p o c xy v (length out)) (answered r).number refl (wrote_number w)) (wrote_single w w').0
