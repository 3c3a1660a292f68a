-- Calls of the two entries: what an accepted one was given, that two in a row make one line, and that any two results of
-- one call are equal. What is answered of a payload with signalling is what is answered of the payload with bits replaced.
use Rattle.std.specs.Prelude.{if◌then◌else◌}
use Prim.Native.Nat.{ℕ, suc, ◌+◌, ◌*◌, ◌%◌, ◌≤◌}
use mathlib.Core.Path.{◌≡◌, refl, sym, ap, ap₂, ◌∙◌}
use mathlib.Core.Bool.{Bool, true, false, not, ◌&&◌, and-eq-true_iff}
use mathlib.Core.List.{List, ◌++◌}
use mathlib.Core.Logic.{◌↔◌}
use native.Mathlib.Decide.{dec_lt}
use native.Mathlib.Omega.{arith}
use borrow.Author.Tests.{not-false, ltb-true, lt-ltb, le-ltb, ltb-false, leb-true, le-leb, eqb-true, eq-eqb}
use lib.Dec.{eqb, leb, ltb, lit<}
use lib.ListN.{length, get_or, take, drop, get_or-eq_default}
use lib.Seq.{take_at, drop_at}
use Rattle.base.specs.Tab.{all}
use Rattle.base.specs.Answer.{Refusal, first_number}
use Rattle.base.proofs.TabLaws.{all_at, at_all}
use Rattle.base.proofs.AnswerLaws.{accepted_so, accepted_not, accepted_single, joined_first, joined_then, first_tells, tells_first}
use Rattle.t1.specs.Payload.{superframes, sized}
use Rattle.t1write.specs.Writing.{carries, written, with_signals}
use Rattle.t1write.specs.Entry.{are_bits, faults, no_room, refusals, refusal, signalled_refusals, signalled_refusal}
use Rattle.t1write.specs.Entry.{writing, output_of, Wrote, WroteSignalled}
use Rattle.t1write.specs.Inputs.{OfBits, Inputs}
use Rattle.t1write.proofs.Laws.{length_written}
use Rattle.t1write.proofs.Joins.{carries_join, written_join}
use Rattle.t1write.proofs.Signals.{length_signals}
use Rattle.t1write.specs.Answer.{Written}

-- n octets of 0 or 1
pub bits_are : (o : List ℕ) (n : ℕ) → are_bits o n ≡ true ↔ OfBits o n
unfolding are_bits
bits_are o n = (there, λ b. rw (eq-eqb (length o) n b.long) (at_all n bit (λ i h. lt-ltb (get_or o i 0) 2 (b.bits i))))
  where
    bit : ℕ → Bool
    bit i = ltb (get_or o i 0) 2

    there : are_bits o n ≡ true → OfBits o n
    there e =
        let t = (and-eq-true_iff (eqb (length o) n) (all n bit)).0 e in
        let l = eqb-true (length o) n t.0 in
        record {
          long = l;
          bits = λ i.
              elim (dec_lt i n) [
                | yes h ↦ ltb-true (get_or o i 0) 2 (all_at n bit t.1 i h)
                | no h ↦ rw (get_or-eq_default o 0 {n = i} (omega arith)) (lit< tt)
              ];
        }

-- which lengths a payload may have
pub sized_is : (p : List ℕ) → sized (length p) ≡ true
    ↔ ((length p ≡ 576 * superframes p) × (1 ≤ superframes p) × (superframes p ≤ 14))
unfolding sized
sized_is p = (
  λ e.
      let n = superframes p in
      let a = (and-eq-true_iff (eqb (length p % 576) 0) (leb 1 n && leb n 14)).0 e in
      let b = (and-eq-true_iff (leb 1 n) (leb n 14)).0 a.1 in
      (omega (arith, eqb-true (length p % 576) 0 a.0), leb-true 1 n b.0, leb-true n 14 b.1),
  λ h. rw (eq-eqb (length p % 576) 0 (omega (arith, h.0)), le-leb 1 (superframes p) h.1, le-leb (superframes p) 14 h.2),
)

-- what both entries ask of a payload, a data link and a check
pub record Sound (p l : List ℕ) (c : ℕ) : Type 0 where
  pub inputs : Inputs p l c (superframes p)
  pub least : 1 ≤ superframes p
  pub most : superframes p ≤ 14

pub sound_is : (p l : List ℕ) (c : ℕ) → first_number (faults p l c) ≡ 0 ↔ Sound p l c
sound_is p l c = (there, back)
  where
    there : first_number (faults p l c) ≡ 0 → Sound p l c
    there z =
        let t = rw z at (first_tells (faults p l c) refl) in
        let s = (sized_is p).0 (not-false _ t.0) in
        record {
          inputs = record {
            payload = s.0;
            link = (bits_are l (12 * superframes p)).0 (not-false _ t.1.0);
            six_bits = omega (arith, ltb-false 63 c t.1.1.0);
          };
          least = s.1;
          most = s.2;
        }

    back : Sound p l c → first_number (faults p l c) ≡ 0
    back s =
        let g = s.inputs in
        rw ((sized_is p).1 (g.payload, s.least, s.most), (bits_are l (12 * superframes p)).1 g.link, le-ltb 63 c (omega (arith, g.six_bits)))

-- The numbers: what is wrong with what is given comes first. m is how many octets the output has.
module _ (p l : List ℕ) (c m : ℕ) where
  -- behind the faults
  abbrev last : List Refusal
  last = drop 3 (refusals p l c m)

  pub fault_first : (n : ℕ) → n ≡ first_number (faults p l c) → (n ≡ 0 → ⊥) → n ≡ refusal p l c m
  unfolding refusal
  fault_first n e h = sym (joined_first last (faults p l c) refl n e h)

  pub no_fault : first_number (faults p l c) ≡ 0 → (t : Bool) → no_room p m ≡ t → (if t then 4 else 0) ≡ refusal p l c m
  unfolding refusal
  no_fault z t e = sym (joined_then last (faults p l c) refl z ∙ ap (λ t. if t then 4 else 0) e)

  pub accepts : refusal p l c m ≡ 0 ↔ (Sound p l c × (579 * superframes p ≤ m))
  unfolding refusal
  accepts = (
    λ z.
        let t = rw z at (first_tells (refusals p l c m) refl) in (
          (sound_is p l c).0 (tells_first 0 (faults p l c) refl (t.0, (t.1.0, (t.1.1.0, tt)))),
          ltb-false m (579 * superframes p) t.1.1.1.0,
        ),
    λ s. sym (no_fault ((sound_is p l c).1 s.0) false (le-ltb m (579 * superframes p) s.1)),
  )

  -- with signalling g
  module _ (g : List ℕ) where
    -- behind the faults
    abbrev behind : List Refusal
    behind = drop 3 (signalled_refusals p l c g m)

    abbrev number : Bool → Bool → ℕ
    number s t = if s then 16 else if t then 4 else 0

    pub fault_first_signalled : (n : ℕ) → n ≡ first_number (faults p l c) → (n ≡ 0 → ⊥) → n ≡ signalled_refusal p l c g m
    unfolding signalled_refusal
    fault_first_signalled n e h = sym (joined_first behind (faults p l c) refl n e h)

    pub no_fault_signalled : first_number (faults p l c) ≡ 0 → (s t : Bool) → not (are_bits g (96 * superframes p)) ≡ s
        → no_room p m ≡ t → number s t ≡ signalled_refusal p l c g m
    unfolding signalled_refusal
    no_fault_signalled z s t e k =
        let h : first_number behind ≡ number (not (are_bits g (96 * superframes p))) (no_room p m) = refl in
        sym (joined_then behind (faults p l c) refl z ∙ h ∙ ap₂ number e k)

    pub accepts_signalled : signalled_refusal p l c g m ≡ 0
        ↔ (Sound p l c × OfBits g (96 * superframes p) × (579 * superframes p ≤ m))
    unfolding signalled_refusal
    accepts_signalled = (
      λ z.
          let t = rw z at (first_tells (signalled_refusals p l c g m) refl) in (
            (sound_is p l c).0 (tells_first 0 (faults p l c) refl (t.0, (t.1.0, (t.1.1.0, tt)))),
            (bits_are g (96 * superframes p)).0 (not-false _ t.1.1.1.0),
            ltb-false m (579 * superframes p) t.1.1.1.1.0,
          ),
      λ s.
          sym (no_fault_signalled ((sound_is p l c).1 s.0) false false
          (ap not ((bits_are g (96 * superframes p)).1 s.1)) (le-ltb m (579 * superframes p) s.2)),
    )

-- What a call with the number n answers, and leaves in the output, where it sends the payload p: r and out'.
pub record Told (n : ℕ) (p l : List ℕ) (c : ℕ) (out : List ℕ) (r : Written) (out' : List ℕ) : Type 0 where
  pub answer : r ≡ writing n p c
  pub output : out' ≡ output_of r.number p l c out

pub wrote : {p l : List ℕ} {c : ℕ} {out : List ℕ} {r : Written} {out' : List ℕ} → Wrote p l c out r out'
    ↔ Told (refusal p l c (length out)) p l c out r out'
wrote = (
  λ w. record { answer = w.its_answer; output = w.its_out },
  λ t. record { its_answer = t.answer; its_out = t.output },
)

pub wrote_signalled : {p l : List ℕ} {c : ℕ} {g out : List ℕ} {r : Written} {out' : List ℕ}
    → WroteSignalled p l c g out r out'
    ↔ Told (signalled_refusal p l c g (length out)) (with_signals p g) l c out r out'
wrote_signalled = (
  λ w. record { answer = w.its_answer; output = w.its_out },
  λ t. record { its_answer = t.answer; its_out = t.output },
)

abbrev made : ℕ → ℕ → Written
made m k = record { number = m; check = k }

module _ (n : ℕ) (p l : List ℕ) (c : ℕ) (out : List ℕ) where
  pub told_no : (m : ℕ) → m ≡ n → (m ≡ 0 → ⊥) → Told n p l c out (made m 0) out
  told_no m e z =
      record {
        answer = ap₂ made e (sym (accepted_not n (carries p c (superframes p)) 0 (λ y. z (e ∙ y))));
        output = sym (accepted_not m _ out z);
      }

  pub told_yes : 0 ≡ n → (m k : ℕ) (out' : List ℕ) → m ≡ superframes p → k ≡ carries p c m
      → out' ≡ written p l c m ++ drop (579 * m) out → Told n p l c out (made 0 k) out'
  told_yes e m k out' em ek eo =
      record {
        answer = ap₂ made e (ek ∙ ap (carries p c) em ∙ sym (accepted_so n (carries p c (superframes p)) 0 (sym e)));
        output = eo ∙ ap (λ m. written p l c m ++ drop (579 * m) out) em;
      }

module _ {n : ℕ} {p l : List ℕ} {c : ℕ} {out : List ℕ} {r : Written} {out' : List ℕ} (w : Told n p l c out r out') where
  pub told_number : r.number ≡ n
  told_number = ap (λ (x : Written). x.number) w.answer

  -- a refused call answers zero beside its number, and leaves the output as it was
  pub told_refused : (k : ℕ) → r.number ≡ suc k → (r ≡ record { number = suc k; check = 0 }) × (out' ≡ out)
  told_refused k z = (
    w.answer ∙ ap (λ k. writing k p c) (sym told_number ∙ z),
    w.output ∙ ap (λ k. output_of k p l c out) z,
  )

  -- an accepted one answers the check, and leaves the line in front of what was behind it
  module _ (z : r.number ≡ 0) where
    pub told_check : r.check ≡ carries p c (superframes p)
    told_check = ap (λ (x : Written). x.check) (w.answer ∙ ap (λ k. writing k p c) (sym told_number ∙ z))

    its : out' ≡ written p l c (superframes p) ++ drop (579 * superframes p) out
    its = w.output ∙ ap (λ k. output_of k p l c out) z

    pub told_line : take (579 * superframes p) out' ≡ written p l c (superframes p)
    told_line =
        let k = superframes p in
        ap (take (579 * k)) its ∙ take_at (written p l c k) (drop (579 * k) out) (579 * k) (length_written p l c k)

    pub told_kept : drop (579 * superframes p) out' ≡ drop (579 * superframes p) out
    told_kept =
        let k = superframes p in
        ap (drop (579 * k)) its ∙ drop_at (written p l c k) (drop (579 * k) out) (579 * k) (length_written p l c k)

-- two results that one call admits
pub told_single : {n : ℕ} {p l : List ℕ} {c : ℕ} {out : List ℕ} {r r' : Written} {out' out'' : List ℕ}
    → Told n p l c out r out' → Told n p l c out r' out'' → (r ≡ r') × (out' ≡ out'')
told_single w w' =
    let e = w.answer ∙ sym w'.answer in
    (e, accepted_single _ _ _ _ _ _ (ap (λ (x : Written). x.number) e) w.output w'.output)

-- two calls in a row, the check handed on: one line
pub two_calls : {n n' : ℕ} {p p' l l' : List ℕ} {c : ℕ} {x x' y y' : List ℕ} {r r' : Written}
    → Inputs p l c (superframes p) → Told n p l c x r y → r.number ≡ 0 → Told n' p' l' r.check x' r' y' → r'.number ≡ 0
    → (take (579 * superframes p) y ++ take (579 * superframes p') y' ≡ written (p ++ p') (l ++ l') c (superframes p + superframes p'))
    × (r'.check ≡ carries (p ++ p') c (superframes p + superframes p'))
two_calls {p = p} {p' = p'} {l = l} {l' = l'} {c = c} g w z w' z' =
    let n = superframes p in
    let m = superframes p' in (
      ap₂ (λ a b. a ++ b) (told_line w z) (told_line w' z' ∙ ap (λ k. written p' l' k m) (told_check w z))
          ∙ sym (written_join p p' l l' c n m g.payload g.link.long),
      told_check w' z' ∙ ap (λ k. carries p' k m) (told_check w z)
          ∙ sym (carries_join p p' l l' c n m g.payload g.link.long),
    )

-- what an accepted call with signalling sends
pub signals_inputs : {p l : List ℕ} {c n : ℕ} (g : List ℕ) → Inputs p l c n → Inputs (with_signals p g) l c n
signals_inputs {p} g i =
    record { payload = length_signals p g ∙ i.payload; link = i.link; six_bits = i.six_bits }
