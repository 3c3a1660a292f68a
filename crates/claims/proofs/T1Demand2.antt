-- Demand 2 of T1 holds.
use Prim.Native.Nat.{ℕ, ◌+◌, ◌*◌, ◌/◌, ◌%◌, ◌≤◌, ◌<◌}
use mathlib.Core.Path.{◌≡◌, refl, sym, ap, subst, ◌∙◌}
use mathlib.Core.List.{List}
use native.Mathlib.Omega.{arith}
use borrow.Author.Tests.{eq-eqb}
use lib.ListN.{length, get_or, take}
use lib.Seq.{get_or-take}
use Rattle.t1.specs.Payload.{superframes}
use Rattle.t1align.proofs.Laws.{first_stands, none_stands}
use Rattle.t1read.specs.Entry.{Read}
use Rattle.t1read.specs.Answer.{Reading}
use Rattle.t1read.proofs.EntryLaws.{number_3, read_number}
use Rattle.t1write.specs.Writing.{with_signals}
use Rattle.t1write.specs.Inputs.{OfBits, Inputs}
use Rattle.t1write.specs.Entry.{Wrote, WroteSignalled}
use Rattle.t1write.specs.Entry as writes
use Rattle.t1write.specs.Answer.{Written}
use Rattle.t1write.proofs.Signals.{length_signals, signals_at, kept_octet, replaced_bit, kept_bits, signals_lt}
use Rattle.t1write.proofs.Calls as calls
use Rattle.t1write.proofs.Calls.{Sound, Told, wrote, wrote_signalled, told_number, told_check, told_line, two_calls, signals_inputs}
use Rattle.claims.specs.T1Demand2.{StandardT1, SignalledT1, ReadBackT1, SignalsBackT1, T1Demand2}
use Rattle.claims.proofs.T1Read.{reads_so, none_errored}
use Rattle.claims.proofs.T1Written.{standard, reads_clean}
use Rattle.claims.proofs.T1Standard.{standard_single}

-- of n superframes octet b of signalling in the a-th frame that has it, and the octet of the payload that takes it
signal_place : (a b i q n : ℕ) → b < 24 → i ≡ 24 * a + b → q ≡ 24 * (6 * a + 5) + b → i < 96 * n
    → (q < 576 * n) × (q / 24 % 6 ≡ 5) × (24 * (q / 144) + q % 24 ≡ i)
signal_place a b i q n h e f l =
    let u : q / 24 ≡ 6 * a + 5 = omega arith in
    let v : (6 * a + 5) % 6 ≡ 5 = omega arith in
    (omega arith, rw (u, v), omega arith)

-- a payload with signalling that is sent
module _ (p g : List ℕ) (bits : (i : ℕ) → get_or g i 0 < 2) {l : List ℕ} {n : ℕ} (long : length p ≡ 576 * n) where
  -- a line of it is the one with signalling
  sends : {line : List ℕ} {c k : ℕ} → StandardT1 line (with_signals p g) l c k n → SignalledT1 line p l g c k n
  sends s =
      record {
        framing = s.framing;
        replaced = λ f j h m e.
            let i : ℕ = 24 * f + j in
            let u : i / 24 ≡ f = omega arith in
            let v : 24 * (i / 144) + i % 24 ≡ 24 * (f / 6) + j = omega arith in
            s.payload f j h m ∙ signals_at p g i (omega arith) ∙ rw (u, v, eq-eqb (f % 6) 5 e);
        kept = λ f j h m e.
            let i : ℕ = 24 * f + j in
            let u : i / 24 ≡ f = omega arith in
            s.payload f j h m ∙ kept_octet p g i (omega arith) (rw u e);
      }

  -- and so is what is read of it
  signals_read : (r : Reading) (payload' link' : List ℕ) → ReadBackT1 (with_signals p g) l n r payload' link'
      → SignalsBackT1 p l g n r payload' link'
  signals_read r payload' link' b =
      record {
        clean = b.clean;
        replaced = λ i h.
            let q : ℕ = 24 * (6 * (i / 24) + 5) + i % 24 in
            let (m, u, v) = signal_place (i / 24) (i % 24) i q n (omega arith) (omega arith) refl h in
            ap (λ x. x % 2) (octet q m) ∙ replaced_bit p g q (rw long m) bits u ∙ ap (λ x. get_or g x 0) v;
        others = λ i h. ap (λ x. x / 2) (octet i h) ∙ kept_bits p g i (omega arith) bits;
        kept = λ i h e. octet i h ∙ kept_octet p g i (omega arith) e;
      }
    where
      octet : (i : ℕ) → i < 576 * n → get_or payload' i 0 ≡ get_or (with_signals p g) i 0
      octet i h = sym (get_or-take (576 * n) payload' i 0 h) ∙ ap (λ x. get_or x i 0) b.payload

-- what an accepted call was given
given : {p l : List ℕ} {c : ℕ} {out : List ℕ} {r : Written} {out' : List ℕ} → Wrote p l c out r out' → r.number ≡ 0 → Sound p l c
given {p} {l} {c} {out} h z = ((calls.accepts p l c (length out)).0 (sym (told_number (wrote.0 h)) ∙ z)).0

module _ {p l : List ℕ} {c : ℕ} {g out : List ℕ} {r : Written} {out' : List ℕ} (h : WroteSignalled p l c g out r out') (z : r.number ≡ 0) where
  given_signals : Sound p l c × OfBits g (96 * superframes p) × (579 * superframes p ≤ length out)
  given_signals = (calls.accepts_signalled p l c (length out) g).0 (sym (told_number (wrote_signalled.0 h)) ∙ z)

  as_many : superframes (with_signals p g) ≡ superframes p
  as_many = ap (λ k. k / 576) (length_signals p g)

  -- it is a call of the first entry, with bits replaced
  as_written : Wrote (with_signals p g) l c out r out'
  as_written =
      let s = given_signals in
      let i : Inputs (with_signals p g) l c (superframes (with_signals p g)) = rw as_many (signals_inputs g s.0.inputs) in
      let n : writes.refusal (with_signals p g) l c (length out) ≡ 0
      = (calls.accepts (with_signals p g) l c (length out)).1
      (record { inputs = i; least = omega (arith, s.0.least, as_many); most = omega (arith, s.0.most, as_many) }, omega (arith, s.2, as_many)) in
      wrote.1 (subst (λ k. Told k (with_signals p g) l c out r out') (sym (told_number (wrote_signalled.0 h)) ∙ z ∙ sym n) (wrote_signalled.0 h))

writes_so : (p l : List ℕ) (c : ℕ) (out : List ℕ) (r : Written) (out' : List ℕ) → ((i : ℕ) → get_or p i 0 < 256)
    → Wrote p l c out r out' → r.number ≡ 0
    → StandardT1 (take (579 * superframes p) out') p l c r.check (superframes p)
writes_so p l c out r out' octets h z =
    let s = given h z in
    rw (told_line (wrote.0 h) z, told_check (wrote.0 h) z) (standard s.inputs octets s.least)

reads_back : (p l : List ℕ) (c : ℕ) (out : List ℕ) (w : Written) (out' : List ℕ) → ((i : ℕ) → get_or p i 0 < 256)
    → Wrote p l c out w out' → w.number ≡ 0 → 2 ≤ superframes p
    → (payload link : List ℕ) (r : Reading) (payload' link' : List ℕ) → 576 * superframes p ≤ length payload
    → 12 * superframes p ≤ length link
    → Read (take (579 * superframes p) out') payload link r payload' link'
    → ReadBackT1 p l (superframes p) r payload' link'
reads_back p l c out w out' octets h z two payload link r payload' link' room room-link d =
    let s = given h z in
    reads_clean s.inputs octets two s.most payload link r payload' link' room room-link (rw (told_line (wrote.0 h) z) at d)

pub t1_demand_2 : T1Demand2
t1_demand_2 =
    record {
      reads = reads_so;
      none_errored = none_errored;
      none = λ s payload link r payload' link' good h.
          let e = read_number s payload link r payload' link' h in
          let n = number_3 s (length payload) (length link) good in
          (λ k. n.0 (sym e ∙ k), λ k. e ∙ n.1 k);
      found_at = first_stands;
      found_nothing = none_stands;
      writes = writes_so;
      writes_signalled = λ p l c g out r out' octets h z.
          let s = given_signals h z in
          let bits = s.1.bits in
          sends p g bits s.0.inputs.payload
          (rw (as_many h z) at (writes_so (with_signals p g) l c out r out' (signals_lt p g octets bits) (as_written h z) z));
      signalled_as = λ p l c g out r out' h z. as_written h z;
      reads_back = reads_back;
      signals_back = λ p l c g out w out' octets h z two payload link r payload' link' room room-link d.
          let s = given_signals h z in
          let bits = s.1.bits in
          let e = sym (as_many h z) in
          signals_read p g bits s.0.inputs.payload r payload' link'
          (rw (as_many h z) at (reads_back (with_signals p g) l c out w out' (signals_lt p g octets bits) (as_written h z) z
          (rw (as_many h z) two) payload link r payload' link' (rw (as_many h z) room) (rw (as_many h z) room-link) (rw e at d)));
      joins = λ p p' l l' c x x' y y' r r' w z w' z'. two_calls (given w z).inputs (wrote.0 w) z (wrote.0 w') z';
      standard_single = standard_single;
    }
