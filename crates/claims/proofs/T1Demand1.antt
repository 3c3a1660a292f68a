-- Demand 1 of T1 holds.
use Prim.Native.Nat.{ℕ, ◌*◌, ◌/◌}
use mathlib.Core.Path.{◌≡◌, sym, ap, ◌∙◌}
use mathlib.Core.List.{List}
use mathlib.Core.Logic.{◌↔◌}
use lib.ListN.{length, drop}
use lib.Seq.{drop_at}
use Rattle.base.proofs.AnswerLaws.{accepted_so, first_listed}
use Rattle.base.proofs.TabLaws.{length_tab}
use Rattle.t1.specs.Payload.{superframes}
use Rattle.t1read.specs.Reading.{octet_of, payload_of, link_bit, link_of}
use Rattle.t1read.specs.Entry as reads
use Rattle.t1read.specs.Entry.{place_in, whole_in, Read}
use Rattle.t1read.specs.Answer.{Reading}
use Rattle.t1read.proofs.EntryLaws.{read_number, read_refused, number_1, number_2, number_4, some_stands}
use Rattle.t1write.specs.Writing.{with_signals}
use Rattle.t1write.specs.Entry as writes
use Rattle.t1write.specs.Answer.{Written}
use Rattle.t1write.proofs.Calls.{wrote, wrote_signalled, told_number, told_refused, told_kept}
use Rattle.t1write.proofs.Signals.{length_signals}
use Rattle.claims.specs.T1Demand1.{T1Demand1}
use Rattle.claims.proofs.T1Read.{all}

-- a number by what it is worked out to be
by : {x y n : ℕ} {P : Type 0} → x ≡ y → (y ≡ n ↔ P) → (x ≡ n ↔ P)
by e h = (λ z. h.0 (sym e ∙ z), λ p. e ∙ h.1 p)

module _ (s payload link : List ℕ) (r : Reading) (payload' link' : List ℕ) (h : Read s payload link r payload' link')
    (z : r.number ≡ 0) where
  -- the outputs behind what is read
  read_kept : (drop (576 * r.whole) payload' ≡ drop (576 * r.whole) payload)
      × (drop (12 * r.whole) link' ≡ drop (12 * r.whole) link)
  unfolding payload_of link_of
  read_kept =
      let n = whole_in s in
      let q = place_in s in
      rw (all s payload link r payload' link' h z) (
        ap (drop (576 * n)) (h.its_payload ∙ accepted_so r.number _ payload z)
            ∙ drop_at (payload_of s q n) (drop (576 * n) payload) (576 * n) (length_tab (576 * n) (octet_of s q)),
        ap (drop (12 * n)) (h.its_link ∙ accepted_so r.number _ link z)
            ∙ drop_at (link_of s q n) (drop (12 * n) link) (12 * n) (length_tab (12 * n) (link_bit s q)),
      )

pub t1_demand_1 : T1Demand1
unfolding reads.refusal writes.refusal writes.signalled_refusal
t1_demand_1 =
    record {
      read_number = λ s payload link r payload' link' h.
          rw (read_number s payload link r payload' link' h)
          (first_listed (reads.refusals s (length payload) (length link)));
      write_number = λ p l c out r out' h.
          rw (told_number (wrote.0 h)) (first_listed (writes.refusals p l c (length out)));
      write_signalled_number = λ p l c g out r out' h.
          rw (told_number (wrote_signalled.0 h)) (first_listed (writes.signalled_refusals p l c g (length out)));
      read_short = λ s payload link r payload' link' h.
          by (read_number s payload link r payload' link' h) (number_1 s (length payload) (length link));
      read_long = λ s payload link r payload' link' h.
          by (read_number s payload link r payload' link' h) (number_2 s (length payload) (length link));
      read_room = λ s payload link r payload' link' h good p stands.
          let w = some_stands s p stands in
          by (read_number s payload link r payload' link' h)
          (number_4 s (length payload) (length link) good w.0 w.1);
      read_refused = λ s payload link r payload' link' n h e. read_refused s payload link r payload' link' n h e;
      write_refused = λ p l c out r out' n h e.
          let t = told_refused (wrote.0 h) n e in
          (ap (λ (x : Written). x.check) t.0, t.1);
      write_signalled_refused = λ p l c g out r out' n h e.
          let t = told_refused (wrote_signalled.0 h) n e in
          (ap (λ (x : Written). x.check) t.0, t.1);
      read_kept = read_kept;
      write_kept = λ p l c out r out' h z. told_kept (wrote.0 h) z;
      write_signalled_kept = λ p l c g out r out' h z.
          let e : superframes (with_signals p g) ≡ superframes p = ap (λ k. k / 576) (length_signals p g) in
          rw e at (told_kept (wrote_signalled.0 h) z);
    }
