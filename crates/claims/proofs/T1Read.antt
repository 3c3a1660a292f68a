-- What an accepted reading of T1 answers and leaves, in the words of Demand 2.
use Prim.Native.Nat.{ℕ, ◌+◌, ◌-◌, ◌*◌, ◌/◌, ◌%◌, ◌<◌}
use mathlib.Core.Path.{◌≡◌, sym, ap, ap₂, subst, ◌∙◌}
use mathlib.Core.Bool.{not}
use mathlib.Core.Logic.{◌↔◌}
use mathlib.Core.List.{List, ◌++◌}
use native.Mathlib.Omega.{arith}
use lib.ListN.{length, get_or, drop, get_or-append}
use Rattle.base.proofs.AnswerLaws.{accepted_so}
use Rattle.base.proofs.TabLaws.{length_tab, get_d_tab}
use Rattle.line.specs.Bit.{bit_at, octet_at}
use Rattle.crc.proofs.Laws.{same}
use Rattle.t1.specs.Superframe.{framing_at, octet_place, agrees}
use Rattle.t1align.specs.Stands.{StandsFirst}
use Rattle.t1read.specs.Reading.{whole, octet_of, payload_of, link_bit, link_of, errored}
use Rattle.t1read.specs.Entry as reads
use Rattle.t1read.specs.Entry.{place_in, whole_in, Read}
use Rattle.t1read.specs.Answer.{Reading}
use Rattle.t1read.proofs.EntryLaws.{ready, read_number, read_accepted}
use Rattle.claims.specs.Counts.{Counted}
use Rattle.claims.specs.T1Demand2.{AgreesT1, AcceptedT1}
use Rattle.claims.proofs.Counts.{named, none_has, counted, not_equal}

module _ (s payload link : List ℕ) (r : Reading) (payload' link' : List ℕ) (h : Read s payload link r payload' link')
    (z : r.number ≡ 0) where
  got : (f : Reading → ℕ) → f r ≡ f (reads.accept s)
  got f = ap f (read_accepted s payload link r payload' link' h z)

  pub at : r.place ≡ place_in s
  unfolding reads.accept
  at = got (λ x. x.place)

  pub all : r.whole ≡ whole_in s
  unfolding reads.accept
  all = got (λ x. x.whole)

  pub front : payload' ≡ payload_of s r.place r.whole ++ drop (576 * whole_in s) payload
  front =
      h.its_payload ∙ accepted_so r.number _ payload z
      ∙ sym (ap₂ (λ x y. payload_of s x y ++ drop (576 * whole_in s) payload) at all)

  pub front_link : link' ≡ link_of s r.place r.whole ++ drop (12 * whole_in s) link
  front_link =
      h.its_link ∙ accepted_so r.number _ link z
      ∙ sym (ap₂ (λ x y. link_of s x y ++ drop (12 * whole_in s) link) at all)

  octet_read : (f j : ℕ) → f < 24 * r.whole → j < 24 → get_or payload' (24 * f + j) 0 ≡ octet_at s (octet_place r.place f j)
  unfolding payload_of
  octet_read f j l m =
      let g = octet_of s r.place in
      let n = 576 * r.whole in
      let u : (24 * f + j) / 24 ≡ f = omega arith in
      let v : (24 * f + j) % 24 ≡ j = omega arith in
      ap (λ x. get_or x (24 * f + j) 0) front
      ∙ get_or-append (payload_of s r.place r.whole) (drop (576 * whole_in s) payload) 0 (24 * f + j) (omega (arith, length_tab n g))
      ∙ get_d_tab n g (24 * f + j) 0 (omega arith)
      ∙ ap₂ (λ x y. octet_at s (octet_place r.place x y)) u v

  link_read : (i : ℕ) → i < 12 * r.whole → get_or link' i 0 ≡ bit_at s (framing_at r.place (2 * i))
  unfolding link_of
  link_read i l =
      let g = link_bit s r.place in
      let n = 12 * r.whole in
      ap (λ x. get_or x i 0) front_link
      ∙ get_or-append (link_of s r.place r.whole) (drop (12 * whole_in s) link) 0 i (omega (arith, length_tab n g))
      ∙ get_d_tab n g i 0 l

  errors : Counted r.compared r.errored (λ b. AgreesT1 s r.place b → ⊥)
  unfolding reads.accept errored agrees
  errors =
      rw (got (λ x. x.compared), got (λ x. x.errored), at)
      (named (counted (whole_in s - 1) (λ b. not (agrees s (place_in s + 4632 * b)))) (λ b. not_equal _ _))

  pub compares : r.compared + 1 ≡ r.whole
  unfolding reads.accept
  compares =
      let d = ready s (length payload) (length link) (sym (read_number s payload link r payload' link' h) ∙ z) in
      omega (arith, got (λ x. x.compared), all, d.two)

  pub reads_so : AcceptedT1 s r payload' link'
  unfolding whole
  reads_so =
      let d = ready s (length payload) (length link) (sym (read_number s payload link r payload' link' h) ∙ z) in
      record {
        first = subst (StandsFirst s) (sym at) d.first;
        all_whole = all ∙ sym (ap (whole s) at);
        least = omega (arith, all, d.two);
        most = omega (arith, all, d.good.short);
        compares = compares;
        errors = errors;
        octet = octet_read;
        at_link_bit = link_read;
      }

  pub none_errored : r.errored ≡ 0 ↔ ((b : ℕ) → b + 1 < r.whole → AgreesT1 s r.place b)
  none_errored = (
    λ e b l. same _ _ ((none_has errors).0 e b (omega (arith, compares))),
    λ a. (none_has errors).1 (λ b l n. n (a b (omega (arith, compares)))),
  )
