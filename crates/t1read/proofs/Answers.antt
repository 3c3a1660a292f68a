-- What is measured from the place that is found, and the answer made of it.
use Prim.Native.Nat.{ℕ, ◌-◌, ◌*◌, ◌/◌, ◌≤◌}
use mathlib.Core.Path.{◌≡◌, sym, ap, ap₂, ◌∙◌}
use mathlib.Core.List.{List, ◌++◌}
use Rattle.std.specs.Prelude.{Result, Err, Some}
use mathlib.Core.Bool.{false, ◌||◌}
use mathlib.Mathlib.Data.Bool.Basic.{or-eq-false-eq-eq-false-and-eq-false}
use native.Mathlib.Omega.{arith}
use borrow.Author.Tests.{ltb-false}
use lib.Dec.{ltb}
use lib.ListN.{length, drop}
use Rattle.base.proofs.AnswerLaws.{accepted_so}
use Rattle.line.specs.Bit.{Room}
use Rattle.t1align.specs.Place.{first_standing}
use Rattle.t1read.specs.Reading.{whole, payload_of, link_of, compared, errored}
use Rattle.t1read.specs.Entry.{GoodLength, place_in, whole_in, refusal, accept, refuse, reading, Read}
use Rattle.t1read.specs.Answer.{Reading}
use Rattle.t1read.proofs.EntryLaws.{place_is, whole_is}

pub same_error : {T E : Type 0} {d e : E} → ◌≡◌ {A = Result T E} (Err d) (Err e) → d ≡ e
same_error h = cc

pub neither_shorter : {a b n m : ℕ} → ltb a n || ltb b m ≡ false → (n ≤ a) × (m ≤ b)
neither_shorter {a} {b} {n} {m} h =
    let f = (or-eq-false-eq-eq-false-and-eq-false (ltb a n) (ltb b m)).0 h in
    (ltb-false _ _ f.0, ltb-false _ _ f.1)

pub record Measured (s : List ℕ) (p m : ℕ) : Type 0 where
  pub at : p ≡ place_in s
  pub of : m ≡ whole_in s
  pub two : 2 ≤ m
  pub room : Room s p (4632 * m)

module _ (s : List ℕ) (good : GoodLength s) (p : ℕ) (e : first_standing s ≡ Some p) (m : ℕ)
    (hm : m ≡ (8 * length s - p) / 4632) where
  pub measured : Measured s p m
  unfolding whole
  measured =
      let at : p ≡ place_in s = place_is s p e in
      let w = whole_is s p e in
      record {
        at = at;
        of = hm ∙ ap (whole s) at;
        two = omega arith;
        room = record { countable = omega arith; there = omega arith };
      }

  pub accepted_as : (payload link payload' link' : List ℕ) (n : ℕ)
      → refusal s (length payload) (length link) ≡ 0
      → n ≡ errored s p m
      → payload' ≡ payload_of s p m ++ drop (576 * m) payload
      → link' ≡ link_of s p m ++ drop (12 * m) link
      → Read s payload link (record { number = 0; place = p; whole = m; compared = m - 1; errored = n }) payload' link'
  unfolding reading accept errored
  accepted_as payload link payload' link' n z h₁ h₂ h₃ =
      let d = measured in
      let so : Reading
      = record { number = 0; place = p; whole = m; compared = m - 1; errored = n } in
      let its : so ≡ accept s = λ i.
      record {
        number = 0;
        place = d.at i;
        whole = d.of i;
        compared = compared (d.of i);
        errored = (h₁ ∙ ap₂ (errored s) d.at d.of) i;
      } in
      record {
        its_answer = its ∙ sym (accepted_so (refusal s (length payload) (length link)) (accept s) (refuse _) z);
        its_payload = h₂ ∙ ap₂ (λ x y. payload_of s x y ++ drop (576 * y) payload) d.at d.of;
        its_link = h₃ ∙ ap₂ (λ x y. link_of s x y ++ drop (12 * y) link) d.at d.of;
      }
