-- Any two results of one call of T1 are equal.
use Prim.Native.Nat.{ℕ}
use mathlib.Core.Path.{◌≡◌, sym, ap, ◌∙◌}
use mathlib.Core.List.{List}
use lib.ListN.{length}
use Rattle.t1read.proofs.EntryLaws.{read_single}
use Rattle.t1write.proofs.Calls.{wrote, wrote_signalled, told_single}
use Rattle.jikhvanto.specs.Octets.{pair_places}
use Rattle.jikhvanto.specs.Calls.{JkT1Read, t1_writing, t1_signalled_writing, JkT1Write, JkT1WriteSignalled}

pub jk_t1_read_single : {image payload link : List ℕ} {r r₁ : ℕ} {p p₁ l l₁ a a₁ : List ℕ}
    → JkT1Read image payload link r p l a → JkT1Read image payload link r₁ p₁ l₁ a₁
    → (r ≡ r₁) × (p ≡ p₁) × (l ≡ l₁) × (a ≡ a₁)
jk_t1_read_single h k =
    let e = read_single _ _ _ _ _ _ _ _ _ h.its_outputs k.its_outputs in
    (h.its_number ∙ sym k.its_number, e.1, e.2, h.its_answer ∙ sym k.its_answer)

pub jk_t1_write_single : {payload link : List ℕ} {check : ℕ} {out : List ℕ} {r r₁ : ℕ} {o o₁ a a₁ : List ℕ}
    → JkT1Write payload link check out r o a → JkT1Write payload link check out r₁ o₁ a₁ → (r ≡ r₁) × (o ≡ o₁) × (a ≡ a₁)
jk_t1_write_single {payload} {link} {check} {out} h k =
    let e = h.its_number ∙ sym k.its_number in (
      e,
      (told_single (wrote.0 h.its_output) (wrote.0 k.its_output)).1,
      h.its_answer ∙ ap (λ x. pair_places x (t1_writing payload link check (length out)).check) e ∙ sym k.its_answer,
    )

pub jk_t1_write_signalled_single : {payload link : List ℕ} {check : ℕ} {signalling out : List ℕ} {r r₁ : ℕ} {o o₁ a a₁ : List ℕ}
    → JkT1WriteSignalled payload link check signalling out r o a → JkT1WriteSignalled payload link check signalling out r₁ o₁ a₁
    → (r ≡ r₁) × (o ≡ o₁) × (a ≡ a₁)
jk_t1_write_signalled_single {payload} {link} {check} {signalling} {out} h k =
    let e = h.its_number ∙ sym k.its_number in (
      e,
      (told_single (wrote_signalled.0 h.its_output) (wrote_signalled.0 k.its_output)).1,
      h.its_answer ∙ ap (λ x. pair_places x (t1_signalled_writing payload link check signalling (length out)).check) e
          ∙ sym k.its_answer,
    )
