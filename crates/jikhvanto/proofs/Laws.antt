-- A state and its octets, and that any two results of one call are equal.
use Prim.Native.Nat.{ℕ, ◌+◌, ◌≤◌}
use mathlib.Core.Path.{◌≡◌, refl, sym, ap, ◌∙◌}
use mathlib.Core.Bool.{Bool, true, false}
use mathlib.Core.List.{List, [], ◌++◌, append_assoc, append-nil}
use native.Mathlib.Omega.{arith}
use lib.Dec.{eqb}
use lib.ListN.{length, drop, length-append, length-drop}
use lib.Seq.{take_at, drop_at, length-take-le}
use mir.Val.{bool_byte}
use Rattle.exchange.specs.declared.State.{State}
use Rattle.exchange.proofs.MapLaws.{mapped_single}
use Rattle.write.specs.Entry as plain
use Rattle.exchange.specs.Machine.{hosted}
use Rattle.read.proofs.EntryLaws.{read_single}
use Rattle.write.proofs.Calls.{wrote_single}
use Rattle.signals.proofs.EntryLaws.{signals_single}
use Rattle.signalled.specs.Entry.{writing}
use Rattle.signalled.proofs.Calls as signalled
use Rattle.jikhvanto.specs.Octets.{map_at, state_of, flags_of, octets_of, pair_places}
use Rattle.jikhvanto.specs.Calls.{JkRead, JkSignals, JkWhy, JkWrite, JkWriteSignalled, JkStart, JkHost, JkKey, JkBoundary, JkMap}

-- the maps have 32 octets each, as in every state that is unpacked
abbrev pub Maps : State → Type 0
Maps s = (length s.live ≡ 32) × (length s.staged ≡ 32) × (length s.waiting ≡ 32)

pub unpacked_maps : (octets : List ℕ) → length octets ≡ 99 → Maps (state_of octets)
unfolding state_of map_at
unpacked_maps octets e = (map_length 3 (omega arith), map_length 35 (omega arith), map_length 67 (omega arith))
  where
    map_length : (n : ℕ) → n + 32 ≤ 99 → length (map_at n octets) ≡ 32
    map_length n h = length-take-le 32 (drop n octets) (rw (length-drop n octets) (omega arith))

-- Unpacking a packed state gives it back.

pub flag_back : (b : Bool) → eqb (bool_byte b) 1 ≡ b
flag_back true = refl
flag_back false = refl

map_back : (n : ℕ) (p m q : List ℕ) → length p ≡ n → length m ≡ 32 → map_at n (p ++ m ++ q) ≡ m
unfolding map_at
map_back n p m q e l = rw (append_assoc, drop_at p (m ++ q) n e) (take_at m q 32 l)

module _ (s : State) (m : Maps s) where
  pub packed_length : length (octets_of s) ≡ 99
  unfolding octets_of
  packed_length = simp length-append (omega arith)

  pub packed_back : state_of (octets_of s) ≡ s
  unfolding state_of octets_of
  packed_back = λ i.
      record {
        flag = flag_back s.flag i;
        staging = flag_back s.staging i;
        pending = flag_back s.pending i;
        live =
            (ap (map_at 3) (append_assoc (flags_of s ++ s.live) s.staged s.waiting)
            ∙ map_back 3 (flags_of s) s.live (s.staged ++ s.waiting) refl m.0) i;
        staged = map_back 35 (flags_of s ++ s.live) s.staged s.waiting (omega arith) m.1 i;
        waiting =
            (ap (map_at 67) (sym (append-nil (octets_of s)))
            ∙ map_back 67 (flags_of s ++ s.live ++ s.staged) s.waiting [] (length-append (flags_of s ++ s.live) s.staged ∙ omega arith) m.2) i;
      }

-- Any two results of one call are equal.

pub jk_read_single : {image payload slot0 : List ℕ} {r r₁ : ℕ} {p p₁ o o₁ a a₁ : List ℕ}
    → JkRead image payload slot0 r p o a → JkRead image payload slot0 r₁ p₁ o₁ a₁ → (r ≡ r₁) × (p ≡ p₁) × (o ≡ o₁) × (a ≡ a₁)
jk_read_single h k =
    let e = read_single _ _ _ _ _ _ _ _ _ h.its_outputs k.its_outputs in
    (h.its_number ∙ sym k.its_number, e.1, e.2, h.its_answer ∙ sym k.its_answer)

pub jk_signals_single : {image abcd : List ℕ} {r r₁ : ℕ} {o o₁ a a₁ : List ℕ}
    → JkSignals image abcd r o a → JkSignals image abcd r₁ o₁ a₁ → (r ≡ r₁) × (o ≡ o₁) × (a ≡ a₁)
jk_signals_single h k = (
  h.its_number ∙ sym k.its_number,
  (signals_single _ _ _ _ _ _ h.its_output k.its_output).1,
  h.its_answer ∙ sym k.its_answer,
)

pub jk_why_single : {image : List ℕ} {place r r₁ : ℕ} {a a₁ : List ℕ} → JkWhy image place r a → JkWhy image place r₁ a₁
    → (r ≡ r₁) × (a ≡ a₁)
jk_why_single h k = (h.its_number ∙ sym k.its_number, h.its_answer ∙ sym k.its_answer)

pub jk_write_single : {payload overhead : List ℕ} {check : ℕ} {out : List ℕ} {r r₁ : ℕ} {o o₁ a a₁ : List ℕ}
    → JkWrite payload overhead check out r o a → JkWrite payload overhead check out r₁ o₁ a₁ → (r ≡ r₁) × (o ≡ o₁) × (a ≡ a₁)
jk_write_single {payload} {overhead} {check} {out} h k =
    let e = h.its_number ∙ sym k.its_number in (
      e,
      (wrote_single h.its_output k.its_output).1,
      h.its_answer ∙ ap (λ x. pair_places x (plain.writing payload overhead check (length out)).check) e ∙ sym k.its_answer,
    )

pub jk_write_signalled_single : {payload overhead : List ℕ} {check : ℕ} {xy abcd out : List ℕ} {r r₁ : ℕ} {o o₁ a a₁ : List ℕ}
    → JkWriteSignalled payload overhead check xy abcd out r o a → JkWriteSignalled payload overhead check xy abcd out r₁ o₁ a₁
    → (r ≡ r₁) × (o ≡ o₁) × (a ≡ a₁)
jk_write_signalled_single {payload} {overhead} {check} {xy} {abcd} {out} h k =
    let e = h.its_number ∙ sym k.its_number in (
      e,
      (signalled.wrote_single h.its_output k.its_output).1,
      h.its_answer ∙ ap (λ x. pair_places x (writing payload overhead check xy abcd (length out)).check) e ∙ sym k.its_answer,
    )

pub jk_start_single : {s s₁ : List ℕ} → JkStart s → JkStart s₁ → s ≡ s₁
jk_start_single h k = h.its_state ∙ sym k.its_state

pub jk_host_single : {state octets : List ℕ} {r r₁ : ℕ} {s s₁ a a₁ : List ℕ}
    → JkHost state octets r s a → JkHost state octets r₁ s₁ a₁ → (r ≡ r₁) × (s ≡ s₁) × (a ≡ a₁)
jk_host_single {state} {octets} h k =
    let e = h.its_number ∙ sym k.its_number in (
      e,
      h.its_state ∙ sym k.its_state,
      h.its_answer ∙ ap (λ x. pair_places x (hosted (state_of state) octets).entry) e ∙ sym k.its_answer,
    )

pub jk_key_single : {state : List ℕ} {position r r₁ : ℕ} {s s₁ : List ℕ}
    → JkKey state position r s → JkKey state position r₁ s₁ → (r ≡ r₁) × (s ≡ s₁)
jk_key_single h k = (h.its_number ∙ sym k.its_number, h.its_state ∙ sym k.its_state)

pub jk_boundary_single : {state : List ℕ} {r r₁ : ℕ} {s s₁ : List ℕ} → JkBoundary state r s → JkBoundary state r₁ s₁ → (r ≡ r₁) × (s ≡ s₁)
jk_boundary_single h k = (h.its_number ∙ sym k.its_number, h.its_state ∙ sym k.its_state)

pub jk_map_single : {state payload out : List ℕ} {r r₁ : ℕ} {o o₁ : List ℕ} → JkMap state payload out r o → JkMap state payload out r₁ o₁ → (r ≡ r₁) × (o ≡ o₁)
jk_map_single h k = mapped_single _ _ _ _ _ _ _ h.its_mapping k.its_mapping
