-- A host record, read as a request and let in by the state.
use Rattle.std.specs.Prelude.{if◌then◌else◌}
use Prim.Native.Nat.{ℕ, ◌≤◌}
use mathlib.Core.Path.{◌≡◌, refl, sym, ap, ◌∙◌}
use mathlib.Core.Bool.{Bool, true, false, not}
use mathlib.Core.List.{List}
use lib.Dec.{eqb}
use lib.ListN.{length}
use Rattle.base.specs.Answer.{accepted}
use Rattle.base.specs.Number.{refusal_number}
use Rattle.base.specs.declared.Refused.{Refused}
use Rattle.base.proofs.NumberLaws.{refusal_above_0}
use Rattle.base.proofs.AnswerLaws.{accepted_so, accepted_not}
use Rattle.exchange.specs.declared.State.{State}
use Rattle.exchange.specs.declared.Request.{Request}
use Rattle.exchange.specs.declared.Request.TheVariants.{Stage, Commit, Read, Drop}
use Rattle.exchange.specs.Answer.{Answered, accept, refuse}
use Rattle.exchange.specs.Machine.{kind_of, a_of, b_of, between, outside, record_refusal, state_refusal}
use Rattle.exchange.specs.Machine.{host_refusal, hosted, host_after, host_entry}
use Rattle.exchange.specs.Request.{request_kind, Asks}
use Rattle.exchange.specs.Mapping.{entry_at}
use Rattle.exchange.specs.Machine.{stage, commit, discard}
use Rattle.exchange.proofs.Laws.{slot_named}

-- The number of a record is that of the record by itself, or else that by the state.
host_number : (s : State) (r : List ℕ) → host_refusal s r ≡ accepted (record_refusal r) (state_refusal s (kind_of r)) (record_refusal r)
unfolding host_refusal
host_number s r = go (not (eqb (length r) 4)) (not (between 1 (kind_of r) 4)) (outside (kind_of r) (a_of r) (b_of r)) (state_refusal s (kind_of r))
  where
    go : (x y z : Bool) (n : ℕ)
        → (if x then 8 else if y then 9 else if z then 10 else n)
        ≡ accepted (if x then 8 else if y then 9 else if z then 10 else 0) n (if x then 8 else if y then 9 else if z then 10 else 0)
    go true y z n = refl
    go false true z n = refl
    go false false true n = refl
    go false false false n = refl

pub by_record : (s : State) (r : List ℕ) (e : Refused) → record_refusal r ≡ refusal_number e
    → host_refusal s r ≡ refusal_number e
by_record s r e h =
    host_number s r ∙ accepted_not (record_refusal r) _ _ (λ z. refusal_above_0 e (sym h ∙ z)) ∙ h

asked_kind : (r : List ℕ) (q : Request) → Asks r q → kind_of r ≡ request_kind q
asked_kind r (Stage a b) h = h.0
asked_kind r Commit h = h
asked_kind r (Read a) h = h.0
asked_kind r Drop h = h

pub by_state : (s : State) (r : List ℕ) (q : Request) → (record_refusal r ≡ 0) × Asks r q
    → host_refusal s r ≡ state_refusal s (request_kind q)
by_state s r q h =
    host_number s r ∙ accepted_so (record_refusal r) _ _ h.0 ∙ ap (state_refusal s) (asked_kind r q h.1)

pub refused_by : (s : State) (r : List ℕ) (e : Refused) → host_refusal s r ≡ refusal_number e
    → refuse s (refusal_number e) ≡ hosted s r
refused_by s r e h =
    ap (refuse s) (sym h) ∙ sym (accepted_not (host_refusal s r) _ _ (λ z. refusal_above_0 e (sym h ∙ z)))

-- the answer to a request that is let in
abbrev pub done : State → Request → Answered
done s (Stage a b) = accept (stage s a b) 0
done s Commit = accept (commit s) 0
done s (Read a) = accept s (entry_at s.live a)
done s Drop = accept (discard s) 0

pub accepted_by : (s : State) (r : List ℕ) (q : Request) → Asks r q → host_refusal s r ≡ 0 → done s q ≡ hosted s r
unfolding host_after host_entry
accepted_by s r (Stage a b) h z = sym (accepted_so (host_refusal s r) _ _ z ∙ rw (h.0, h.1, h.2))
accepted_by s r Commit h z = sym (accepted_so (host_refusal s r) _ _ z ∙ rw h)
accepted_by s r (Read a) h z = sym (accepted_so (host_refusal s r) _ _ z ∙ rw (h.0, h.1))
accepted_by s r Drop h z = sym (accepted_so (host_refusal s r) _ _ z ∙ rw h)

-- the slot that it names
pub stage_slot : (s : State) (r : List ℕ) (a b : ℕ) → Asks r (Stage a b) → host_refusal s r ≡ 0 → a ≤ 31
stage_slot s r a b h z = rw (sym h.1) (slot_named s r z (rw h.0)).1

pub read_slot : (s : State) (r : List ℕ) (a : ℕ) → Asks r (Read a) → host_refusal s r ≡ 0 → a ≤ 31
read_slot s r a h z = rw (sym h.1) (slot_named s r z (rw h.0)).1
