-- Runs of calls over the octets of a state go as on the machine.
use Rattle.std.specs.Prelude.{if◌then◌else◌}
use Prim.Native.Nat.{ℕ, zero, suc}
use mathlib.Core.Path.{◌≡◌, refl, sym, ap, ◌∙◌}
use mathlib.Core.Bool.{Bool, true, false}
use mathlib.Core.List.{List, [], ◌∷◌}
use native.Mathlib.Omega.{arith}
use native.Mathlib.Decide.{ℕ_discrete}
use lib.Dec.{eqb}
use borrow.Author.Tests.{eqb-true}
use lib.ListN.{length, length-set}
use Rattle.base.specs.Answer.{accepted}
use Rattle.base.specs.Tab.{tab_from}
use Rattle.base.proofs.AnswerLaws.{accepted_not}
use Rattle.exchange.specs.declared.State.{State}
use Rattle.exchange.specs.Answer.{Answered}
use Rattle.exchange.specs.Machine.{start_state, hosted, keyed, crossed, kind_of, host_refusal}
use Rattle.exchange.specs.Runs.{Call, host, key, boundary, mapping, after_call, answer, after_run, answers}
use Rattle.exchange.proofs.Laws.{refused_record, refused_key, host_cases, key_cases, reading_keeps, reads_alone}
use Rattle.exchange.proofs.Laws.{hosted_number}
use Rattle.jikhvanto.specs.Runs.{stepped, ran, gave}
use Rattle.jikhvanto.specs.Octets.{state_of, octets_of, stored, host_stored}
use Rattle.jikhvanto.proofs.Laws.{Maps, unpacked_maps, packed_length, packed_back}

either : (t : Bool) (a b : List ℕ) → length a ≡ 32 → length b ≡ 32 → length (if t then a else b) ≡ 32
either true a b h k = h
either false a b h k = k

-- a call keeps the maps at 32 octets each
step_maps : (s : State) (c : Call) → Maps s → Maps (after_call s c)
unfolding after_call
step_maps s (host r) m =
    host_cases Maps s r m
    (λ z k. (m.0, simp length-set (either s.staging s.staged s.live m.1 m.0), m.2))
    (λ z k. (m.0, m.1, m.1))
    (λ z k. m)
step_maps s (key p) m = key_cases Maps s p m (λ k. m) (λ k. m)
step_maps s boundary m = (either s.pending s.waiting s.live m.2 m.0, m.1, m.2)
step_maps s (mapping p out) m = m

-- the octets then unpack to the machine's state
module _ (state : List ℕ) (e : length state ≡ 99) where
  abbrev s : State
  s = state_of state

  maps : (c : Call) → Maps (after_call s c)
  maps c = step_maps s c (unpacked_maps state e)

  kept : (a : Answered) → Maps a.state → ((a.number ≡ 0 → ⊥) → a.state ≡ s) → (length (stored state a) ≡ 99) × (state_of (stored state a) ≡ a.state)
  kept a m same = go a.number refl
    where
      go : (n : ℕ) → a.number ≡ n → (let o = accepted n (octets_of a.state) state in (length o ≡ 99) × (state_of o ≡ a.state))
      go zero z = (packed_length a.state m, packed_back a.state m)
      go (suc n) z = (e, sym (same (λ y. omega arith)))

  pub steps_as_machine : (c : Call) → (length (stepped state c) ≡ 99) × (state_of (stepped state c) ≡ after_call s c)
  unfolding stepped host_stored after_call
  steps_as_machine (host r) = go (eqb (kind_of r) 3) refl
    where
      go : (t : Bool) → eqb (kind_of r) 3 ≡ t
          → (let o = if t then state else stored state (hosted s r) in (length o ≡ 99) × (state_of o ≡ (hosted s r).state))
      go true k = (e, sym (reading_keeps s r (eqb-true (kind_of r) 3 k)))
      go false k = kept (hosted s r) (maps (host r)) (λ h. ap (λ a. a.state) (refused_record s r h))
  steps_as_machine (key p) = kept (keyed s p) (maps (key p)) (λ h. ap (λ a. a.state) (refused_key s p h))
  steps_as_machine boundary = kept (crossed s) (maps boundary) (λ h. absurd (h refl))
  steps_as_machine (mapping p out) = (e, refl)

pub runs_as_machine : (state : List ℕ) (cs : List Call) → length state ≡ 99 → state_of (ran state cs) ≡ after_run (state_of state) cs
unfolding ran after_run
runs_as_machine state [] e = refl
runs_as_machine state (c ∷ cs) e =
    let h = steps_as_machine state e c in
    runs_as_machine (stepped state c) cs h.0 ∙ ap (λ s. after_run s cs) h.1

-- and are answered as there
pub gives_as_machine : (state : List ℕ) (cs : List Call) → length state ≡ 99
    → gave state cs ≡ answers (state_of state) cs
unfolding gave answers
gives_as_machine state [] e = refl
gives_as_machine state (c ∷ cs) e =
    let h = steps_as_machine state e c in
    ap (λ l. answer (state_of state) c ∷ l)
    (gives_as_machine (stepped state c) cs h.0 ∙ ap (λ s. answers s cs) h.1)

pub ran_length : (state : List ℕ) (cs : List Call) → length state ≡ 99 → length (ran state cs) ≡ 99
unfolding ran
ran_length state [] e = e
ran_length state (c ∷ cs) e = ran_length (stepped state c) cs (steps_as_machine state e c).0

-- octets of one state answer every run the same
pub same_gives : (x y : List ℕ) (cs : List Call) → length x ≡ 99 → length y ≡ 99 → state_of x ≡ state_of y
    → gave x cs ≡ gave y cs
same_gives x y cs l k e = gives_as_machine x cs l ∙ ap (λ s. answers s cs) e ∙ sym (gives_as_machine y cs k)

-- The octets of jk_start are the machine's start.

start_maps : Maps start_state
unfolding tab_from
start_maps = (refl, refl, refl)

pub start_length : length (octets_of start_state) ≡ 99
start_length = packed_length start_state start_maps

pub start_back : state_of (octets_of start_state) ≡ start_state
start_back = packed_back start_state start_maps

-- Calls that change no octet: a refused one, a record that only reads, and any record with the key off.

pub refused_stays : (state : List ℕ) (c : Call) → ((answer (state_of state) c).number ≡ 0 → ⊥) → stepped state c ≡ state
unfolding stepped host_stored answer
refused_stays state (host r) h = go (eqb (kind_of r) 3)
  where
    go : (t : Bool) → (if t then state else stored state (hosted (state_of state) r)) ≡ state
    go true = refl
    go false = accepted_not (hosted (state_of state) r).number _ state h
refused_stays state (key p) h = accepted_not (keyed (state_of state) p).number _ state h
refused_stays state boundary h = absurd (h refl)
refused_stays state (mapping p out) h = refl

pub reading_stays : (state r : List ℕ) → kind_of r ≡ 3 → stepped state (host r) ≡ state
unfolding stepped host_stored
reading_stays state r e = rw e

pub locked_stays : (state r : List ℕ) → (state_of state).flag ≡ false → stepped state (host r) ≡ state
unfolding answer
locked_stays state r off =
    let s = state_of state in
    elim (ℕ_discrete (host_refusal s r) 0) [
      | yes z ↦ reading_stays state r (reads_alone s r off z)
      | no h ↦ refused_stays state (host r) (λ z. h (sym (hosted_number s r) ∙ z))
    ]
