-- What holds of each call, from any state.
use Rattle.std.specs.Prelude.{if◌then◌else◌}
use Prim.Native.Nat.{ℕ, zero, suc, ◌<◌, ◌≤◌}
use mathlib.Core.Path.{◌≡◌, refl, sym, ap, ◌∙◌}
use mathlib.Core.Bool.{Bool, true, false, not, ◌&&◌, ◌||◌, true≢false, and-eq-true_iff}
use mathlib.Core.Logic.{◌↔◌}
use mathlib.Mathlib.Data.Bool.Basic.{or-eq-false-eq-eq-false-and-eq-false}
use mathlib.Core.List.{List, ◌∷◌}
use native.Mathlib.Omega.{arith}
use lib.Dec.{lit<, eqb, leb, ltb}
use lib.ListN.{length, get_or, take}
use lib.Seq.{get_or-take}
use borrow.Author.Tests.{eqb-true, leb-true, le-leb, ltb-false, not-false}
use Rattle.base.specs.Answer.{accepted, among}
use Rattle.base.proofs.AnswerLaws.{accepted_not, first_listed, first_tells}
use Rattle.exchange.specs.declared.State.{State}
use Rattle.exchange.specs.Answer.{Answered, accept, refuse}
use Rattle.exchange.specs.Mapping.{map_refusal, mapped, map_refusals}
use Rattle.exchange.specs.Machine.{kind_of, a_of, b_of, between, outside, locked, unstaged}
use Rattle.exchange.specs.Machine.{host_refusal, stage, commit, discard, host_after, host_entry, hosted, key_on}
use Rattle.exchange.specs.Machine.{key_off, keyed, host_refusals, key_refusals, key_refusal}
use Rattle.exchange.specs.Runs.{Call, host, key, boundary, mapping, after_call, answer, lent, is_boundary, is_commit}
use Rattle.exchange.specs.Runs.{numbers_of}

-- A call's answer by its number n, where t and e are what it would leave and read.

abbrev pub answered_by : State → ℕ → State → ℕ → Answered
answered_by s n t e = accepted n (accept t e) (refuse s n)

module _ (s t : State) (e : ℕ) where
  pub answered_number : (n : ℕ) → (answered_by s n t e).number ≡ n
  answered_number zero = refl
  answered_number (suc n) = refl

  pub answered_entry : (n : ℕ) → (answered_by s n t e).entry ≡ accepted n e 0
  answered_entry zero = refl
  answered_entry (suc n) = refl

  -- a refused call changes nothing, and its answer is zeros but for the number
  pub answered_refused : (n : ℕ) → ((answered_by s n t e).number ≡ 0 → ⊥)
      → answered_by s n t e ≡ refuse s (answered_by s n t e).number
  answered_refused zero h = absurd (h refl)
  answered_refused (suc n) h = refl

-- what the key leaves where it is accepted
abbrev pub key_after : State → ℕ → State
key_after s p = if eqb p 1 then key_on s else key_off s

pub hosted_number : (s : State) (r : List ℕ) → (hosted s r).number ≡ host_refusal s r
hosted_number s r = answered_number s (host_after s r) (host_entry s r) (host_refusal s r)

pub hosted_entry : (s : State) (r : List ℕ) → (hosted s r).entry ≡ accepted (host_refusal s r) (host_entry s r) 0
hosted_entry s r = answered_entry s (host_after s r) (host_entry s r) (host_refusal s r)

pub keyed_number : (s : State) (p : ℕ) → (keyed s p).number ≡ key_refusal p
keyed_number s p = answered_number s (key_after s p) 0 (key_refusal p)

pub keyed_entry : (s : State) (p : ℕ) → (keyed s p).entry ≡ 0
keyed_entry s p = answered_entry s (key_after s p) 0 (key_refusal p) ∙ either (key_refusal p)
  where
    either : (n : ℕ) → accepted {A = ℕ} n 0 0 ≡ 0
    either zero = refl
    either (suc n) = refl

-- A refused call changes nothing, and its answer is zeros but for the number.

pub refused_record : (s : State) (r : List ℕ) → ((hosted s r).number ≡ 0 → ⊥)
    → hosted s r ≡ refuse s (hosted s r).number
refused_record s r h = answered_refused s (host_after s r) (host_entry s r) (host_refusal s r) h

pub refused_key : (s : State) (p : ℕ) → ((keyed s p).number ≡ 0 → ⊥) → keyed s p ≡ refuse s (keyed s p).number
refused_key s p h = answered_refused s (key_after s p) 0 (key_refusal p) h

pub refused_mapping : (m p out : List ℕ) → (map_refusal p out ≡ 0 → ⊥) → mapped m p out ≡ out
unfolding mapped
refused_mapping m p out h = accepted_not (map_refusal p out) _ out h

pub refused_changes_nothing : (s : State) (c : Call) → ((answer s c).number ≡ 0 → ⊥)
    → (after_call s c ≡ s) × ((answer s c).entry ≡ 0) × ((answer s c).output ≡ lent c)
unfolding after_call answer lent
refused_changes_nothing s (host r) h =
    let e = refused_record s r h in (ap (λ a. a.state) e, ap (λ a. a.entry) e, refl)
refused_changes_nothing s (key p) h = let e = refused_key s p h in (ap (λ a. a.state) e, ap (λ a. a.entry) e, refl)
refused_changes_nothing s boundary h = absurd (h refl)
refused_changes_nothing s (mapping p out) h = (refl, refl, refused_mapping s.live p out h)

-- Each number is 0 or one of its entry's own.

pub number_is_listed : (s : State) (c : Call) → among (answer s c).number (0 ∷ numbers_of c) ≡ true
unfolding answer numbers_of host_refusal key_refusal map_refusal
number_is_listed s (host r) = rw (hosted_number s r) (first_listed (host_refusals s r))
number_is_listed s (key p) = rw (keyed_number s p) (first_listed (key_refusals p))
number_is_listed s boundary = refl
number_is_listed s (mapping p out) = first_listed (map_refusals p out)

pub within : (low x high : ℕ) → between low x high ≡ true ↔ (low ≤ x) × (x ≤ high)
unfolding between
within low x high = (
  λ e. let w = (and-eq-true_iff (leb low x) (leb x high)).0 e in (leb-true low x w.0, leb-true x high w.1),
  λ h. rw (le-leb low x h.0, le-leb x high h.1),
)

-- What an accepted record has passed.

pub record Passed (s : State) (r : List ℕ) : Type 0 where
  pub four : length r ≡ 4
  pub known : between 1 (kind_of r) 4 ≡ true
  pub inside : outside (kind_of r) (a_of r) (b_of r) ≡ false
  pub unlocked : locked (kind_of r) s.flag ≡ false
  pub ready : unstaged (kind_of r) s.staging ≡ false

pub accepted_passed : (s : State) (r : List ℕ) → host_refusal s r ≡ 0 → Passed s r
unfolding host_refusal
accepted_passed s r e =
    let w = rw e at (first_tells (host_refusals s r) refl) in
    record {
      four = eqb-true (length r) 4 (not-false (eqb (length r) 4) w.0);
      known = not-false (between 1 (kind_of r) 4) w.1.0;
      inside = w.1.1.0;
      unlocked = w.1.1.1.0;
      ready = w.1.1.1.1.0;
    }

-- its kind is 1 to 4
pub kind_named : (s : State) (r : List ℕ) → host_refusal s r ≡ 0 → (1 ≤ kind_of r) × (kind_of r ≤ 4)
kind_named s r z = (within 1 (kind_of r) 4).0 (accepted_passed s r z).known

-- kinds 1 and 3 name a slot
pub slot_named : (s : State) (r : List ℕ) → host_refusal s r ≡ 0 → eqb (kind_of r) 1 || eqb (kind_of r) 3 ≡ true
    → (1 ≤ a_of r) × (a_of r ≤ 31)
unfolding outside
slot_named s r z k =
    (within 1 (a_of r) 31).0 (passes (eqb (kind_of r) 1 || eqb (kind_of r) 3) _ _ k (accepted_passed s r z).inside)
  where
    passes : (x y z : Bool) → x ≡ true → (x && not y) || z ≡ false → y ≡ true
    passes true true z e h = refl
    passes true false z e h = absurd (true≢false h)
    passes false y z e h = absurd (true≢false (sym e))

-- kind 1 names an entry
pub entry_named : (s : State) (r : List ℕ) → host_refusal s r ≡ 0 → kind_of r ≡ 1 → b_of r ≤ 31
unfolding outside
entry_named s r z k =
    let e = rw k at (accepted_passed s r z).inside in
    ltb-false 31 (b_of r) ((or-eq-false-eq-eq-false-and-eq-false (not (between 1 (a_of r) 31)) (ltb 31 (b_of r))).0 e).1

-- The host number changes nothing: records of one length that agree in the first three octets.

pub host_number_changes_nothing : (s : State) (r q : List ℕ) → length r ≡ length q → take 3 r ≡ take 3 q
    → hosted s r ≡ hosted s q
unfolding host_refusal host_after host_entry
host_number_changes_nothing s r q l e = rw (l, at 0 (lit< tt), at 1 (lit< tt), at 2 (lit< tt))
  where
    at : (i : ℕ) → i < 3 → get_or r i 0 ≡ get_or q i 0
    at i h = sym (get_or-take 3 r i 0 h) ∙ ap (λ l. get_or l i 0) e ∙ get_or-take 3 q i 0 h

-- what an accepted record leaves, by the tests of its kind
abbrev pub left_by : State → List ℕ → Bool → Bool → Bool → State
left_by s r k l m = if k then stage s (a_of r) (b_of r) else if l then commit s else if m then discard s else s

-- what holds of each way that a record can go holds of what it leaves
pub host_cases : (P : State → Type 0) (s : State) (r : List ℕ) → P s
    → (host_refusal s r ≡ 0 → kind_of r ≡ 1 → P (stage s (a_of r) (b_of r)))
    → (host_refusal s r ≡ 0 → kind_of r ≡ 2 → P (commit s))
    → (host_refusal s r ≡ 0 → kind_of r ≡ 4 → P (discard s))
    → P (hosted s r).state
unfolding host_after
host_cases P s r h one two four =
    go (host_refusal s r) refl (eqb (kind_of r) 1) refl (eqb (kind_of r) 2) refl (eqb (kind_of r) 4) refl
  where
    go : (n : ℕ) → host_refusal s r ≡ n
        → (k : Bool) → eqb (kind_of r) 1 ≡ k
        → (l : Bool) → eqb (kind_of r) 2 ≡ l
        → (m : Bool) → eqb (kind_of r) 4 ≡ m
        → P (answered_by s n (left_by s r k l m) (host_entry s r)).state
    go (suc n) z k p l q m o = h
    go zero z true p l q m o = one z (eqb-true (kind_of r) 1 p)
    go zero z false p true q m o = two z (eqb-true (kind_of r) 2 q)
    go zero z false p false q true o = four z (eqb-true (kind_of r) 4 o)
    go zero z false p false q false o = h

-- and of the key
pub key_cases : (P : State → Type 0) (s : State) (p : ℕ) → P s → (p ≡ 1 → P (key_on s)) → (p ≡ 0 → P (key_off s))
    → P (keyed s p).state
unfolding key_refusal
key_cases P s p h on off = go (eqb p 0) refl (eqb p 1) refl
  where
    go : (k : Bool) → eqb p 0 ≡ k → (l : Bool) → eqb p 1 ≡ l
        → P (answered_by s (if not (k || l) then 13 else 0) (if l then key_on s else key_off s) 0).state
    go true e true f = on (eqb-true p 1 f)
    go true e false f = off (eqb-true p 0 e)
    go false e true f = on (eqb-true p 1 f)
    go false e false f = h

-- A record of kind 3 changes nothing.

pub reading_keeps : (s : State) (r : List ℕ) → kind_of r ≡ 3 → (hosted s r).state ≡ s
reading_keeps s r k =
    host_cases (λ t. t ≡ s) s r refl (λ z q. absurd (omega arith)) (λ z q. absurd (omega arith))
    (λ z q. absurd (omega arith))

-- With the flag off only a record of kind 3 is accepted, and none changes anything.
module _ (s : State) (r : List ℕ) (off : s.flag ≡ false) where
  not_locked : (k : ℕ) → locked k false ≡ true → host_refusal s r ≡ 0 → kind_of r ≡ k → ⊥
  not_locked k e z q = true≢false (sym e ∙ rw (q, off) at (accepted_passed s r z).unlocked)

  pub reads_alone : host_refusal s r ≡ 0 → kind_of r ≡ 3
  unfolding locked
  reads_alone z =
      let k = kind_named s r z in
      omega (arith, k.0, k.1, not_locked 1 refl z, not_locked 2 refl z, not_locked 4 refl z)

  pub locked_out : (hosted s r).state ≡ s
  unfolding locked
  locked_out =
      host_cases (λ t. t ≡ s) s r refl
      (λ z q. absurd (not_locked 1 refl z q))
      (λ z q. absurd (not_locked 2 refl z q))
      (λ z q. absurd (not_locked 4 refl z q))

-- A map goes live only at a boundary, and only from an accepted commit.

pub live_only_at_boundary : (s : State) (c : Call) → is_boundary s c ≡ false → (after_call s c).live ≡ s.live
unfolding after_call is_boundary
live_only_at_boundary s (host r) e =
    host_cases (λ t. t.live ≡ s.live) s r refl (λ z q. refl) (λ z q. refl) (λ z q. refl)
live_only_at_boundary s (key p) e = key_cases (λ t. t.live ≡ s.live) s p refl (λ q. refl) (λ q. refl)
live_only_at_boundary s boundary e = absurd (true≢false e)
live_only_at_boundary s (mapping p out) e = refl

pub waits_only_by_commit : (s : State) (c : Call) → is_commit s c ≡ false → s.pending ≡ false
    → ((after_call s c).pending ≡ false) × ((after_call s c).live ≡ s.live)
unfolding after_call is_commit
waits_only_by_commit s (host r) e w =
    host_cases (λ t. (t.pending ≡ false) × (t.live ≡ s.live)) s r
    (w, refl)
    (λ z q. (w, refl))
    (λ z q. absurd (true≢false (rw (z, q) at e)))
    (λ z q. (w, refl))
waits_only_by_commit s (key p) e w =
    key_cases (λ t. (t.pending ≡ false) × (t.live ≡ s.live)) s p (w, refl) (λ q. (w, refl)) (λ q. (refl, refl))
waits_only_by_commit s boundary e w = (refl, rw w)
waits_only_by_commit s (mapping p out) e w = (w, refl)

pub waiting_only_by_commit : (s : State) (c : Call) → is_commit s c ≡ false → (after_call s c).waiting ≡ s.waiting
unfolding after_call is_commit
waiting_only_by_commit s (host r) e =
    host_cases (λ t. t.waiting ≡ s.waiting) s r refl (λ z q. refl) (λ z q. absurd (true≢false (rw (z, q) at e)))
    (λ z q. refl)
waiting_only_by_commit s (key p) e = key_cases (λ t. t.waiting ≡ s.waiting) s p refl (λ q. refl) (λ q. refl)
waiting_only_by_commit s boundary e = refl
waiting_only_by_commit s (mapping p out) e = refl

-- a commit needs the flag and a staged map, and that map then waits
committed : (s : State) (r : List ℕ) → host_refusal s r ≡ 0 → kind_of r ≡ 2 → (hosted s r).state ≡ commit s
unfolding host_after
committed s r z q = ap (λ n. (answered_by s n (host_after s r) (host_entry s r)).state) z ∙ rw q

pub commit_waits : (s : State) (c : Call) → is_commit s c ≡ true
    → (s.flag ≡ true) × (s.staging ≡ true) × (after_call s c ≡ commit s)
unfolding after_call is_commit host_after locked unstaged
commit_waits s (host r) e =
    let w = (and-eq-true_iff (eqb (host_refusal s r) 0) (eqb (kind_of r) 2)).0 e in
    let z = eqb-true (host_refusal s r) 0 w.0 in
    let q = eqb-true (kind_of r) 2 w.1 in
    let d = accepted_passed s r z in
    (not-false s.flag (rw q at d.unlocked), not-false s.staging (rw q at d.ready), committed s r z q)
commit_waits s (key p) e = absurd (true≢false (sym e))
commit_waits s boundary e = absurd (true≢false (sym e))
commit_waits s (mapping p out) e = absurd (true≢false (sym e))
