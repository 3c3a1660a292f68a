-- What holds of every run of calls.
use Rattle.std.specs.Prelude.{if◌then◌else◌}
use Prim.Native.Nat.{ℕ, zero, suc, ◌≤◌}
use mathlib.Core.Path.{◌≡◌, refl, sym, ap, ap₂, ◌∙◌}
use mathlib.Core.Bool.{Bool, true, false, not, ◌&&◌, ◌||◌, true≢false, and-eq-true_iff}
use mathlib.Core.List.{List, [], ◌∷◌}
use lib.Dec.{eqb, leb, lit≤}
use lib.ListN.{get_or, set}
use borrow.Author.Tests.{eq-eqb, eqb-true, leb-true, not-false}
use Rattle.base.specs.Tab.{tab_from}
use Rattle.base.proofs.ChoiceLaws.{if_both}
use Rattle.exchange.specs.declared.State.{State}
use Rattle.exchange.specs.Machine.{start_state, kind_of, a_of, b_of, unstaged, host_refusal, stage, commit, discard}
use Rattle.exchange.specs.Machine.{host_after, host_entry, hosted, key_off, keyed, key_on, key_refusal}
use Rattle.exchange.specs.Runs.{Call, host, key, boundary, mapping, after_call, answer, after_run, answers, last_key}
use Rattle.exchange.specs.Runs.{quiet, heard_of, heard_all, heard, is_boundary, is_key_on, is_commit, any_call, bare}
use Rattle.exchange.proofs.Laws.{answered_by, left_by, hosted_number, hosted_entry, keyed_number, keyed_entry}
use Rattle.exchange.proofs.Laws.{accepted_passed, host_cases, key_cases, locked_out, live_only_at_boundary}
use Rattle.exchange.proofs.Laws.{waits_only_by_commit, entry_named}

-- The flag is the last accepted key position, off at the start.

-- what the key leaves, by its two tests
abbrev keyed_by : State → Bool → Bool → State
keyed_by s k l = (answered_by s (if not (k || l) then 13 else 0) (if l then key_on s else key_off s) 0).state

key_flag : (s : State) (p : ℕ) → (keyed s p).state.flag ≡ (if eqb p 1 then true else (if eqb p 0 then false else s.flag))
unfolding key_refusal
key_flag s p = go (eqb p 0) (eqb p 1)
  where
    go : (k l : Bool) → (keyed_by s k l).flag ≡ (if l then true else if k then false else s.flag)
    go true true = refl
    go true false = refl
    go false true = refl
    go false false = refl

pub flag_from : (s : State) (cs : List Call) → (after_run s cs).flag ≡ last_key s.flag cs
unfolding after_run after_call last_key
flag_from s [] = refl
flag_from s (host r ∷ cs) =
    flag_from (after_call s (host r)) cs
    ∙ ap (λ b. last_key b cs) (host_cases (λ t. t.flag ≡ s.flag) s r refl (λ z q. refl) (λ z q. refl) (λ z q. refl))
flag_from s (key p ∷ cs) = flag_from (after_call s (key p)) cs ∙ ap (λ b. last_key b cs) (key_flag s p)
flag_from s (boundary ∷ cs) = flag_from (after_call s boundary) cs
flag_from s (mapping p out ∷ cs) = flag_from s cs

pub flag_is_last_key : (cs : List Call) → (after_run start_state cs).flag ≡ last_key false cs
flag_is_last_key cs = flag_from start_state cs

-- From a state with the flag off, host records that are sent before the key is next on change nothing.

stays_off : (s : State) (p : ℕ) → eqb p 1 ≡ false → s.flag ≡ false → (keyed s p).state.flag ≡ false
stays_off s p e off =
    key_cases (λ t. t.flag ≡ false) s p off (λ q. absurd (true≢false (sym (eq-eqb p 1 q) ∙ e))) (λ q. refl)

-- a run behind the key: all of it where the key is on
behind_key {ℓ} : {A : Type ℓ} (on : Bool) (x : A) (f : List Call → A) (cs ds : List Call)
    → (on ≡ true → x ≡ f cs) → (on ≡ false → x ≡ f ds) → x ≡ f (if on then cs else ds)
behind_key true x f cs ds h k = h refl
behind_key false x f cs ds h k = k refl

quiet_after : (s : State) (cs : List Call) → s.flag ≡ false → after_run s cs ≡ after_run s (quiet cs)
unfolding after_run after_call quiet
quiet_after s [] off = refl
quiet_after s (host r ∷ cs) off = ap (λ t. after_run t cs) (locked_out s r off) ∙ quiet_after s cs off
quiet_after s (key p ∷ cs) off =
    behind_key (eqb p 1) _ (after_run (after_call s (key p))) cs (quiet cs) (λ e. refl)
    (λ e. quiet_after (after_call s (key p)) cs (stays_off s p e off))
quiet_after s (boundary ∷ cs) off = quiet_after (after_call s boundary) cs off
quiet_after s (mapping p out ∷ cs) off = quiet_after s cs off

quiet_heard : (s : State) (cs : List Call) → s.flag ≡ false → heard s cs ≡ heard_all s (quiet cs)
unfolding heard heard_all after_call quiet
quiet_heard s [] off = refl
quiet_heard s (host r ∷ cs) off = ap (λ t. heard t cs) (locked_out s r off) ∙ quiet_heard s cs off
quiet_heard s (key p ∷ cs) off =
    ap (λ l. heard_of s (key p) ∷ l)
    (behind_key (eqb p 1) _ (heard_all (after_call s (key p))) cs (quiet cs)
    (λ e. rw e)
    (λ e. rw e (quiet_heard (after_call s (key p)) cs (stays_off s p e off))))
quiet_heard s (boundary ∷ cs) off = ap (λ l. heard_of s boundary ∷ l) (quiet_heard (after_call s boundary) cs off)
quiet_heard s (mapping p out ∷ cs) off = ap (λ l. heard_of s (mapping p out) ∷ l) (quiet_heard s cs off)

-- two runs that differ in such records only; at every point, since the runs may end anywhere
module _ (s : State) (cs ds : List Call) (off : s.flag ≡ false) (same : quiet cs ≡ quiet ds) where
  pub same_after : after_run s cs ≡ after_run s ds
  same_after = quiet_after s cs off ∙ ap (after_run s) same ∙ sym (quiet_after s ds off)

  pub same_heard : heard s cs ≡ heard s ds
  same_heard = quiet_heard s cs off ∙ ap (heard_all s) same ∙ sym (quiet_heard s ds off)

  pub same_later : (later : List Call) → answers (after_run s cs) later ≡ answers (after_run s ds) later
  same_later later = ap (λ t. answers t later) same_after

-- An invariant that calls keep where they fail a test is kept by a run of which all fail it.

or_no : (a b : Bool) → a || b ≡ false → (a ≡ false) × (b ≡ false)
or_no true b e = absurd (true≢false e)
or_no false b e = (refl, e)

pub kept_by_run : (I : State → Type 0) (t : State → Call → Bool)
    → ((s : State) (c : Call) → t s c ≡ false → I s → I (after_call s c))
    → (s : State) (cs : List Call) → any_call t s cs ≡ false → I s → I (after_run s cs)
unfolding after_run any_call
kept_by_run I t keeps s [] e i = i
kept_by_run I t keeps s (c ∷ cs) e i =
    let d = or_no (t s c) (any_call t (after_call s c) cs) e in
    kept_by_run I t keeps (after_call s c) cs d.1 (keeps s c d.0 i)

-- without a boundary the live map stays
pub live_without_boundary : (s : State) (cs : List Call) → any_call is_boundary s cs ≡ false
    → (after_run s cs).live ≡ s.live
live_without_boundary s cs e =
    kept_by_run (λ t. t.live ≡ s.live) is_boundary (λ t c n i. live_only_at_boundary t c n ∙ i) s cs e refl

-- and without an accepted commit, where nothing waits
pub live_without_commit : (s : State) (cs : List Call) → s.pending ≡ false → any_call is_commit s cs ≡ false
    → (after_run s cs).live ≡ s.live
live_without_commit s cs w e =
    (kept_by_run (λ t. (t.pending ≡ false) × (t.live ≡ s.live)) is_commit
    (λ t c n i. let d = waits_only_by_commit t c n i.0 in (d.0, d.1 ∙ i.1))
    s cs e (w, refl)).1

-- and from key 0 on, until the key is on again
pub live_without_key : (s : State) (cs : List Call) → any_call is_key_on (after_call s (key 0)) cs ≡ false
    → (after_run s (key 0 ∷ cs)).live ≡ s.live
unfolding after_call after_run is_key_on key_refusal
live_without_key s cs e =
    (kept_by_run (λ t. (t.flag ≡ false) × (t.pending ≡ false) × (t.live ≡ s.live)) is_key_on keeps (key_off s) cs e
    (refl, refl, refl)).2
  where
    keeps : (t : State) (c : Call) → is_key_on t c ≡ false
        → (t.flag ≡ false) × (t.pending ≡ false) × (t.live ≡ s.live)
        → ((after_call t c).flag ≡ false) × ((after_call t c).pending ≡ false) × ((after_call t c).live ≡ s.live)
    keeps t (host r) n i = rw (locked_out t r i.0) i
    keeps t (key p) n i =
        key_cases (λ u. (u.flag ≡ false) × (u.pending ≡ false) × (u.live ≡ s.live)) t p i
        (λ q. absurd (true≢false (sym (eq-eqb p 1 q) ∙ n)))
        (λ q. (refl, refl, i.2))
    keeps t boundary n i = (i.0, refl, rw i.1 i.2)
    keeps t (mapping p out) n i = i

-- What stands in place of a map that is not there changes nothing: states that are the same without it answer every run
-- the same.

inner : {A : Type 0} (t : Bool) (x y z : A) → (if t then (if t then x else y) else z) ≡ (if t then x else z)
inner true x y z = refl
inner false x y z = refl

bare_same : (s : State) → bare s ≡ bare (bare s)
bare_same s = rw (inner s.staging s.staged [] [], inner s.pending s.waiting [] [])

bare_stage : (s : State) (a b : ℕ) → bare (stage s a b) ≡ bare (stage (bare s) a b)
bare_stage s a b = rw (inner s.staging s.staged [] s.live, inner s.pending s.waiting [] [])

bare_commit : (s : State) → s.staging ≡ true → bare (commit s) ≡ bare (commit (bare s))
bare_commit s e = rw e

bare_discard : (s : State) → bare (discard s) ≡ bare (discard (bare s))
bare_discard s = rw (inner s.pending s.waiting [] [])

bare_host : (s : State) (r : List ℕ) → bare (hosted s r).state ≡ bare (hosted (bare s) r).state
unfolding host_refusal host_after unstaged
bare_host s r = go (host_refusal s r) (eqb (kind_of r) 1) (eqb (kind_of r) 2) (eqb (kind_of r) 4) staged
  where
    left : State → ℕ → Bool → Bool → Bool → State
    left t n k l m = (answered_by t n (left_by t r k l m) (host_entry t r)).state

    staged : host_refusal s r ≡ 0 → eqb (kind_of r) 2 ≡ true → s.staging ≡ true
    staged z e = not-false s.staging (rw (eqb-true (kind_of r) 2 e) at (accepted_passed s r z).ready)

    go : (n : ℕ) (k l m : Bool) → (n ≡ 0 → l ≡ true → s.staging ≡ true)
        → bare (left s n k l m) ≡ bare (left (bare s) n k l m)
    go (suc n) k l m h = bare_same s
    go zero true l m h = bare_stage s (a_of r) (b_of r)
    go zero false true m h = bare_commit s (h refl refl)
    go zero false false true h = bare_discard s
    go zero false false false h = bare_same s

bare_key : (s : State) (k l : Bool) → bare (keyed_by s k l) ≡ bare (keyed_by (bare s) k l)
bare_key s true true = rw (inner s.staging s.staged [] [], inner s.pending s.waiting [] [])
bare_key s true false = refl
bare_key s false true = rw (inner s.staging s.staged [] [], inner s.pending s.waiting [] [])
bare_key s false false = bare_same s

bare_step : (s : State) (c : Call) → bare (after_call s c) ≡ bare (after_call (bare s) c)
unfolding after_call key_refusal
bare_step s (host r) = bare_host s r
bare_step s (key p) = bare_key s (eqb p 0) (eqb p 1)
bare_step s boundary = rw (inner s.staging s.staged [] [], inner s.pending s.waiting [] s.live)
bare_step s (mapping p out) = bare_same s

bare_answer : (s : State) (c : Call) → answer s c ≡ answer (bare s) c
unfolding answer host_refusal host_entry
bare_answer s (host r) =
    ap₂ (λ n e. record { number = n; entry = e; output = [] })
    (hosted_number s r ∙ sym (hosted_number (bare s) r))
    (hosted_entry s r ∙ sym (hosted_entry (bare s) r))
bare_answer s (key p) =
    ap₂ (λ n e. record { number = n; entry = e; output = [] })
    (keyed_number s p ∙ sym (keyed_number (bare s) p))
    (keyed_entry s p ∙ sym (keyed_entry (bare s) p))
bare_answer s boundary = refl
bare_answer s (mapping p out) = refl

pub bare_answers : (s t : State) (cs : List Call) → bare s ≡ bare t → answers s cs ≡ answers t cs
unfolding answers
bare_answers s t [] e = refl
bare_answers s t (c ∷ cs) e =
    ap₂ (λ a l. a ∷ l)
    (bare_answer s c ∙ ap (λ u. answer u c) e ∙ sym (bare_answer t c))
    (bare_answers (after_call s c) (after_call t c) cs (bare_step s c ∙ ap (λ u. bare (after_call u c)) e ∙ sym (bare_step t c)))

-- Nothing that is staged or waits survives key 0: what comes later depends on the live map alone.

pub key_off_drops : (s : State) → ((after_call s (key 0)).staging ≡ false) × ((after_call s (key 0)).pending ≡ false)
unfolding after_call key_refusal
key_off_drops s = (refl, refl)

pub key_off_forgets : (s t : State) (cs : List Call) → s.live ≡ t.live
    → answers (after_call s (key 0)) cs ≡ answers (after_call t (key 0)) cs
unfolding after_call key_refusal
key_off_forgets s t cs e = bare_answers (key_off s) (key_off t) cs (rw e)

-- An invariant that every call keeps is kept by every run.
pub kept_always : (I : State → Type 0) → ((s : State) (c : Call) → I s → I (after_call s c))
    → (s : State) (cs : List Call) → I s → I (after_run s cs)
unfolding after_run
kept_always I keeps s [] i = i
kept_always I keeps s (c ∷ cs) i = kept_always I keeps (after_call s c) cs (keeps s c i)

-- No run from the start makes an entry over 31.

abbrev pub Small : List ℕ → Type 0
Small m = (j : ℕ) → get_or m j 0 ≤ 31

abbrev pub SmallMaps : State → Type 0
SmallMaps s = Small s.live × Small s.staged × Small s.waiting

small_set : (m : List ℕ) (a b : ℕ) → Small m → b ≤ 31 → Small (set m a b)
small_set [] a b h k j = h j
small_set (x ∷ m) zero b h k zero = k
small_set (x ∷ m) zero b h k (suc j) = h (suc j)
small_set (x ∷ m) (suc a) b h k zero = h zero
small_set (x ∷ m) (suc a) b h k (suc j) = small_set m a b (λ i. h (suc i)) k j

small_step : (s : State) (c : Call) → SmallMaps s → SmallMaps (after_call s c)
unfolding after_call
small_step s (host r) m =
    host_cases SmallMaps s r m
    (λ z k. (
      m.0,
      small_set (if s.staging then s.staged else s.live) (a_of r) (b_of r)
          (if_both Small s.staging m.1 m.0)
          (entry_named s r z k),
      m.2,
    ))
    (λ z k. (m.0, m.1, m.1))
    (λ z k. m)
small_step s (key p) m = key_cases SmallMaps s p m (λ k. m) (λ k. m)
small_step s boundary m = (if_both Small s.pending m.2 m.0, m.1, m.2)
small_step s (mapping p out) m = m

-- the maps of the start, by computing
abbrev fits : List ℕ → Bool
fits [] = true
fits (x ∷ m) = leb x 31 && fits m

fits_small : (m : List ℕ) → fits m ≡ true → Small m
fits_small [] e j = lit≤ tt
fits_small (x ∷ m) e zero = leb-true x 31 ((and-eq-true_iff (leb x 31) (fits m)).0 e).0
fits_small (x ∷ m) e (suc j) = fits_small m ((and-eq-true_iff (leb x 31) (fits m)).0 e).1 j

pub entries_small : (cs : List Call) → SmallMaps (after_run start_state cs)
unfolding tab_from
entries_small cs =
    kept_always SmallMaps small_step start_state cs
    (fits_small start_state.live refl, fits_small start_state.staged refl, fits_small start_state.waiting refl)
