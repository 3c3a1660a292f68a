-- Demand 1: any octets, any numbers and any order of calls (KIT §11). No entry requires anything; what it answers and
-- leaves is said by its contract.
use Rattle.std.specs.Prelude.{ℕ, suc, ◌*◌, ◌≤◌, ◌≡◌, true, false, List, [], ◌∷◌, ◌≢◌, length, get_or, take, drop}
use Rattle.base.specs.Answer.{among}
use Rattle.e1.specs.Payload.{multiframes}
use Rattle.align.specs.Why.{why, why_values, why_number}
use Rattle.read.specs.Entry.{Read}
use Rattle.read.specs.Entry as reads
use Rattle.read.specs.Answer.{Reading}
use Rattle.stream.specs.Entry.{feed_refuse, Feeds, ending}
use Rattle.stream.specs.declared.Stream.{Stream}
use Rattle.stream.specs.Answer.{Fed}
use Rattle.write.specs.Entry.{Wrote}
use Rattle.write.specs.Answer.{Written, refuse}
use Rattle.signals.specs.Entry.{Signalled}
use Rattle.signals.specs.Entry as signals
use Rattle.signals.specs.Answer.{Signalling}
use Rattle.signalled.specs.Entry as signalled
use Rattle.exchange.specs.declared.State.{State}
use Rattle.exchange.specs.Mapping.{entry_at, Mapped}
use Rattle.exchange.specs.Answer.{accept}
use Rattle.exchange.specs.Machine.{start_state, hosted}
use Rattle.exchange.specs.Runs.{Call, key, mapping, after_call, answer, lent, numbers_of, after_run, answers, last_key}
use Rattle.exchange.specs.Runs.{quiet, heard, any_call, is_boundary, is_commit, is_key_on}

pub record Demand1 : Type 0 where
  -- it answers, or refuses by a number from its list of the table; the calls on a state have theirs in `numbers_of`
  pub read_number : (s payload slot0 : List ℕ) (r : Reading) (payload' slot0' : List ℕ)
      → Read s payload slot0 r payload' slot0' → among r.number (0 ∷ 1 ∷ 2 ∷ 3 ∷ 15 ∷ 4 ∷ []) ≡ true
  pub feed_number : (st : Stream) (window t payload slot0 : List ℕ) (r : Fed) (window' payload' slot0' : List ℕ)
      → Feeds st window t payload slot0 r window' payload' slot0'
      → among r.number (0 ∷ 21 ∷ 17 ∷ 4 ∷ []) ≡ true
  pub end_number : (st : Stream) → among (ending st).reading.number (0 ∷ 21 ∷ 1 ∷ 3 ∷ 15 ∷ []) ≡ true
  pub signals_number : (s out : List ℕ) (r : Signalling) (out' : List ℕ)
      → Signalled s out r out' → among r.number (0 ∷ 1 ∷ 2 ∷ 3 ∷ 15 ∷ 4 ∷ []) ≡ true
  pub why_answers : (s : List ℕ) (p : ℕ) → among (why_number (why s p)) (0 ∷ 1 ∷ 2 ∷ 14 ∷ []) ≡ true
  pub write_number : (p o : List ℕ) (c : ℕ) (out : List ℕ) (r : Written) (out' : List ℕ)
      → Wrote p o c out r out' → among r.number (0 ∷ 5 ∷ 6 ∷ 7 ∷ 4 ∷ []) ≡ true
  pub write_signalled_number : (p o : List ℕ) (c : ℕ) (xy v out : List ℕ) (r : Written) (out' : List ℕ)
      → signalled.Wrote p o c xy v out r out' → among r.number (0 ∷ 5 ∷ 6 ∷ 7 ∷ 16 ∷ 4 ∷ []) ≡ true
  pub call_number : (s : State) (c : Call) → among (answer s c).number (0 ∷ numbers_of c) ≡ true
  -- A refusal changes no octet, no state and no stream, and answers zeros beside its number. There is one exception:
  -- number 15 of a reading, or of a stream's end, has a place beside it, and Demand 2 and Streams say which.
  pub read_refused : (s payload slot0 : List ℕ) (r : Reading) (payload' slot0' : List ℕ) (n : ℕ)
      → Read s payload slot0 r payload' slot0' → r.number ≡ suc n
      → (r ≡ reads.refuse (suc n) r.place) × (payload' ≡ payload) × (slot0' ≡ slot0)
  pub read_no_place : (s payload slot0 : List ℕ) (r : Reading) (payload' slot0' : List ℕ) (n : ℕ)
      → Read s payload slot0 r payload' slot0' → r.number ≡ suc n → suc n ≢ 15 → r.place ≡ 0
  pub feed_refused : (st : Stream) (window t payload slot0 : List ℕ) (r : Fed) (window' payload' slot0' : List ℕ)
      → Feeds st window t payload slot0 r window' payload' slot0' → (n : ℕ) → r.number ≡ suc n
      → (r ≡ feed_refuse st (suc n)) × (window' ≡ window) × (payload' ≡ payload) × (slot0' ≡ slot0)
  pub end_refused : (st : Stream) (n : ℕ) → (ending st).reading.number ≡ suc n
      → ending st ≡ record { stream = st; reading = reads.refuse (suc n) (ending st).reading.place }
  pub end_no_place : (st : Stream) (n : ℕ) → (ending st).reading.number ≡ suc n → suc n ≢ 15
      → (ending st).reading.place ≡ 0
  -- after an end that is accepted every call on the stream is refused with 21, and so changes nothing
  pub feed_after_end : (st : Stream) → (ending st).reading.number ≡ 0
      → (window t payload slot0 : List ℕ) (r : Fed) (window' payload' slot0' : List ℕ)
      → Feeds (ending st).stream window t payload slot0 r window' payload' slot0' → r.number ≡ 21
  pub end_after_end : (st : Stream) → (ending st).reading.number ≡ 0 → (ending (ending st).stream).reading.number ≡ 21
  pub signals_refused : (s out : List ℕ) (r : Signalling) (out' : List ℕ) (n : ℕ)
      → Signalled s out r out' → r.number ≡ suc n → (r ≡ signals.refuse (suc n)) × (out' ≡ out)
  pub why_refused : (s : List ℕ) (p n : ℕ) → why_number (why s p) ≡ suc n
      → why_values (why s p) ≡ suc n ∷ 0 ∷ 0 ∷ 0 ∷ []
  pub write_refused : (p o : List ℕ) (c : ℕ) (out : List ℕ) (r : Written) (out' : List ℕ) (n : ℕ)
      → Wrote p o c out r out' → r.number ≡ suc n → (r ≡ refuse (suc n)) × (out' ≡ out)
  pub write_signalled_refused : (p o : List ℕ) (c : ℕ) (xy v out : List ℕ) (r : Written) (out' : List ℕ) (n : ℕ)
      → signalled.Wrote p o c xy v out r out' → r.number ≡ suc n → (r ≡ refuse (suc n)) × (out' ≡ out)
  pub call_refused : (s : State) (c : Call) → ((answer s c).number ≡ 0 → ⊥)
      → (after_call s c ≡ s) × ((answer s c).entry ≡ 0) × ((answer s c).output ≡ lent c)
  -- in an accepted call output octets past the needed length keep what they held
  pub read_kept : (s payload slot0 : List ℕ) (r : Reading) (payload' slot0' : List ℕ)
      → Read s payload slot0 r payload' slot0' → r.number ≡ 0
      → (drop (496 * r.used) payload' ≡ drop (496 * r.used) payload)
      × (drop (16 * r.used) slot0' ≡ drop (16 * r.used) slot0)
  pub feed_kept : (st : Stream) (window t payload slot0 : List ℕ) (r : Fed) (window' payload' slot0' : List ℕ)
      → Feeds st window t payload slot0 r window' payload' slot0' → r.number ≡ 0
      → (drop r.stream.fill window' ≡ drop r.stream.fill window)
      × (drop (496 * r.multiframes) payload' ≡ drop (496 * r.multiframes) payload)
      × (drop (16 * r.multiframes) slot0' ≡ drop (16 * r.multiframes) slot0)
  pub write_kept : (p o : List ℕ) (c : ℕ) (out : List ℕ) (r : Written) (out' : List ℕ)
      → Wrote p o c out r out' → r.number ≡ 0 → drop (512 * multiframes p) out' ≡ drop (512 * multiframes p) out
  pub signals_kept : (s out : List ℕ) (r : Signalling) (out' : List ℕ)
      → Signalled s out r out' → r.number ≡ 0 → drop (30 * r.multiframes) out' ≡ drop (30 * r.multiframes) out
  pub write_signalled_kept : (p o : List ℕ) (c : ℕ) (xy v out : List ℕ) (r : Written) (out' : List ℕ)
      → signalled.Wrote p o c xy v out r out' → r.number ≡ 0
      → drop (512 * multiframes p) out' ≡ drop (512 * multiframes p) out
  pub map_kept : (map payload out : List ℕ) (r : ℕ) (out' : List ℕ)
      → Mapped map payload out r out' → r ≡ 0 → drop (length payload) out' ≡ drop (length payload) out
  -- the flag always equals the last accepted key position, off at the start
  pub flag : (cs : List Call) → (after_run start_state cs).flag ≡ last_key false cs
  -- From one state with the key off, two runs whose calls differ only in the host records sent before the key is next
  -- on keep the same flag and live map, now and after every call that they share, and any later calls are answered the
  -- same.
  pub locked_out : (s : State) (cs ds : List Call) → s.flag ≡ false → quiet cs ≡ quiet ds
      → ((after_run s cs).flag ≡ (after_run s ds).flag)
      × ((after_run s cs).live ≡ (after_run s ds).live)
      × (heard s cs ≡ heard s ds)
      × ((later : List Call) → answers (after_run s cs) later ≡ answers (after_run s ds) later)
  -- Why that settles it: a map goes live only at a boundary and only after an accepted commit, neither a staged nor a
  -- waiting map survives key 0, the host number changes nothing, and no octet of a payload reaches the state. (No other
  -- entry takes a state.)
  pub boundary_alone : (s : State) (cs : List Call) → any_call is_boundary s cs ≡ false → (after_run s cs).live ≡ s.live
  pub commit_first : (s : State) (cs : List Call) → s.pending ≡ false → any_call is_commit s cs ≡ false
      → (after_run s cs).live ≡ s.live
  pub none_survives : (s : State) (cs : List Call) → any_call is_key_on (after_call s (key 0)) cs ≡ false
      → (after_run s (key 0 ∷ cs)).live ≡ s.live
  pub all_forgotten : (s t : State) (cs : List Call) → s.live ≡ t.live
      → answers (after_call s (key 0)) cs ≡ answers (after_call t (key 0)) cs
  pub any_host : (s : State) (r q : List ℕ) → length r ≡ length q → take 3 r ≡ take 3 q → hosted s r ≡ hosted s q
  pub no_octet : (s : State) (p out : List ℕ) → after_call s (mapping p out) ≡ s
  -- kind 3 answers the live entry, whatever the flag, b and the host number, and changes nothing
  pub kind_3 : (s : State) (a b host : ℕ) → 1 ≤ a → a ≤ 31
      → hosted s (3 ∷ a ∷ b ∷ host ∷ []) ≡ accept s (entry_at s.live a)
  -- no run from the start makes an entry over 31
  pub entries : (cs : List Call) (j : ℕ)
      → (get_or (after_run start_state cs).live j 0 ≤ 31)
      × (get_or (after_run start_state cs).staged j 0 ≤ 31)
      × (get_or (after_run start_state cs).waiting j 0 ≤ 31)
