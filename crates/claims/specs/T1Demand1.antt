-- Demand 1 of T1 (KIT §15): any octets and any numbers. No entry requires anything, and none takes a state; what it
-- answers and leaves is said by its contract.
use Rattle.std.specs.Prelude.{ℕ, suc, ◌*◌, ◌<◌, ◌≡◌, true, List, [], ◌∷◌, ◌↔◌, ◌⊎◌, length, drop}
use Rattle.base.specs.Answer.{among}
use Rattle.t1.specs.Payload.{superframes}
use Rattle.t1align.specs.Stands.{Stands}
use Rattle.t1read.specs.Entry.{GoodLength, whole_in, refuse, Read}
use Rattle.t1read.specs.Answer.{Reading}
use Rattle.t1write.specs.Entry.{Wrote, WroteSignalled}
use Rattle.t1write.specs.Answer.{Written}

pub record T1Demand1 : Type 0 where
  -- it answers, or refuses by a number from its list of the table
  pub read_number : (s payload link : List ℕ) (r : Reading) (payload' link' : List ℕ)
      → Read s payload link r payload' link' → among r.number (0 ∷ 1 ∷ 2 ∷ 3 ∷ 4 ∷ []) ≡ true
  pub write_number : (p l : List ℕ) (c : ℕ) (out : List ℕ) (r : Written) (out' : List ℕ)
      → Wrote p l c out r out' → among r.number (0 ∷ 5 ∷ 6 ∷ 7 ∷ 4 ∷ []) ≡ true
  pub write_signalled_number : (p l : List ℕ) (c : ℕ) (g out : List ℕ) (r : Written) (out' : List ℕ)
      → WroteSignalled p l c g out r out' → among r.number (0 ∷ 5 ∷ 6 ∷ 7 ∷ 16 ∷ 4 ∷ []) ≡ true
  -- of a reading 1 and 2 go by the octets of the image alone, and 4 by the room, once a place stands; Demand 2 says when
  -- it is 3
  pub read_short : (s payload link : List ℕ) (r : Reading) (payload' link' : List ℕ)
      → Read s payload link r payload' link' → r.number ≡ 1 ↔ length s < 1158
  pub read_long : (s payload link : List ℕ) (r : Reading) (payload' link' : List ℕ)
      → Read s payload link r payload' link' → r.number ≡ 2 ↔ 8192 < length s
  pub read_room : (s payload link : List ℕ) (r : Reading) (payload' link' : List ℕ)
      → Read s payload link r payload' link' → GoodLength s → (p : ℕ) → Stands s p
      → r.number ≡ 4 ↔ (length payload < 576 * whole_in s) ⊎ (length link < 12 * whole_in s)
  -- a refusal changes no octet, and answers zeros beside its number
  pub read_refused : (s payload link : List ℕ) (r : Reading) (payload' link' : List ℕ) (n : ℕ)
      → Read s payload link r payload' link' → r.number ≡ suc n
      → (r ≡ refuse (suc n)) × (payload' ≡ payload) × (link' ≡ link)
  pub write_refused : (p l : List ℕ) (c : ℕ) (out : List ℕ) (r : Written) (out' : List ℕ) (n : ℕ)
      → Wrote p l c out r out' → r.number ≡ suc n → (r.check ≡ 0) × (out' ≡ out)
  pub write_signalled_refused : (p l : List ℕ) (c : ℕ) (g out : List ℕ) (r : Written) (out' : List ℕ) (n : ℕ)
      → WroteSignalled p l c g out r out' → r.number ≡ suc n → (r.check ≡ 0) × (out' ≡ out)
  -- in an accepted call output octets past the needed length keep what they held
  pub read_kept : (s payload link : List ℕ) (r : Reading) (payload' link' : List ℕ)
      → Read s payload link r payload' link' → r.number ≡ 0
      → (drop (576 * r.whole) payload' ≡ drop (576 * r.whole) payload)
      × (drop (12 * r.whole) link' ≡ drop (12 * r.whole) link)
  pub write_kept : (p l : List ℕ) (c : ℕ) (out : List ℕ) (r : Written) (out' : List ℕ)
      → Wrote p l c out r out' → r.number ≡ 0 → drop (579 * superframes p) out' ≡ drop (579 * superframes p) out
  pub write_signalled_kept : (p l : List ℕ) (c : ℕ) (g out : List ℕ) (r : Written) (out' : List ℕ)
      → WroteSignalled p l c g out r out' → r.number ≡ 0
      → drop (579 * superframes p) out' ≡ drop (579 * superframes p) out
