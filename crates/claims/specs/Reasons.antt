-- What `why` says of a place, and what a reading finds: the two cannot differ (KIT §4 and §11).
use Rattle.std.specs.Prelude.{ℕ, ◌+◌, ◌*◌, ◌<◌, ◌≡◌, List, ◌↔◌, ◌⊎◌, Ok, Err, length}
use Rattle.base.specs.declared.Refused.TheVariants.{TooShort, TooLong, Place}
use Rattle.align.specs.Stands.{Stands}
use Rattle.align.specs.Why.{why, why_number, why_refusal}
use Rattle.align.specs.Says.{Says}
use Rattle.align.specs.declared.Why.{Why}
use Rattle.align.specs.declared.Why.TheVariants.{NoneFails, NoPair}
use Rattle.read.specs.Entry.{Read, GoodLength}
use Rattle.read.specs.Answer.{Reading}
use Rattle.claims.specs.Accepts.{ToAsk}

-- the place that a reading answered, with the k of its start, is the first of which `why` says that it stands
pub record FirstSaid (s : List ℕ) (place start : ℕ) : Type 0 where
  pub k : ℕ
  pub here : why s place ≡ Ok (NoneFails k)
  pub start_there : start ≡ place + 512 * k
  pub before : (q l : ℕ) → q < place → why s q ≡ Ok (NoneFails l) → ⊥

pub record Reasons : Type 0 where
  -- each of the five answers is given exactly when what it says holds
  pub says : (s : List ℕ) (p : ℕ) (w : Why) → ToAsk s p → why s p ≡ Ok w ↔ Says s p w
  -- so one of them always holds, and never two
  pub one_holds : (s : List ℕ) (p : ℕ) → ToAsk s p → (w : Why) × Says s p w
  pub never_two : (s : List ℕ) (p : ℕ) (v w : Why) → ToAsk s p → Says s p v → Says s p w → v ≡ w
  -- that a place stands with k is said of it exactly when it does and k is its least; of one without room it is not
  pub stands : (s : List ℕ) (p k : ℕ) → GoodLength s → why s p ≡ Ok (NoneFails k) ↔ Stands s p k
  -- the refusals, the image's size first; their table says them of what is answered
  pub numbered : (s : List ℕ) (p : ℕ) → why_number (why s p) ≡ why_refusal s p
  pub short : (s : List ℕ) (p : ℕ) → why s p ≡ Err TooShort ↔ length s < 2048
  pub long : (s : List ℕ) (p : ℕ) → why s p ≡ Err TooLong ↔ 8192 < length s
  pub late : (s : List ℕ) (p : ℕ) → GoodLength s → why s p ≡ Err Place ↔ 8 * length s < p + 16384
  -- what a reading answers, and of which places it is said that they stand
  pub first : (s payload slot0 : List ℕ) (r : Reading) (payload' slot0' : List ℕ)
      → Read s payload slot0 r payload' slot0' → r.number ≡ 0 → FirstSaid s r.place r.start
  pub nowhere : (s payload slot0 : List ℕ) (r : Reading) (payload' slot0' : List ℕ) → GoodLength s
      → Read s payload slot0 r payload' slot0'
      → (r.number ≡ 3) ⊎ (r.number ≡ 15) ↔ ((p k : ℕ) → why s p ≡ Ok (NoneFails k) → ⊥)
  -- the place beside number 15 is the first of which it is said that it has no pair of signals, and with number 3 that is
  -- said of none
  pub no_pair : (s payload slot0 : List ℕ) (r : Reading) (payload' slot0' : List ℕ)
      → Read s payload slot0 r payload' slot0' → r.number ≡ 15
      → (why s r.place ≡ Ok NoPair) × ((q : ℕ) → q < r.place → why s q ≡ Ok NoPair → ⊥)
  pub no_pair_nowhere : (s payload slot0 : List ℕ) (r : Reading) (payload' slot0' : List ℕ)
      → Read s payload slot0 r payload' slot0' → r.number ≡ 3 → (p : ℕ) → why s p ≡ Ok NoPair → ⊥
