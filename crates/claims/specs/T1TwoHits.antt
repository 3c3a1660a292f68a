-- Two hits in one superframe of T1 (KIT §15): as in a block of E1, with 63 for 15.
use Rattle.std.specs.Prelude.{if◌then◌else◌, ℕ, ◌+◌, ◌-◌, ◌*◌, ◌%◌, ◌≤◌, ◌<◌, ◌≡◌, true, List, ◌≢◌, ◌↔◌, eqb}
use Rattle.std.specs.Int.Bits.{bit_xor}
use Rattle.crc.specs.Share.{share, distance}
use Rattle.t1.specs.Superframe.{super_check}
use Rattle.t1read.specs.Entry.{Read}
use Rattle.t1read.specs.Answer.{Reading}
use Rattle.claims.specs.T1Demand2.{AgreesT1}
use Rattle.claims.specs.T1Demand3.{AlignedT1}
use Rattle.claims.specs.TwoHits.{HitTwice, data_pairs}

pub record T1TwoHits : Type 0 where
  -- Take an aligned image of n superframes, and a superframe b of it that is not the last and agrees. Turn over two of its
  -- data bits, and nothing else. The superframe disagrees exactly if their distance is no multiple of 63,
  pub seen : (n : ℕ) (s t : List ℕ) → AlignedT1 s n → AlignedT1 t n → (b i j : ℕ) → b + 1 < n → AgreesT1 s 0 b
      → HitTwice 4632 193 s t (4632 * b) i j
      → (¬ AgreesT1 t 0 b) ↔ (distance i j % 63 ≢ 0)
  -- since its check changes by the sum of their shares.
  pub shares : (s t : List ℕ) (q i j : ℕ) → HitTwice 4632 193 s t q i j
      → bit_xor (super_check s q) (super_check t q) ≡ bit_xor (share 6 (4631 - i)) (share 6 (4631 - j))
  -- With both in the last superframe, each one before it agrees exactly if it did.
  pub last : (n : ℕ) (s t : List ℕ) → AlignedT1 s n → AlignedT1 t n → (i j : ℕ) → HitTwice 4632 193 s t (4632 * (n - 1)) i j
      → (b : ℕ) → b + 1 < n → AgreesT1 s 0 b ↔ AgreesT1 t 0 b
  -- `read` counts one errored superframe more or none, by the same rule, as long as place and whole stay, which they do not
  -- where the first one disagrees;
  pub read : (s payload link : List ℕ) (r : Reading) (payload' link' : List ℕ)
      → Read s payload link r payload' link' → r.number ≡ 0
      → (t payload-t link-t : List ℕ) (r' : Reading) (payload-t' link-t' : List ℕ)
      → Read t payload-t link-t r' payload-t' link-t' → r'.number ≡ 0
      → r'.place ≡ r.place → r'.whole ≡ r.whole
      → (b i j : ℕ) → b < r.compared → AgreesT1 s r.place b → HitTwice 4632 193 s t (r.place + 4632 * b) i j
      → r'.errored ≡ r.errored + (if eqb (distance i j % 63) 0 then 0 else 1)
  -- with both behind the compared superframes it counts as many.
  pub read_last : (s payload link : List ℕ) (r : Reading) (payload' link' : List ℕ)
      → Read s payload link r payload' link' → r.number ≡ 0
      → (t payload-t link-t : List ℕ) (r' : Reading) (payload-t' link-t' : List ℕ)
      → Read t payload-t link-t r' payload-t' link-t' → r'.number ≡ 0
      → r'.place ≡ r.place → r'.whole ≡ r.whole
      → (b i j : ℕ) → r.compared ≤ b → HitTwice 4632 193 s t (r.place + 4632 * b) i j
      → r'.errored ≡ r.errored
  -- A superframe has so many pairs of data bits, and so many a multiple of 63 apart, which by `seen` go unseen.
  pub all_pairs : data_pairs 4632 193 (λ m. true) ≡ 10614528
  pub hidden_pairs : data_pairs 4632 193 (λ m. eqb (m % 63) 0) ≡ 166228
