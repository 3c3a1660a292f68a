-- Two hits in one block (KIT §3): which of them the check sees, and how many there are that it does not. Over the check
-- itself, as Demand 3 is.
use Rattle.std.specs.Prelude.{if◌then◌else◌, ℕ, ◌+◌, ◌-◌, ◌*◌, ◌%◌, ◌≤◌, ◌<◌, ◌≡◌, Bool, true, not, ◌&&◌, List, ◌≢◌, ◌↔◌, eqb}
use Rattle.std.specs.Int.Bits.{bit_xor}
use Rattle.base.specs.Tab.{sum, count}
use Rattle.line.specs.Bit.{bit_at}
use Rattle.crc.specs.Share.{share, distance}
use Rattle.e1.specs.Block.{block_check}
use Rattle.read.specs.Entry.{Read}
use Rattle.read.specs.Answer.{Reading}
use Rattle.claims.specs.Counts.{Agrees}
use Rattle.claims.specs.Demand3.{Aligned}

-- A block has n bits, of which each d-th, from the first on, is no data bit: n and d are 2,048 and 512 on E1, 4,632 and 193
-- on T1.

-- its bit i is a data bit
abbrev pub is_data : ℕ → ℕ → Bool
is_data d i = not (eqb (i % d) 0)

-- t is s with two data bits turned over, i and j of the block at q, and with nothing else changed
pub record HitTwice (n d : ℕ) (s t : List ℕ) (q i j : ℕ) : Type 0 where
  pub two : i ≢ j
  pub i_in : i < n
  pub j_in : j < n
  pub i_data : is_data d i ≡ true
  pub j_data : is_data d j ≡ true
  pub i_hit : bit_at s (q + i) ≢ bit_at t (q + i)
  pub j_hit : bit_at s (q + j) ≢ bit_at t (q + j)
  pub others : (p : ℕ) → p ≢ q + i → p ≢ q + j → bit_at s p ≡ bit_at t p

-- how many pairs of its data bits have a distance that passes the test
unfoldable pub data_pairs : ℕ → ℕ → (ℕ → Bool) → ℕ
data_pairs n d t = sum n (λ j. count j (λ i. is_data d i && (is_data d j && t (distance i j))))

pub record TwoHits : Type 0 where
  -- Take an aligned image of n multiframes, and a block b of it that is not the last and agrees. Turn over two of its data
  -- bits, and nothing else. The block disagrees exactly if their distance is no multiple of 15,
  pub seen : (n : ℕ) (s t : List ℕ) → Aligned s n → Aligned t n → (b i j : ℕ) → b + 1 < 2 * n → Agrees s 0 b
      → HitTwice 2048 512 s t (2048 * b) i j
      → (¬ Agrees t 0 b) ↔ (distance i j % 15 ≢ 0)
  -- since its check changes by the sum of their shares.
  pub shares : (s t : List ℕ) (q i j : ℕ) → HitTwice 2048 512 s t q i j
      → bit_xor (block_check s q) (block_check t q) ≡ bit_xor (share 4 (2047 - i)) (share 4 (2047 - j))
  -- With both in the last block, each block before it agrees exactly if it did.
  pub last : (n : ℕ) (s t : List ℕ) → Aligned s n → Aligned t n → (i j : ℕ) → HitTwice 2048 512 s t (2048 * (2 * n - 1)) i j
      → (b : ℕ) → b + 1 < 2 * n → Agrees s 0 b ↔ Agrees t 0 b
  -- `read` counts one errored block more or none, by the same rule, as long as start and used stay;
  pub read : (s payload slot0 : List ℕ) (r : Reading) (payload' slot0' : List ℕ)
      → Read s payload slot0 r payload' slot0' → r.number ≡ 0
      → (t payload-t slot0-t : List ℕ) (r' : Reading) (payload-t' slot0-t' : List ℕ)
      → Read t payload-t slot0-t r' payload-t' slot0-t' → r'.number ≡ 0
      → r'.start ≡ r.start → r'.used ≡ r.used
      → (b i j : ℕ) → b < r.compared → Agrees s r.start b → HitTwice 2048 512 s t (r.start + 2048 * b) i j
      → r'.errored ≡ r.errored + (if eqb (distance i j % 15) 0 then 0 else 1)
  -- with both behind the compared blocks it counts as many.
  pub read_last : (s payload slot0 : List ℕ) (r : Reading) (payload' slot0' : List ℕ)
      → Read s payload slot0 r payload' slot0' → r.number ≡ 0
      → (t payload-t slot0-t : List ℕ) (r' : Reading) (payload-t' slot0-t' : List ℕ)
      → Read t payload-t slot0-t r' payload-t' slot0-t' → r'.number ≡ 0
      → r'.start ≡ r.start → r'.used ≡ r.used
      → (b i j : ℕ) → r.compared ≤ b → HitTwice 2048 512 s t (r.start + 2048 * b) i j
      → r'.errored ≡ r.errored
  -- A block has so many pairs of data bits, and so many a multiple of 15 apart, which by `seen` go unseen.
  pub all_pairs : data_pairs 2048 512 (λ m. true) ≡ 2087946
  pub hidden_pairs : data_pairs 2048 512 (λ m. eqb (m % 15) 0) ≡ 138244
