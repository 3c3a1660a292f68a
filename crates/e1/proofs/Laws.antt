-- The laws of the payload's order and of blocks that the crates above cite.
use Prim.Native.Nat.{ℕ, ◌+◌, ◌*◌, ◌≤◌, ◌<◌}
use mathlib.Core.Path.{◌≡◌}
use mathlib.Core.List.{List}
use native.Mathlib.Nat.{add-zero}
use native.Mathlib.Omega.{arith}
use lib.Dec.{lit<, lit≤}
use lib.ListN.{length, get_or}
use Rattle.line.specs.Bit.{bit_at}
use Rattle.line.proofs.BitLaws.{bit_lt}
use Rattle.line.specs.Spelt.{spelt}
use Rattle.line.proofs.SpeltLaws.{Binary}
use Rattle.crc.specs.Remainder.{Bits}
use Rattle.crc.proofs.StripedLaws as striped
use Rattle.e1.specs.Block.{block_bits, carried, block_check}
use Rattle.e1.specs.Payload.{index_of, frame_of, slot_of}
use Rattle.crc.proofs.Laws.{check_lt}

-- the payload's order, there and back
pub frame_of_index : (f j : ℕ) → 1 ≤ j → j ≤ 31 → frame_of (index_of f j) ≡ f
frame_of_index f j h k = omega arith

pub slot_of_index : (f j : ℕ) → 1 ≤ j → j ≤ 31 → slot_of (index_of f j) ≡ j
slot_of_index f j h k = omega arith

pub index_of_lem : (i : ℕ) → index_of (frame_of i) (slot_of i) ≡ i
index_of_lem i = omega arith

-- a block's bits
block_bits_lt : (s : List ℕ) (q : ℕ) → Binary (λ i. bit_at s (q + i))
block_bits_lt s q i = bit_lt s (q + i)

pub block_length : (s : List ℕ) (q : ℕ) → length (block_bits s q) ≡ 2048
block_length s q = striped.striped_length 512 0 2048 (λ i. bit_at s (q + i))

pub block_bits_lem : (s : List ℕ) (q : ℕ) → Bits (block_bits s q)
block_bits_lem s q = striped.striped_bits 512 0 2048 (lit< tt) (λ i. bit_at s (q + i)) (block_bits_lt s q)

-- blocks whose bits are the same where one is
pub block_same : (s t : List ℕ) (q i : ℕ) → bit_at s (q + i) ≡ bit_at t (q + i)
    → get_or (block_bits s q) i 0 ≡ get_or (block_bits t q) i 0
block_same s t q i e = striped.striped_same 512 0 2048 (λ i. bit_at s (q + i)) (λ i. bit_at t (q + i)) i e

-- C1 to C4 one by one
pub carried_four : (s : List ℕ) (q : ℕ)
    → carried s q ≡ 8 * bit_at s q + 4 * bit_at s (q + 512) + 2 * bit_at s (q + 1024) + bit_at s (q + 1536)
unfolding carried spelt
carried_four s q = rw (add-zero q) (omega arith)

-- a check is four bits
pub block_check_lt : (s : List ℕ) (q : ℕ) → block_check s q < 16
unfolding block_check
block_check_lt s q = check_lt 4 (lit≤ tt) (block_bits s q) (block_bits_lem s q)
