-- Demand 3: what a hit can do unseen (KIT §11). Over the check itself, never over what judges a block.
use Rattle.std.specs.Prelude.{if◌then◌else◌, ℕ, ◌+◌, ◌-◌, ◌*◌, ◌%◌, ◌≤◌, ◌<◌, ◌≡◌, List, ◌≢◌, ◌⊎◌, eqb, length}
use Rattle.base.specs.Tab.{tab}
use Rattle.line.specs.Bit.{bit_at}
use Rattle.e1.specs.Block.{block_check, carried}
use Rattle.read.specs.Entry.{Read}
use Rattle.read.specs.Answer.{Reading}

-- an aligned image of n whole multiframes, n at least 1: no bit before the start, none behind the last
pub record Aligned (s : List ℕ) (n : ℕ) : Type 0 where
  pub some : 1 ≤ n
  pub whole : length s ≡ 512 * n

-- every block but the last agrees with the check carried in the next
abbrev pub Agreeing : List ℕ → ℕ → Type 0
Agreeing s n = (b : ℕ) → b + 1 < 2 * n → block_check s (2048 * b) ≡ carried s (2048 * b + 2048)

-- two images differ only inside the w consecutive line bits from a on
abbrev pub OnlyWithin : ℕ → ℕ → List ℕ → List ℕ → Type 0
OnlyWithin w a s t = (p : ℕ) → bit_at s p ≢ bit_at t p → (a ≤ p) × (p < a + w)

-- a check bit of the first block
abbrev pub CheckOfFirst : ℕ → Type 0
CheckOfFirst p = (p < 2048) × (p % 512 ≡ 0)

-- a data bit of the last of 2n blocks
abbrev pub DataOfLast : ℕ → ℕ → Type 0
DataOfLast n p = (2048 * (2 * n - 1) ≤ p) × (p < 4096 * n) × (p % 512 ≢ 0)

-- what differs within four bits is a check bit of the first block or a data bit of the last
abbrev pub OnlyThere : ℕ → List ℕ → List ℕ → Type 0
OnlyThere n s t = (a : ℕ) → OnlyWithin 4 a s t → (p : ℕ) → bit_at s p ≢ bit_at t p → CheckOfFirst p ⊎ DataOfLast n p

-- an image of n multiframes that `read` takes whole from bit 0 and finds without an errored block
pub record ReadClean (s : List ℕ) (n : ℕ) : Type 0 where
  pub payload : List ℕ
  pub slot0 : List ℕ
  pub r : Reading
  pub payload' : List ℕ
  pub slot0' : List ℕ
  pub reads : Read s payload slot0 r payload' slot0'
  pub number : r.number ≡ 0
  pub start : r.start ≡ 0
  pub used : r.used ≡ n
  pub errored : r.errored ≡ 0

-- two images of one multiframe that agree as above and differ within w bits from a on, the bit p among them
pub record Unseen (w a : ℕ) (s t : List ℕ) (p : ℕ) : Type 0 where
  pub s_aligned : Aligned s 1
  pub t_aligned : Aligned t 1
  pub s_agrees : Agreeing s 1
  pub t_agrees : Agreeing t 1
  pub only : OnlyWithin w a s t
  pub differs : bit_at s p ≢ bit_at t p

-- a multiframe of zeros, but for octet i, which is x
abbrev pub zeros_but : ℕ → ℕ → List ℕ
zeros_but i x = tab 512 (λ j. if eqb j i then x else 0)

pub record Demand3 : Type 0 where
  pub burst : (n : ℕ) (s t : List ℕ) → Aligned s n → Aligned t n → Agreeing s n → Agreeing t n → OnlyThere n s t
  -- the same of two images as `read` answers of them
  pub read : (n : ℕ) (s t : List ℕ) → Aligned s n → Aligned t n → ReadClean s n → ReadClean t n → OnlyThere n s t
  -- both do occur: C1 of the first block, and the last bit of the last
  pub at_check_bit : Unseen 4 0 (zeros_but 0 0) (zeros_but 0 128) 0
  pub at_data_bit : Unseen 4 4095 (zeros_but 0 0) (zeros_but 511 1) 4095
  -- and five bits can hide: 10011 over the last bits of a first block leaves its check as it was
  pub five_can_hide : Unseen 5 2043 (zeros_but 0 0) (zeros_but 255 19) 2043
