-- Demand 3 of T1 (KIT §15): what a hit can do unseen, with six bits for four. Over the check itself, never over what
-- judges a superframe.
use Rattle.std.specs.Prelude.{if◌then◌else◌, ℕ, ◌+◌, ◌-◌, ◌*◌, ◌%◌, ◌≤◌, ◌<◌, ◌≡◌, List, ◌≢◌, ◌⊎◌, eqb, length}
use Rattle.base.specs.Tab.{tab}
use Rattle.line.specs.Bit.{bit_at}
use Rattle.t1.specs.Superframe.{carried, super_check}
use Rattle.t1read.specs.Entry.{Read}
use Rattle.t1read.specs.Answer.{Reading}
use Rattle.claims.specs.Demand3.{OnlyWithin}

-- an aligned image of n whole superframes, n at least 1
pub record AlignedT1 (s : List ℕ) (n : ℕ) : Type 0 where
  pub some : 1 ≤ n
  pub whole : length s ≡ 579 * n

-- every superframe but the last agrees with the check carried in the next
abbrev pub AgreeingT1 : List ℕ → ℕ → Type 0
AgreeingT1 s n = (b : ℕ) → b + 1 < n → super_check s (4632 * b) ≡ carried s (4632 * b + 4632)

-- a check bit of the first superframe
abbrev pub CheckOfFirstT1 : ℕ → Type 0
CheckOfFirstT1 p = (p < 4632) × (p % 772 ≡ 193)

-- a data bit of the last of n superframes
abbrev pub DataOfLastT1 : ℕ → ℕ → Type 0
DataOfLastT1 n p = (4632 * (n - 1) ≤ p) × (p < 4632 * n) × (p % 193 ≢ 0)

-- a framing bit of one of n superframes that carries no check
abbrev pub OtherFraming : ℕ → ℕ → Type 0
OtherFraming n p = (p < 4632 * n) × (p % 193 ≡ 0) × (p % 772 ≢ 193)

-- what differs within six bits is one of these
abbrev pub OnlyThereT1 : ℕ → List ℕ → List ℕ → Type 0
OnlyThereT1 n s t = (a : ℕ) → OnlyWithin 6 a s t → (p : ℕ) → bit_at s p ≢ bit_at t p
    → CheckOfFirstT1 p ⊎ (DataOfLastT1 n p ⊎ OtherFraming n p)

-- an image of n superframes that `read` takes from bit 0 and finds without an errored one
pub record ReadCleanT1 (s : List ℕ) (n : ℕ) : Type 0 where
  pub payload : List ℕ
  pub link : List ℕ
  pub r : Reading
  pub payload' : List ℕ
  pub link' : List ℕ
  pub reads : Read s payload link r payload' link'
  pub number : r.number ≡ 0
  pub place : r.place ≡ 0
  pub whole : r.whole ≡ n
  pub errored : r.errored ≡ 0

-- two images of n superframes that agree as above and differ within w bits from a on, the bit p among them
pub record UnseenT1 (n w a : ℕ) (s t : List ℕ) (p : ℕ) : Type 0 where
  pub s_aligned : AlignedT1 s n
  pub t_aligned : AlignedT1 t n
  pub s_agrees : AgreeingT1 s n
  pub t_agrees : AgreeingT1 t n
  pub only : OnlyWithin w a s t
  pub differs : bit_at s p ≢ bit_at t p

-- octet j of two superframes of 00, the second carrying the check 000010 of the first (C5 is bit 1 of octet 989); but octet
-- i is x
abbrev pub idle_octet : ℕ → ℕ → ℕ → ℕ
idle_octet i x j = if eqb j i then x else if eqb j 989 then 64 else 0

abbrev pub idle_but : ℕ → ℕ → List ℕ
idle_but i x = tab 1158 (idle_octet i x)

pub record T1Demand3 : Type 0 where
  pub burst : (n : ℕ) (s t : List ℕ) → AlignedT1 s n → AlignedT1 t n → AgreeingT1 s n → AgreeingT1 t n → OnlyThereT1 n s t
  -- the same of two images as `read` answers of them
  pub read : (n : ℕ) (s t : List ℕ) → AlignedT1 s n → AlignedT1 t n → ReadCleanT1 s n → ReadCleanT1 t n → OnlyThereT1 n s t
  -- all three do occur: C1 of the first superframe, the last bit of the last, the first bit of the data link
  pub at_check_bit : UnseenT1 2 6 193 (idle_but 0 0) (idle_but 24 64) 193
  pub at_data_bit : UnseenT1 2 6 9263 (idle_but 0 0) (idle_but 1157 1) 9263
  pub at_link_bit : UnseenT1 2 6 0 (idle_but 0 0) (idle_but 0 128) 0
  -- and seven bits can hide: 1000011 over the last bits of a first superframe leaves its check as it was
  pub seven_can_hide : UnseenT1 2 7 4625 (idle_but 0 0) (idle_but 578 67) 4625
