-- Which inputs the entries of T1 accept (KIT §15).
use Rattle.std.specs.Prelude.{ℕ, ◌*◌, ◌≤◌, ◌<◌, ◌≡◌, List, length, get_or}
use Rattle.t1.specs.Payload.{superframes}
use Rattle.t1align.specs.Stands.{Stands}
use Rattle.t1read.specs.Entry.{GoodLength, whole_in}

-- an image s, with a and b octets of room in the two outputs
pub record ToReadT1 (s : List ℕ) (a b : ℕ) : Type 0 where
  pub good : GoodLength s
  pub p : ℕ
  pub stands : Stands s p
  pub payload : 576 * whole_in s ≤ a
  pub link : 12 * whole_in s ≤ b

-- a payload p, a data link l and a check c, with m octets of room
pub record ToWriteT1 (p l : List ℕ) (c m : ℕ) : Type 0 where
  pub n : ℕ
  pub least : 1 ≤ n
  pub most : n ≤ 14
  pub payload : length p ≡ 576 * n
  pub link : length l ≡ 12 * n
  pub link_limited : (i : ℕ) → i < 12 * n → get_or l i 0 ≤ 1
  pub check : c ≤ 63
  pub room : 579 * n ≤ m

-- the same, with signalling g
pub record ToSignalT1 (p l : List ℕ) (c : ℕ) (g : List ℕ) (m : ℕ) : Type 0 where
  pub written : ToWriteT1 p l c m
  pub signals : length g ≡ 96 * superframes p
  pub signals_limited : (i : ℕ) → i < 96 * superframes p → get_or g i 0 ≤ 1
