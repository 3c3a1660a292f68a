-- Which inputs each entry accepts, both ways (KIT §8).
use Rattle.std.specs.Prelude.{ℕ, ◌+◌, ◌*◌, ◌≤◌, ◌<◌, ◌≡◌, true, false, List, ◌↔◌, ◌⊎◌, length, get_or}
use Rattle.align.specs.Place.{place_of}
use Rattle.align.specs.Stands.{Stands}
use Rattle.align.specs.Why.{why_refusal}
use Rattle.align.specs.declared.Found.TheVariants.{At}
use Rattle.read.specs.Entry.{GoodLength, used_in}
use Rattle.read.specs.Entry as reads
use Rattle.stream.specs.Entry.{octets_came, grown_of, feed_refusal, end_refusal}
use Rattle.stream.specs.declared.Stream.{Stream}
use Rattle.write.specs.Entry.{overhead_limit}
use Rattle.write.specs.Entry as writes
use Rattle.e1.specs.Payload.{multiframes}
use Rattle.signals.specs.Entry.{slot16_in, filled}
use Rattle.signals.specs.Entry as signals
use Rattle.signalled.specs.Entry as signalled
use Rattle.exchange.specs.declared.State.{State}
use Rattle.exchange.specs.Mapping.{map_refusal}
use Rattle.exchange.specs.Machine.{kind_of, a_of, b_of, host_refusal, key_refusal}
use Rattle.t1read.specs.Entry as t1reads
use Rattle.t1write.specs.Entry as t1writes
use Rattle.claims.specs.T1Accepts.{ToReadT1, ToWriteT1, ToSignalT1}

-- an image s, with a and b octets of room in the two outputs
pub record ToRead (s : List ℕ) (a b : ℕ) : Type 0 where
  pub good : GoodLength s
  pub p : ℕ
  pub k : ℕ
  pub stands : Stands s p k
  pub payload : 496 * used_in s ≤ a
  pub slot0 : 16 * used_in s ≤ b

-- a stream that has not ended and is believed: its window has 2,048 octets at most, and no number is over 134,217,728
pub record Going (st : Stream) : Type 0 where
  pub not_ended : st.ended ≡ false
  pub fill : st.fill ≤ 2048
  pub before : st.line.before ≤ 134217728
  pub place : place_of st.line.found ≤ 134217728
  pub k : (p k : ℕ) → st.line.found ≡ At p k → k ≤ 134217728
  pub used : st.line.used ≤ 134217728
  pub lost : st.line.lost ≤ 134217728
  pub words : st.line.words ≤ 134217728
  pub errored : st.line.errored ≤ 134217728
  pub farend : st.line.farend ≤ 134217728
  pub wordbits : st.line.wordbits ≤ 134217728

-- a chunk t to a stream with its window, with a and b octets of room in the two outputs
pub record ToFeed (st : Stream) (window t : List ℕ) (a b : ℕ) : Type 0 where
  pub going : Going st
  pub sized : length window ≡ 2048
  pub limit : octets_came st + length t ≤ 16777216
  pub payload : 496 * (grown_of st window t).multiframes ≤ a
  pub slot0 : 16 * (grown_of st window t).multiframes ≤ b

-- a stream that is to end
pub record ToEnd (st : Stream) : Type 0 where
  pub going : Going st
  pub long : 2048 ≤ octets_came st
  pub p : ℕ
  pub k : ℕ
  pub stands : st.line.found ≡ At p k

-- an image s, with a octets of room in the output
pub record ToHear (s : List ℕ) (a : ℕ) : Type 0 where
  pub good : GoodLength s
  pub p : ℕ
  pub k : ℕ
  pub stands : Stands s p k
  pub room : filled (slot16_in s) ≤ a

-- an image s, and a place p of it that is asked about
pub record ToAsk (s : List ℕ) (p : ℕ) : Type 0 where
  pub good : GoodLength s
  pub room : p + 16384 ≤ 8 * length s

-- a payload p, an overhead o and a check c, with m octets of room
pub record ToWrite (p o : List ℕ) (c m : ℕ) : Type 0 where
  pub n : ℕ
  pub least : 1 ≤ n
  pub most : n ≤ 16
  pub payload : length p ≡ 496 * n
  pub overhead : length o ≡ 8 * n
  pub limited : (h : ℕ) → h < 8 * n → get_or o h 0 < overhead_limit h
  pub check : c ≤ 15
  pub room : 512 * n ≤ m

-- the same, with signalling xy and v
pub record ToSignal (p o : List ℕ) (c : ℕ) (xy v : List ℕ) (m : ℕ) : Type 0 where
  pub written : ToWrite p o c m
  pub xy_octets : length xy ≡ multiframes p
  pub xy_limited : (i : ℕ) → i < multiframes p → get_or xy i 0 ≤ 15
  pub abcd_octets : length v ≡ 30 * multiframes p
  pub abcd_limited : (i : ℕ) → i < 30 * multiframes p → (1 ≤ get_or v i 0) × (get_or v i 0 ≤ 15)

-- a record r, in the state s
pub record ToHost (s : State) (r : List ℕ) : Type 0 where
  pub four : length r ≡ 4
  pub least : 1 ≤ kind_of r
  pub most : kind_of r ≤ 4
  pub slot : (kind_of r ≡ 1) ⊎ (kind_of r ≡ 3) → (1 ≤ a_of r) × (a_of r ≤ 31)
  pub entry : kind_of r ≡ 1 → b_of r ≤ 31
  pub unlocked : (kind_of r ≡ 3 → ⊥) → s.flag ≡ true
  pub staged : (kind_of r ≡ 2) ⊎ (kind_of r ≡ 4) → s.staging ≡ true

-- a payload and an output
pub record ToMap (payload out : List ℕ) : Type 0 where
  pub n : ℕ
  pub least : 1 ≤ n
  pub most : n ≤ 16
  pub sized : length payload ≡ 496 * n
  pub room : length payload ≤ length out

-- the number is 0 exactly for these; a boundary is never refused
pub record Accepts : Type 0 where
  pub read : (s : List ℕ) (a b : ℕ) → reads.refusal s a b ≡ 0 ↔ ToRead s a b
  pub feed : (st : Stream) (window t : List ℕ) (a b : ℕ) → feed_refusal st window t a b ≡ 0 ↔ ToFeed st window t a b
  pub end : (st : Stream) → end_refusal st ≡ 0 ↔ ToEnd st
  pub signals : (s : List ℕ) (a : ℕ) → signals.refusal s a ≡ 0 ↔ ToHear s a
  pub why : (s : List ℕ) (p : ℕ) → why_refusal s p ≡ 0 ↔ ToAsk s p
  pub write : (p o : List ℕ) (c m : ℕ) → writes.refusal p o c m ≡ 0 ↔ ToWrite p o c m
  pub write_signalled : (p o : List ℕ) (c : ℕ) (xy v : List ℕ) (m : ℕ)
      → signalled.refusal p o c xy v m ≡ 0 ↔ ToSignal p o c xy v m
  pub host : (s : State) (r : List ℕ) → host_refusal s r ≡ 0 ↔ ToHost s r
  pub key : (position : ℕ) → key_refusal position ≡ 0 ↔ (position ≡ 0) ⊎ (position ≡ 1)
  pub map : (payload out : List ℕ) → map_refusal payload out ≡ 0 ↔ ToMap payload out
  pub t1_read : (s : List ℕ) (a b : ℕ) → t1reads.refusal s a b ≡ 0 ↔ ToReadT1 s a b
  pub t1_write : (p l : List ℕ) (c m : ℕ) → t1writes.refusal p l c m ≡ 0 ↔ ToWriteT1 p l c m
  pub t1_write_signalled : (p l : List ℕ) (c : ℕ) (g : List ℕ) (m : ℕ)
      → t1writes.signalled_refusal p l c g m ≡ 0 ↔ ToSignalT1 p l c g m
