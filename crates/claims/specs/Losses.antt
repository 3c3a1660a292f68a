-- The loss of alignment, by words or by bits 2 (KIT §5 and §11).
use Rattle.std.specs.Prelude.{ℕ, ◌+◌, ◌*◌, ◌≤◌, ◌<◌, ◌≡◌, List, ◌↔◌}
use Rattle.line.specs.Bit.{bit_at}
use Rattle.e1.specs.Frame.{frame_at}
use Rattle.measure.specs.Reading.{word_loss, lost_at, cause_of, used_of}
use Rattle.measure.specs.Loss.{LostByWords, LostByBits2, LostBy, Loss}
use Rattle.read.specs.Entry.{Read}
use Rattle.read.specs.Answer.{Reading}

-- what is answered is by words alone, as though no bit 2 were looked at
pub record ByWordsAlone (s : List ℕ) (r : Reading) : Type 0 where
  pub lost : r.lost ≡ lost_at (word_loss s r.start r.whole)
  pub used : r.used ≡ used_of (word_loss s r.start r.whole) r.whole
  pub cause : r.cause ≡ cause_of (word_loss s r.start r.whole)

pub record Losses : Type 0 where
  -- the frame that is answered is the first that is lost by either rule
  pub lost : (s payload slot0 : List ℕ) (r : Reading) (payload' slot0' : List ℕ)
      → Read s payload slot0 r payload' slot0' → r.number ≡ 0
      → (f : ℕ) → 0 < f → r.lost ≡ f ↔ Loss s r.start r.whole f
  -- and 0 is answered exactly where none is: neither by words nor by bits 2 are there three in a row
  pub not_lost : (s payload slot0 : List ℕ) (r : Reading) (payload' slot0' : List ℕ)
      → Read s payload slot0 r payload' slot0' → r.number ≡ 0
      → r.lost ≡ 0 ↔ ((f : ℕ) → f < 16 * r.whole → LostBy s r.start f → ⊥)
  -- the cause is the rule by which that frame is lost
  pub cause_words : (s payload slot0 : List ℕ) (r : Reading) (payload' slot0' : List ℕ)
      → Read s payload slot0 r payload' slot0' → r.number ≡ 0 → r.cause ≡ 1 ↔ LostByWords s r.start r.lost
  pub cause_bits2 : (s payload slot0 : List ℕ) (r : Reading) (payload' slot0' : List ℕ)
      → Read s payload slot0 r payload' slot0' → r.number ≡ 0 → r.cause ≡ 2 ↔ LostByBits2 s r.start r.lost
  pub no_cause : (s payload slot0 : List ℕ) (r : Reading) (payload' slot0' : List ℕ)
      → Read s payload slot0 r payload' slot0' → r.number ≡ 0 → r.cause ≡ 0 ↔ r.lost ≡ 0
  -- no frame is lost by both
  pub never_both : (s : List ℕ) (q f : ℕ) → LostByWords s q f → LostByBits2 s q f → ⊥
  -- G is the multiframe that holds the frame, and M where there is none
  pub held : (s payload slot0 : List ℕ) (r : Reading) (payload' slot0' : List ℕ)
      → Read s payload slot0 r payload' slot0' → r.number ≡ 0
      → 0 < r.lost → (16 * r.used ≤ r.lost) × (r.lost < 16 * r.used + 16)
  pub all_used : (s payload slot0 : List ℕ) (r : Reading) (payload' slot0' : List ℕ)
      → Read s payload slot0 r payload' slot0' → r.number ≡ 0 → r.lost ≡ 0 → r.used ≡ r.whole
  -- where no bit 2 is wrong, all is as the words alone make it
  pub words_alone : (s payload slot0 : List ℕ) (r : Reading) (payload' slot0' : List ℕ)
      → Read s payload slot0 r payload' slot0' → r.number ≡ 0
      → ((i : ℕ) → i < 8 * r.whole → bit_at s (frame_at r.start (2 * i + 1) + 1) ≡ 1) → ByWordsAlone s r
