-- What each answer of `why` says of a place with room, as KIT §4 says it. What is worked out in Why is proved to be
-- this, both ways.
use Rattle.std.specs.Prelude.{ℕ, ◌+◌, ◌<◌, ◌≡◌, List, ◌≢◌, get_or}
use Rattle.line.specs.Bit.{bit_at, field}
use Rattle.e1.specs.Frame.{alignment}
use Rattle.align.specs.Stands.{Basic, Pair, Stands}
use Rattle.align.specs.declared.Why.{Why}
use Rattle.align.specs.declared.Why.TheVariants.{NoneFails, FirstWord, Bit2, SecondWord, NoPair}

-- the word in the frame at q is wrong, and b is the place of its first wrong bit
pub record FirstWrong (s : List ℕ) (q b : ℕ) : Type 0 where
  pub i : ℕ
  pub of_seven : i < 7
  pub place : b ≡ q + 1 + i
  pub before : (j : ℕ) → j < i → bit_at s (q + 1 + j) ≡ get_or alignment j 0
  pub wrong : bit_at s (q + 1 + i) ≢ get_or alignment i 0

unfoldable pub Says : List ℕ → ℕ → Why → Type 0
Says s p (NoneFails k) = Stands s p k
Says s p (FirstWord b) = FirstWrong s p b
Says s p Bit2 = (field s (p + 1) 7 ≡ 27) × (bit_at s (p + 257) ≡ 0)
Says s p (SecondWord b) = (field s (p + 1) 7 ≡ 27) × (bit_at s (p + 257) ≡ 1) × FirstWrong s (p + 512) b
Says s p NoPair = Basic s p × ((k : ℕ) → Pair s p k → ⊥)
