-- The loss, as KIT §5 says it (G.706, 4.1.1).
use Rattle.std.specs.Prelude.{ℕ, ◌+◌, ◌-◌, ◌*◌, ◌%◌, ◌≤◌, ◌<◌, ◌≡◌, List, ◌⊎◌, ◌≢◌}
use Rattle.line.specs.Bit.{bit_at, field}
use Rattle.e1.specs.Frame.{frame_at}

-- frame f and the two before it of its kind, even or odd, have P
pub record ThirdInRow (P : ℕ → Type 0) (f : ℕ) : Type 0 where
  pub enough : 4 ≤ f
  pub one : P (f - 4)
  pub two : P (f - 2)
  pub three : P f

-- by words: f is even, and the third in a row whose word is not 0011011
pub record LostByWords (s : List ℕ) (q f : ℕ) : Type 0 where
  pub even : f % 2 ≡ 0
  pub wrong : ThirdInRow (λ g. field s (frame_at q g + 1) 7 ≢ 27) f

-- by bits 2: f is odd, and the third in a row whose bit 2 is 0
pub record LostByBits2 (s : List ℕ) (q f : ℕ) : Type 0 where
  pub odd : f % 2 ≡ 1
  pub wrong : ThirdInRow (λ g. bit_at s (frame_at q g + 1) ≡ 0) f

abbrev pub LostBy : List ℕ → ℕ → ℕ → Type 0
LostBy s q f = LostByWords s q f ⊎ LostByBits2 s q f

-- the first frame that is lost by either, among those of m multiframes
pub record Loss (s : List ℕ) (q m f : ℕ) : Type 0 where
  pub here : LostBy s q f
  pub among : f < 16 * m
  pub before : (g : ℕ) → g < f → LostBy s q g → ⊥
