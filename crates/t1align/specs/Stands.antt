-- Which place stands, as KIT §15 says it. What is worked out in Place is proved to be this, both ways.
use Rattle.std.specs.Prelude.{ℕ, ◌+◌, ◌*◌, ◌≤◌, ◌<◌, ◌≡◌, List, length, get_or}
use Rattle.line.specs.Bit.{bit_at}
use Rattle.line.specs.Signal.{signal}
use Rattle.t1.specs.Superframe.{framing_at, super_check, carried}

-- the signal is in the superframe at q
abbrev pub Framed : List ℕ → ℕ → Type 0
Framed s q = (i : ℕ) → i < 6 → bit_at s (framing_at q (4 * i + 3)) ≡ get_or signal i 0

-- the place p stands
pub record Stands (s : List ℕ) (p : ℕ) : Type 0 where
  pub room : p + 9264 ≤ 8 * length s
  pub first : Framed s p
  pub second : Framed s (p + 4632)
  pub agreement : super_check s p ≡ carried s (p + 4632)

-- and no place before it stands
pub record StandsFirst (s : List ℕ) (p : ℕ) : Type 0 where
  pub stands : Stands s p
  pub before : (q : ℕ) → q < p → Stands s q → ⊥
