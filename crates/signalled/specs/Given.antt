-- For private functions alone. The signalling that an accepted call is given.
use Rattle.std.specs.Prelude.{ℕ, ◌*◌, ◌≤◌, ◌<◌, List, ◌≡◌, length, get_or}

-- n octets, each from low to 15
pub record Nibbles (low n : ℕ) (l : List ℕ) : Type 0 where
  pub long : length l ≡ n
  pub least : (i : ℕ) → i < n → low ≤ get_or l i 0
  pub most : (i : ℕ) → get_or l i 0 ≤ 15

pub record Given (xy v : List ℕ) (n : ℕ) : Type 0 where
  pub its_xy : Nibbles 0 n xy
  pub its_abcd : Nibbles 1 (30 * n) v
