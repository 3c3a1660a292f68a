-- For private functions alone, and for `write_all`, which `signalled` calls. What an accepted call is given, and a
-- block of it.
use Rattle.std.specs.Prelude.{ℕ, ◌+◌, ◌*◌, ◌<◌, ◌≤◌, List, ◌≡◌, length, get_or}
use Rattle.write.specs.Entry.{overhead_limit}

-- the payload p and the overhead o of n multiframes, no bit of the overhead set that must be 0, and a check c
pub record Inputs (p o : List ℕ) (c n : ℕ) : Type 0 where
  pub payload_length : length p ≡ 496 * n
  pub overhead_length : length o ≡ 8 * n
  pub limited : (h : ℕ) → get_or o h 0 < overhead_limit h
  pub four_bits : c < 16

-- what block b is given of them, the check k being that of the block before it
pub record BlockInputs (p o : List ℕ) (k b : ℕ) : Type 0 where
  pub payload_length : 248 * b + 248 ≤ length p
  pub overhead_length : 4 * b + 4 ≤ length o
  pub limited : (h : ℕ) → get_or o h 0 < overhead_limit h
  pub four_bits : k < 16
