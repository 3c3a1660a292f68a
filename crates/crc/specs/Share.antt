-- Shares (KIT §3): what single bits add to the check of their block.
use Rattle.std.specs.Prelude.{ℕ, ◌+◌, ◌-◌, ◌∷◌}
use Rattle.crc.specs.Remainder.{zeros, check}

-- what a 1 with k bits behind it adds: the check of that 1 and k zeros
unfoldable pub share : ℕ → ℕ → ℕ
share w k = check w (1 ∷ zeros k)

-- how far apart two bits lie
abbrev pub distance : ℕ → ℕ → ℕ
distance i j = (i - j) + (j - i)
