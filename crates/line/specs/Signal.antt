-- The signal by which a receiver finds E1's multiframes (KIT §2) and T1's superframes (KIT §15).
use Rattle.std.specs.Prelude.{ℕ, List, [], ◌∷◌}

abbrev pub signal : List ℕ
signal = 0 ∷ 0 ∷ 1 ∷ 0 ∷ 1 ∷ 1 ∷ []
