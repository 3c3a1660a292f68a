-- For private functions alone. How far the counts of `watch` go on in a turn, so that none wraps.
use Rattle.std.specs.Prelude.{ℕ, ◌+◌, ◌≤◌}
use Rattle.heard.specs.Hearing.{Few}
use Rattle.heard.specs.declared.Hearing.{Hearing}
use Rattle.watch.specs.declared.Watched.{Watched}

-- from h to h' no count gains more than n
abbrev pub Adds : ℕ → Hearing → Hearing → Type 0
Adds n h h' = (k : ℕ) → Few h k → Few h' (k + n)

-- what a chunk of 4,096 octets can add
pub record Goes (w w' : Watched) : Type 0 where
  pub came : w'.came ≤ w.came + 4096
  pub heard : Adds 192 w.heard.now w'.heard.now
