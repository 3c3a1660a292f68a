-- What is drawn beside a block.
use Rattle.std.specs.Prelude.{if◌then◌else◌, ℕ, List, ltb}
use Rattle.measure.specs.Reading.{agrees_in}
use Rattle.drawing.specs.declared.multiframes.Mark.{Mark}
use Rattle.drawing.specs.declared.multiframes.Mark.TheVariants.{Clean, Errored, NotCompared}

-- block b from q on, of which the first n are compared
unfoldable pub mark_of : List ℕ → ℕ → ℕ → ℕ → Mark
mark_of s q n b = if ltb b n then (if agrees_in s q b then Clean else Errored) else NotCompared
