-- What drawing leans on: a reading that was not refused, of a line of so many octets.
use Rattle.std.specs.Prelude.{ℕ, ◌+◌, ◌*◌, ◌≤◌, ◌≡◌}
use Rattle.measure.specs.Reading.{compared}
use Rattle.read.specs.declared.Reading.{Reading}

pub record Shown (octets : ℕ) (r : Reading) : Type 0 where
  pub long : 2048 ≤ octets
  pub short : octets ≤ 8192
  pub found : r.place ≤ r.start
  pub fits : r.start + 4096 * r.whole ≤ 8 * octets
  pub before_loss : r.used ≤ r.whole
  pub all_but_last : r.compared ≡ compared r.used
