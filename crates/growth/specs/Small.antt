-- For private functions alone. Lines whose numbers can still be added to.
use Rattle.std.specs.Prelude.{ℕ, ◌*◌, ◌≤◌}
use Rattle.align.specs.Place.{start_of}
use Rattle.growth.specs.declared.Line.{Line}

-- they are n at most, but for those that count bits and frames
pub record Small (c : Line) (n : ℕ) : Type 0 where
  pub before : c.before ≤ n
  pub start : start_of c.found ≤ 1024 * n
  pub used : c.used ≤ n
  pub lost : c.lost ≤ 1024 * n
  pub words : c.words ≤ n
  pub errored : c.errored ≤ n
  pub farend : c.farend ≤ n
  pub wordbits : c.wordbits ≤ n
