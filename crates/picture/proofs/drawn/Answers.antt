-- `drawn` is safe: what it draws is a reading.
use Rattle.drawing.proofs.Shows.{shows}
use Rattle.picture.proofs.drawn.Goals as goal

pub line-requires : goal.line-requires
line-requires g c = shows _ _ _ _ _ _ c.in_ok-r.ensures
