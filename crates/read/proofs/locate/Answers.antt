use mathlib.Core.Path.{sym, ap}
use Rattle.align.specs.Place.{place_of}
use Rattle.read.specs.Entry.{place_in}
use Rattle.read.proofs.EntryLaws.{placed_15}
use Rattle.read.proofs.locate.Goals as goal

-- number 15, with the place that the search found
pub returns-in-BasicAt : goal.returns-in-BasicAt
unfolding place_in
returns-in-BasicAt c =
    let found = sym c.in-BasicAt.ensures in
    (placed_15 c.args.image.now (record { long = c.if-image-lt2048.false; short = c.if-image-gt8192.false }) _ found, sym (ap place_of found))
