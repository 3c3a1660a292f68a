-- Its place is a bit of an octet.
use mathlib.Core.Path.{ap, ◌∙◌}
use native.Mathlib.Omega.{arith}
use lib.Bits.{and_le_r}
use Rattle.line.specs.Bit.{octet_at}
use Rattle.line.proofs.BitLaws.{place_in}
use Rattle.line.proofs.octet.Goals as goal

pub octet_in-requires : goal.octet_in-requires
octet_in-requires c = let p = c.args.p in (omega (arith, place_in p), omega (arith, and_le_r p 7))

pub returns : goal.returns
returns c = c.octet_in.ensures ∙ ap (octet_at c.args.s.now) (place_in c.args.p)
