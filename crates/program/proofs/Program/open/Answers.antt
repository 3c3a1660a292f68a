-- `open` has room for the name of standard input.
use Rattle.std.proofs.Common.{arith}
use Rattle.std.proofs.lemmas.List.{length-take-le}
use Rattle.program.proofs.Program.open.Goals as goal

pub copy_from_slice-requires : goal.copy_from_slice-requires
copy_from_slice-requires g c =
    length-take-le 14 c.arg-given.new.buf (omega (arith, c.requires, c.arg-given.auto.buf))
