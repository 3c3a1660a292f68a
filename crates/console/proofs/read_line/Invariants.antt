-- `read_line` keeps what fits.
use Rattle.std.proofs.Common.{◌≤◌, length}
use Rattle.console.proofs.read_line.Given as goal

abbrev pub invariant-loop-octet : goal.invariant-loop-octet
invariant-loop-octet g l = l.n ≤ length l.line
