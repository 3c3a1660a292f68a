-- No more numbers are kept than the row has places.
use Rattle.std.proofs.Common.{◌≤◌}
use Rattle.program.proofs.text.numbers.Given as goal

abbrev pub invariant-loop-word : goal.invariant-loop-word
invariant-loop-word l = l.n ≤ 8
