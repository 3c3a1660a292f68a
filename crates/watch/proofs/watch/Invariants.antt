-- None of `watch`'s counts wraps: it has no more turns than a line has octets, and one.
use Rattle.std.proofs.Common.{◌*◌, ◌≤◌}
use Rattle.heard.specs.Hearing.{Few}
use Rattle.watch.proofs.watch.Given as goal

abbrev pub invariant-loop-turn : goal.invariant-loop-turn
invariant-loop-turn g l = (l.watched.came ≤ 4096 * l._turn) × Few l.watched.heard.now (192 * l._turn)
