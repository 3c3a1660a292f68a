-- Hits that are seen or hidden lie in the block.
use Rattle.std.proofs.Common.{ap}
use Rattle.hits.proofs.VerdictLaws.{is_outside, in_block}
use Rattle.hits.proofs.answer.Goals as goal

pub invariant_of-tell : goal.invariant_of-tell
invariant_of-tell g c =
    record { inside = in_block _ _ _ _ c.verdict.ensures (ap is_outside c.in-Hidden.is) }

pub invariant_of-tell-in-Seen : goal.invariant_of-tell-in-Seen
invariant_of-tell-in-Seen g c =
    record { inside = in_block _ _ _ _ c.verdict.ensures (ap is_outside c.in-Seen.is) }
