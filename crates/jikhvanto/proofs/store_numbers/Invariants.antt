-- At the loop's head the octets of the first i numbers are spelt.
use Rattle.std.proofs.Common.{◌≡◌, ◌*◌, take, drop}
use Rattle.base.specs.Tab.{tab}
use Rattle.jikhvanto.proofs.StreamLaws.{spelt_at}
use Rattle.jikhvanto.proofs.store_numbers.Given as goal

abbrev pub invariant-loop-i : goal.invariant-loop-i
invariant-loop-i l =
    record {
      spelt : take (8 * l.i) l.octets ≡ tab (8 * l.i) (spelt_at l.number-items);
      rest : drop (8 * l.i) l.octets ≡ drop (8 * l.i) l.fn.octets;
    }
