-- Here the rule is computed, once, at each of the 4,096 entries.
use mathlib.Core.Path.{refl}
use Rattle.base.specs.Tab.{tab_from}
use Rattle.line.specs.Bit.{octet_bits}
use Rattle.crc.specs.Remainder.{step, after}
use Rattle.crc.specs.Fold.{remainders}
use Rattle.crc.proofs.table.Remainders.new.Goals as goal

pub invariant_of-result : goal.invariant_of-result
unfolding remainders octet_bits after step tab_from
invariant_of-result c = record { computed = refl }
