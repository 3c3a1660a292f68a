use Rattle.std.proofs.Common.{◌≡◌, get_or}
use lib.Dec.{ltb}
use Rattle.base.specs.Tab.{all}
use Rattle.t1write.proofs.are_bits.Given as goal

abbrev pub invariant-loop-octet : goal.invariant-loop-octet
invariant-loop-octet l = ltb l.all 2 ≡ all l.octet-index (λ i. ltb (get_or l.octets i 0) 2)
