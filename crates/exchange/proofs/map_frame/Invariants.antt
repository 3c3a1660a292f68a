use Rattle.std.proofs.Common.{◌≡◌, take}
use Rattle.base.specs.Tab.{tab}
use Rattle.exchange.proofs.MapLaws.{octet_of}
use Rattle.exchange.proofs.map_frame.Given as goal

-- the octets before o are those of the mapped frame
abbrev pub invariant-loop-i : goal.invariant-loop-i
invariant-loop-i l = take l.i l.out ≡ tab l.i (octet_of l.map l.frame)
