-- The signal is of bits.
use Prim.Native.Nat.{ℕ, ◌<◌}
use mathlib.Core.Path.{refl}
use borrow.Author.Tests.{ltb-true}
use lib.Dec.{ltb}
use lib.ListN.{get_or}
use Rattle.base.specs.Tab.{all}
use Rattle.base.proofs.TabLaws.{all_at}
use Rattle.line.specs.Signal.{signal}

pub signal_lt : (i : ℕ) → i < 8 → get_or signal i 0 < 2
unfolding all
signal_lt i h = ltb-true (get_or signal i 0) 2 (all_at 8 (λ i. ltb (get_or signal i 0) 2) refl i h)
