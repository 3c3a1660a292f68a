use Prim.Native.Nat.{ℕ, ◌+◌, ◌*◌, ◌≤◌, ◌^◌, ◌<◌}
use mathlib.Core.Bool.{Bool}
use mathlib.Core.List.{List}
use native.Mathlib.Decide.{dec_lt}
use native.Mathlib.Omega.{arith}
use lib.Count.{count_leading_zeros}
use Rattle.align.specs.Stands.{Basic}
use Rattle.align.specs.Window.{Holds, NoneFrom, Wanted}
use Rattle.align.proofs.Laws.{wanted_basic}
use Rattle.align.proofs.Sets.{none_to}
use Rattle.align.proofs.onward.Goals as goal

-- no place is wanted where none has basic alignment, nor before the first bit of the window that is 1
none_in_window : (s : List ℕ) (known : Bool) (p i j r o : ℕ) → NoneFrom (Wanted s known) p (8 * i) → NoneFrom (Basic s) (8 * i) (8 * j)
    → Holds (Wanted s known) j 63 r → r < 2 ^ 64 → o ≤ 56 → o ≤ count_leading_zeros 64 r → NoneFrom (Wanted s known) p (8 * j + o)
none_in_window s known p i j r o before after h few =
    none_to (Wanted s known) p j r h few
    (λ q g l w. elim (dec_lt q (8 * i)) [ yes b ↦ before q g b w | no b ↦ after q (omega arith) l (wanted_basic s known q w) ])
    o

pub returns-then-o-lt56 : goal.returns-then-o-lt56
returns-then-o-lt56 c =
    let hit = c.in-Some.ensures in (
      omega arith,
      omega arith,
      none_in_window c.args.s.now c.args.known c.args.p c.loop-hit.i c.in-Some.hit.octet c.wanted.result _ c.loop-hit.invariant.2 hit.2
          c.wanted.ensures (omega arith) (omega arith) (omega arith),
    )

pub loop-hit-preserved : goal.loop-hit-preserved
loop-hit-preserved c =
    let hit = c.in-Some.ensures in
    let none : NoneFrom (Wanted c.args.s.now c.args.known) c.args.p (8 * c.in-Some.hit.octet + 56)
    = none_in_window c.args.s.now c.args.known c.args.p c.loop-hit.i c.in-Some.hit.octet c.wanted.result 56 c.loop-hit.invariant.2 hit.2
    c.wanted.ensures (omega arith) (omega arith) (omega arith) in
    (omega arith, omega arith, λ q g l. none q g (omega arith))
