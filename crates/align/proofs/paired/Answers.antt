use Prim.Native.Nat.{ℕ, ◌+◌, ◌-◌, ◌*◌, ◌<◌}
use mathlib.Core.Path.{◌≡◌, sym, ap, ◌∙◌}
use mathlib.Core.List.{List}
use native.Mathlib.Omega.{arith}
use lib.ListN.{get_or}
use Rattle.line.specs.Bit.{bit_at}
use Rattle.line.specs.Signal.{signal}
use Rattle.align.specs.Stands.{Signal, Pair}
use Rattle.line.specs.Window.{bit_of, One}
use Rattle.align.specs.Window.{Marks, Signals, Pairs}
use Rattle.line.proofs.WindowLaws.{unturned, turned_at, bit_at_lem}
use Rattle.align.proofs.paired.Goals as goal

module _ (s : List ℕ) (i o : ℕ) (m : List ℕ) (h : o < 64) (marks : Marks s i 32 m) where
  -- the bit of the place, before octets are turned
  abbrev before : ℕ
  before = unturned (63 - o)

  signal_marks : (k : ℕ) → k < 27 → Signal s (8 * i + o) k → (j : ℕ) → j < 6
      → bit_of (get_or m (k + j) 0) before ≡ get_or signal j 0
  signal_marks k l e j g =
      sym (turned_at (get_or m (k + j) 0) (63 - o) (omega arith))
      ∙ bit_at_lem s (8 * (i + 32 + 64 * (k + j))) o (63 - o) _ (marks (k + j) (omega arith)) (omega arith)
      ∙ ap (bit_at s) (omega arith) ∙ e j g

  pair_one : (g : List ℕ) (r k : ℕ) → Signals m 27 g → Pairs g 19 r → Pair s (8 * i + o) k → One r before
  pair_one g r k signals pairs e =
      let at : (l : ℕ) → l < 27 → Signal s (8 * i + o) l → One (get_or g l 0) before = λ l b f. signals l b before (omega arith) (signal_marks l b f) in
      pairs k (omega arith) before (at k (omega arith) e.here) e.j e.least_j e.most_j
      (at (k + 8 * e.j) (omega arith) e.again)

pub returns : goal.returns
returns c o l h =
    rw c.turned.ensures
    (turned_at c.pairs.result (63 - o) (omega arith)
    ∙ pair_one c.args.s.now c.args.i o c.marks-m.result (omega arith) c.marks-m.ensures c.signals-g.result c.pairs.result h.0
    c.signals-g.ensures
    c.pairs.ensures
    h.1)
