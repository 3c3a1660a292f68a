-- A look in numbers is what the image makes of the line: the search, and what is only counted.
use Prim.Native.Nat.{ℕ, ◌+◌, ◌*◌, ◌≤◌}
use mathlib.Core.Path.{◌≡◌, refl, sym, ◌∙◌}
use mathlib.Core.List.{List, []}
use native.Mathlib.Omega.{arith}
use lib.ListN.{length, drop, length-drop}
use lib.Seq.{drop-drop, drop-length}
use Rattle.align.specs.declared.Found.{Found}
use Rattle.base.specs.Tab.{tab_from}
use Rattle.measure.specs.Reading.{slots, slots0, payload_of, slot0_of}
use Rattle.growth.specs.Growth.{Grown, waits, passed}
use Rattle.growth.specs.declared.Line.{Line}
use Rattle.growth.proofs.Sees.{back_sees}
use Rattle.growth.proofs.Counts.{Leaves, payload_leaves, slot0_leaves}
use Rattle.chunk.specs.Look.{waiting, passing, Looks}
use Rattle.chunk.specs.declared.Seen.{Seen}

-- what leaves, counted from e octets earlier
output_from : (Y : List ℕ → ℕ → ℕ → List ℕ) (u : ℕ) → Leaves Y u → (s : List ℕ) (e a g : ℕ) → Y (drop e s) a g ≡ Y s (8 * e + a) g
output_from Y u l s e a g =
    let n = a + 4096 * g in
    sym (l.seen s (drop e s) (8 * e) n (back_sees s e n) (8 * e + a) a g refl (omega arith))

-- what a look from octet e on tells, told of the whole image
pub from_octet : (s : List ℕ) (x : Grown) (r : Seen) (e : ℕ) → e ≤ length s → Looks x (drop e s) r
    → Looks x s (record { line = r.line; gone = e + r.gone; multiframes = r.multiframes; from = 8 * e + r.from })
from_octet s x r e h l =
    let long = length-drop e s in
    record {
      tells = l.tells ∙ (λ i. record {
        line = r.line;
        window = drop-drop r.gone e s i;
        multiframes = r.multiframes;
        payload = output_from payload_of 496 payload_leaves s e r.from r.multiframes i;
        slot0 = output_from slot0_of 16 slot0_leaves s e r.from r.multiframes i;
      });
      there = omega (arith, l.there);
      within = omega (arith, l.within);
    }

pub waits_look : (s : List ℕ) (before : ℕ) (found : Found) → Looks (waits before found s) s (waiting (length s) before found)
unfolding slots slots0 tab_from
waits_look s before found = record { tells = refl; there = omega arith; within = omega arith }

pub passes_look : (s : List ℕ) (c : Line) → Looks (passed c s) s (passing (length s) c)
unfolding slots slots0 tab_from
passes_look s c =
    record {
      tells = λ i. record {
        line = (passing (length s) c).line;
        window = sym (drop-length s) i;
        multiframes = 0;
        payload = [];
        slot0 = [];
      };
      there = omega arith;
      within = omega arith;
    }
