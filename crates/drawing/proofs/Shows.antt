-- A reading can be drawn.
use Prim.Native.Nat.{ℕ}
use mathlib.Core.Path.{◌≡◌, sym, ap, ◌∙◌, refl}
use mathlib.Core.List.{List}
use native.Mathlib.Omega.{arith}
use lib.ListN.{length}
use Rattle.std.specs.Prelude.{Ok}
use Rattle.measure.specs.Reading.{compared}
use Rattle.read.specs.Entry.{Read, accept, place_in, start_in, whole_in, used_in}
use Rattle.read.proofs.EntryLaws.{ready, read_number, read_accepted}
use Rattle.read.specs.Answer.{Reading, answered}
use Rattle.read.specs.declared.Reading as code
use Rattle.drawing.specs.Shown.{Shown}

pub shows : (s payload slot0 : List ℕ) (r : code.Reading) (p o : List ℕ)
    → Read s payload slot0 (answered (Ok r)) p o → Shown (length s) r
unfolding accept
shows s payload slot0 r p o h =
    let d = ready s (length payload) (length slot0) (sym (read_number s payload slot0 (answered (Ok r)) p o h)) in
    let a = read_accepted s payload slot0 (answered (Ok r)) p o h refl in
    let place : r.place ≡ place_in s = ap (λ (x : Reading). x.place) a in
    let start : r.start ≡ start_in s = ap (λ (x : Reading). x.start) a in
    let whole : r.whole ≡ whole_in s = ap (λ (x : Reading). x.whole) a in
    let used : r.used ≡ used_in s = ap (λ (x : Reading). x.used) a in
    record {
      long = d.good.long;
      short = d.good.short;
      found = omega (arith, d.start);
      fits = omega (arith, d.whole);
      before_loss = omega (arith, d.used);
      all_but_last = ap (λ (x : Reading). x.compared) a ∙ ap compared (sym used);
    }
