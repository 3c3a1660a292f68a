-- A chunk is taken in one look or in two.
use Rattle.std.specs.Prelude.{None, Result, Ok, Err}
use Rattle.base.specs.declared.Refused.{Refused}
use Rattle.base.specs.declared.Refused.TheVariants.{NoRoom}
use Prim.Native.Nat.{ℕ, ◌+◌, ◌-◌, ◌*◌, ◌/◌, ◌%◌, ◌≤◌, ◌<◌}
use mathlib.Core.Path.{◌≡◌, refl, sym, ap, ap₂, ◌∙◌, subst}
use mathlib.Core.Bool.{true, false}
use mathlib.Core.List.{List, ◌++◌, append_assoc}
use mathlib.Mathlib.Data.Bool.Basic.{or-eq-false-eq-eq-false-and-eq-false}
use native.Mathlib.Omega.{arith}
use borrow.Author.Tests.{ltb-false}
use lib.Dec.{ltb}
use lib.ListN.{length, take, drop, length-append, length-drop, take-append-drop}
use lib.Seq.{drop-append-le, drop-append-add, length-take-le}
use Rattle.measure.specs.Reading.{payload_of, slot0_of}
use Rattle.measure.proofs.Laws.{payload_length, slot0_length}
use Rattle.align.specs.Place.{start_of}
use Rattle.measure.specs.declared.Tracked.{Tracked}
use Rattle.growth.specs.Growth.{Grown, kept_of, read_from, grown, after}
use Rattle.growth.specs.Small.{Small}
use Rattle.growth.specs.declared.Line.{Line}
use Rattle.growth.proofs.Bounds.{grown_short, grown_small}
use Rattle.growth.proofs.SearchCut.{grown_cut}
use Rattle.growth.proofs.ReadCut.{found_reads}
use Rattle.chunk.specs.Look.{told, Looks, Stood, Tracks}
use Rattle.chunk.specs.Taking.{lacks_room, taking_if, over, Takes}
use Rattle.chunk.specs.declared.Seen.{Seen}
use Rattle.chunk.specs.declared.Took.{Took}
use Rattle.chunk.proofs.BufferLaws.{to_end, filled}
use Rattle.chunk.proofs.FollowLaws.{looks_as, whole_is, used_all, near_seen, near_looks}

pub has_room : (a b n : ℕ) → lacks_room a b n ≡ false → (496 * n ≤ a) × (16 * n ≤ b)
unfolding lacks_room
has_room a b n h =
    let f = (or-eq-false-eq-eq-false-and-eq-false (ltb a (496 * n)) (ltb b (16 * n))).0 h in
    (ltb-false a (496 * n) f.0, ltb-false b (16 * n) f.1)

pub takes_as : {x y : Grown} {w p o : List ℕ} {r : Result Took Refused} {w' p' o' : List ℕ} → x ≡ y → Takes y w p o r w' p' o'
    → Takes x w p o r w' p' o'
takes_as e t = rw e t

module _ (w p o : List ℕ) where
  -- an output lacks room
  pub not_taken : (x : Grown) → lacks_room (length p) (length o) x.multiframes ≡ true → Takes x w p o (Err NoRoom) w p o
  not_taken x h =
      record { its_answer = sym (ap (λ t. taking_if t x) h); its_window = refl; its_payload = refl; its_slot0 = refl }

  -- both have it
  taken : (x : Grown) (n : ℕ) → n ≡ length x.window → length x.payload ≡ 496 * x.multiframes
      → length x.slot0 ≡ 16 * x.multiframes → lacks_room (length p) (length o) x.multiframes ≡ false
      → (w' p' o' : List ℕ) → w' ≡ over x.window w → p' ≡ x.payload ++ drop (496 * x.multiframes) p
      → o' ≡ x.slot0 ++ drop (16 * x.multiframes) o
      → Takes x w p o (Ok (record { line = x.line; fill = n; multiframes = x.multiframes })) w' p' o'
  taken x n en ep eo h w' p' o' hw hp ho =
      record {
        its_answer = ap (λ m. Ok (record { line = x.line; fill = m; multiframes = x.multiframes })) en
            ∙ sym (ap (λ t. taking_if t x) h);
        its_window = hw;
        its_payload = hp ∙ ap (λ z. x.payload ++ drop z p) (sym ep);
        its_slot0 = ho ∙ ap (λ z. x.slot0 ++ drop z o) (sym eo);
      }

  -- what two tell, one after the other
  pub taken_two : (s t : List ℕ) (x y : Seen) (n : ℕ) → n ≡ length (drop y.gone t)
      → lacks_room (length p) (length o) (x.multiframes + y.multiframes) ≡ false → (w' p' o' : List ℕ)
      → w' ≡ over (drop y.gone t) w
      → p' ≡ (payload_of s x.from x.multiframes ++ payload_of t y.from y.multiframes)
      ++ drop (496 * (x.multiframes + y.multiframes)) p
      → o' ≡ (slot0_of s x.from x.multiframes ++ slot0_of t y.from y.multiframes)
      ++ drop (16 * (x.multiframes + y.multiframes)) o
      → Takes (after (told s x) (told t y)) w p o
      (Ok (record { line = y.line; fill = n; multiframes = x.multiframes + y.multiframes })) w' p' o'
  taken_two s t x y n en =
      taken (after (told s x) (told t y)) n en
      (length-append (payload_of s x.from x.multiframes) (payload_of t y.from y.multiframes)
      ∙ omega (arith, payload_length s x.from x.multiframes, payload_length t y.from y.multiframes))
      (length-append (slot0_of s x.from x.multiframes) (slot0_of t y.from y.multiframes)
      ∙ omega (arith, slot0_length s x.from x.multiframes, slot0_length t y.from y.multiframes))

-- an image that is looked at
module _ (c : Line) (s : List ℕ) (r : Seen) (l : Looks (grown c s) s r) where
  -- what is kept fits the window
  pub kept_short : length (drop r.gone s) ≤ 2048
  kept_short = subst (λ (y : Grown). length y.window ≤ 2048) l.tells (grown_short c s)

  -- the line's numbers stay small
  pub small_then : (n : ℕ) → Small c n → Small r.line (n + length s)
  small_then n h = subst (λ (y : Grown). Small y.line (n + length s)) l.tells (grown_small c s n h)

-- an image s of the window w and the chunk's first n octets
module _ (s w chunk : List ℕ) (fill n : ℕ) (f : length w ≡ fill) (h : n ≤ length chunk) (e : s ≡ w ++ take n chunk) where
  pub near_length : length s ≡ fill + n
  near_length = ap length e ∙ length-append w (take n chunk) ∙ ap₂ ◌+◌ f (length-take-le n chunk h)

  -- What is kept lies in the chunk: with the rest of the chunk it is the chunk from there on, which is looked at next.
  module _ (c : Line) (r : Seen) (l : Looks (grown c s) s r) (k : length (grown c s).window ≤ n) where
    pub lies_in_chunk : (fill ≤ r.gone) × (r.gone - fill ≤ n)
    lies_in_chunk =
        let z : length (grown c s).window ≡ length (drop r.gone s) = ap (λ (y : Grown). length y.window) l.tells in
        (omega (arith, near_length, length-drop r.gone s), omega (arith, near_length, l.within))

    kept_is : drop r.gone s ++ drop n chunk ≡ drop (r.gone - fill) chunk
    kept_is =
        let a = take n chunk in
        let b = drop n chunk in
        let m = r.gone - fill in
        let g : r.gone ≡ length w + m = omega (arith, lies_in_chunk) in
        ap₂ (λ x y. drop x y ++ b) g e
        ∙ ap (λ x. x ++ b) (drop-append-add w a m)
        ∙ sym (drop-append-le m a b (omega (arith, lies_in_chunk, length-take-le n chunk h)))
        ∙ ap (drop m) (take-append-drop n chunk)

    pub cut_there : grown c (w ++ chunk)
        ≡ after (grown c s) (grown r.line (take (length chunk - (r.gone - fill)) (drop (r.gone - fill) chunk)))
    cut_there =
        let a = take n chunk in
        let b = drop n chunk in
        let whole : w ++ chunk ≡ s ++ b =
        ap (λ x. w ++ x) (sym (take-append-drop n chunk)) ∙ sym (append_assoc w a b) ∙ ap (λ x. x ++ b) (sym e) in
        ap (grown c) whole
        ∙ grown_cut c s b
        ∙ ap (λ (y : Grown). after (grown c s) (grown y.line (y.window ++ b))) l.tells
        ∙ ap (λ x. after (grown c s) (grown r.line x)) (kept_is ∙ sym (to_end chunk (r.gone - fill)))

-- k multiframes hold the window's octets, and the image ends an octet behind the next one
pub next_used : (k q n u : ℕ) → q < 8 → n ≡ 512 * k + 513 → u ≡ (8 * n - q) / 4096 → u ≡ k + 1
next_used k q n u h e w = omega arith

pub next_holds : (fill : ℕ) → fill ≤ 1024 → (fill ≤ 512 * ((fill + 511) / 512)) × (512 * ((fill + 511) / 512) ≤ 1024)
next_holds fill h = (omega arith, omega arith)

pub full : (w : List ℕ) (fill : ℕ) → length w ≡ 2048 → fill ≤ 1024 → length (take fill w) ≡ fill
full w fill l h = filled w fill l (omega arith)

-- the image s is of the window w and the chunk's first n octets, and ends so: x was tracked in it without loss
module _ (c : Line) (s w chunk : List ℕ) (fill n q : ℕ) (x : Tracked) (f : length w ≡ fill) (e : s ≡ w ++ take n chunk)
    (ends : fill + n ≡ 512 * ((fill + 511) / 512) + 513) (small : fill ≤ 1024) (long : 2048 ≤ fill + length chunk) where
  pub next_part : (fill + n ≤ 1537) × (n ≤ length chunk)
  next_part = let h = next_holds fill small in (omega (arith, h.1, ends), omega (arith, h.1, ends, long))

  module _ (eq : q ≡ start_of c.found % 8) (t : Tracks s q (kept_of c.used) x) (z : x.loss ≡ None) where
    -- what is let go
    pub next_gone : (x.used ≡ (fill + 511) / 512 + 1) × (fill ≤ 512 * (x.used - 1)) × (512 * (x.used - 1) ≤ 1024)
    next_gone =
        let h = next_holds fill small in
        let u : x.used ≡ (fill + 511) / 512 + 1 =
        next_used ((fill + 511) / 512) q (length s) x.used (omega (arith, eq)) (near_length s w chunk fill n f next_part.1 e ∙ ends)
        (used_all s q (kept_of c.used) x t z ∙ whole_is s q) in
        (u, omega (arith, u, h.0), omega (arith, u, h.1))

-- where a place stands, and x was tracked in the image s without loss
module _ (c : Line) (s w chunk : List ℕ) (fill n q : ℕ) (x : Tracked) (f : length w ≡ fill) (h : n ≤ length chunk)
    (e : s ≡ w ++ take n chunk) (stood : Stood c) (eq : q ≡ start_of c.found % 8) (t : Tracks s q (kept_of c.used) x) (z : x.loss ≡ None)
    (o : 1 ≤ x.used) (k : fill ≤ 512 * (x.used - 1)) where
  abbrev chunk_from : List ℕ
  chunk_from = take (length chunk - (512 * (x.used - 1) - fill)) (drop (512 * (x.used - 1) - fill) chunk)

  pub cut_both : grown c (w ++ chunk) ≡ after (read_from c s) (read_from (read_from c s).line chunk_from)
  cut_both =
      let r = near_seen c s q (kept_of c.used) x in
      let l = near_looks c s q (kept_of c.used) x eq refl t z o in
      let reads = found_reads c stood.p stood.k stood.stands s stood.not_lost in
      let kept : length (read_from c s).window ≡ length (drop (512 * (x.used - 1)) s) = ap (λ (y : Grown). length y.window) l.tells in
      let short : length (grown c s).window ≤ n =
      omega (
        arith,
        ap (λ (y : Grown). length y.window) reads,
        kept,
        length-drop (512 * (x.used - 1)) s,
        near_length s w chunk fill n f h e,
      ) in
      cut_there s w chunk fill n f h e c r (looks_as reads l) short
      ∙ ap₂ after reads
      (found_reads r.line stood.p stood.k stood.stands chunk_from refl
      ∙ ap (λ (y : Grown). read_from y.line chunk_from) (sym l.tells))
