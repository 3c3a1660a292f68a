-- Wherever the image of a line that stands is cut, reading its first part and then what is kept of it with the second is
-- reading it whole. It holds for every line, whatever its numbers are.
use Prim.Native.Nat.{ℕ, zero, suc, ◌+◌, ◌-◌, ◌*◌, ◌/◌, ◌%◌, ◌≤◌, ◌<◌}
use mathlib.Core.Path.{◌≡◌, refl, sym, ap, ap₂, ◌∙◌}
use mathlib.Core.List.{List, [], ◌++◌, append-nil}
use Rattle.std.specs.Prelude.{Option, None, Some}
use native.Mathlib.Omega.{arith}
use lib.ListN.{length, drop, length-append, length-drop}
use lib.Seq.{drop-append-le, drop-drop, drop-length}
use Rattle.align.specs.Place.{start_of}
use Rattle.align.specs.declared.Found.TheVariants.{At}
use Rattle.measure.specs.Reading.{whole, loss_from, lost_at, used_of, payload_of, slot0_of, word_errors, word_bits, compared, disagreeing, far_end}
use Rattle.measure.proofs.FromLaws.{from_on, from_late, from_among, used_from_lem}
use Rattle.growth.specs.declared.Line.{Line}
use Rattle.growth.specs.Growth.{Grown, kept_of, gone_of, later_by, read_on, read_from, passed, grown_by, grown, after}
use Rattle.growth.proofs.Sees.{Sees, front_sees, back_sees}
use Rattle.growth.proofs.Counts.{loss_seen, loss_later, loss_kept}
use Rattle.growth.proofs.Counts.{whole_there, there_whole, whole_later, disagreeing_seen, disagreeing_adds, disagreeing_few}
use Rattle.growth.proofs.Counts.{Counts, words_count, bits_count, far_end_count, Leaves, payload_leaves, slot0_leaves}

-- two with equal parts
pub same : (x y : Grown) → x.line.before ≡ y.line.before → x.line.found ≡ y.line.found → x.line.used ≡ y.line.used
    → x.line.lost ≡ y.line.lost → x.line.words ≡ y.line.words → x.line.errored ≡ y.line.errored
    → x.line.farend ≡ y.line.farend → x.line.wordbits ≡ y.line.wordbits → x.window ≡ y.window
    → x.multiframes ≡ y.multiframes → x.payload ≡ y.payload → x.slot0 ≡ y.slot0 → x ≡ y
same x y e₁ e₂ e₃ e₄ e₅ e₆ e₇ e₈ e₉ e₁₀ e₁₁ e₁₂ =
    λ i. record {
      line = record {
        before = e₁ i;
        found = e₂ i;
        used = e₃ i;
        lost = e₄ i;
        words = e₅ i;
        errored = e₆ i;
        farend = e₇ i;
        wordbits = e₈ i;
      };
      window = e₉ i;
      multiframes = e₁₀ i;
      payload = e₁₁ i;
      slot0 = e₁₂ i;
    }

-- A line that stands: after a loss the image is passed, else it is read

module _ (c : Line) (p k : ℕ) (at : c.found ≡ At p k) (s : List ℕ) where
  pub lost_passes : 0 < c.lost → grown c s ≡ passed c s
  lost_passes h = ap (λ o. grown_by o c.lost c s) at ∙ go c.lost h
    where
      go : (n : ℕ) → 0 < n → grown_by (At p k) n c s ≡ passed c s
      go zero l = absurd (omega arith)
      go (suc n) l = refl

  pub found_reads : c.lost ≡ 0 → grown c s ≡ read_from c s
  found_reads h = ap₂ (λ o n. grown_by o n c s) at h

-- what reading takes of the line
pub reading_like : (c d : Line) (s : List ℕ) → c.before ≡ d.before → c.found ≡ d.found → c.used ≡ d.used → c.words ≡ d.words
    → c.errored ≡ d.errored → c.farend ≡ d.farend → c.wordbits ≡ d.wordbits → read_from c s ≡ read_from d s
unfolding read_on
reading_like c d s e₁ e₂ e₃ e₄ e₅ e₆ e₇ =
    λ i. read_from (record {
      before = e₁ i;
      found = e₂ i;
      used = e₃ i;
      lost = 0;
      words = e₄ i;
      errored = e₅ i;
      farend = e₆ i;
      wordbits = e₇ i;
    }) s

-- Passing is cut anywhere

pub passing_cut : (c : Line) (s b : List ℕ)
    → passed c (s ++ b) ≡ after (passed c s) (passed (passed c s).line ((passed c s).window ++ b))
passing_cut c s b =
    same (passed c (s ++ b)) (after (passed c s) (passed (passed c s).line ((passed c s).window ++ b)))
    (omega (arith, length-append s b)) refl refl refl refl refl refl refl refl refl refl refl

-- The cut, where alignment is lost in the first part, at frame f

few_there : (q g h m n : ℕ) → g ≤ m → h ≤ 1 → 1 ≤ m → q + 4096 * m ≤ n → q + 4096 * h + 4096 * (g - h) ≤ n
few_there q g h m n a b d e = omega arith

few_blocks : (q g h m n : ℕ) → g ≤ m → h ≤ 1 → 1 ≤ m → q + 4096 * m ≤ n
    → q + 2048 * compared h + 2048 * (compared g - compared h) + 2048 ≤ n
few_blocks q g h m n a b d e =
    let x : compared h + (compared g - compared h) + 1 ≤ 2 * m = omega arith in
    omega arith

cut_lost : (c : Line) (p k : ℕ) → c.found ≡ At p k → (s b : List ℕ) (q h f : ℕ) → h ≤ 1 → loss_from s q h (whole s q) ≡ Some f
    → read_on c (s ++ b) q h (Some f) (f / 16)
    ≡ after (read_on c s q h (Some f) (f / 16)) (grown (read_on c s q h (Some f) (f / 16)).line ((read_on c s q h (Some f) (f / 16)).window ++ b))
unfolding read_on
cut_lost c p k at s b q h f few e =
    let m = whole s q in
    let g = f / 16 in
    let x = read_on c s q h (Some f) g in
    let l : f < 16 * m = (from_among s q h m f e).1 in
    let there : q + 4096 * (m - 1 + 1) ≤ 8 * length s = whole_there s q (m - 1) (omega arith) in
    let fits : q + 4096 * m ≤ 8 * length s = omega arith in
    let few₁ = few_there q g h m (8 * length s) (omega arith) few (omega arith) fits in
    let few₂ = few_blocks q g h m (8 * length s) (omega arith) few (omega arith) fits in
    let front : Sees (s ++ b) s 0 (8 * length s) = front_sees s b in
    let r = q + 4096 * h in
    let num : (X : List ℕ → ℕ → ℕ → ℕ) → Counts X → (a : ℕ) → a + X (s ++ b) r (g - h) ≡ a + X s r (g - h) =
    λ X w a. ap (λ y. a + y) (w.seen (s ++ b) s 0 (8 * length s) front r r (g - h) (omega arith) few₁) in
    let out : (Y : List ℕ → ℕ → ℕ → List ℕ) (u : ℕ) → Leaves Y u → Y (s ++ b) r (g - h) ≡ Y s r (g - h) ++ [] =
    λ Y u w. w.seen (s ++ b) s 0 (8 * length s) front r r (g - h) (omega arith) few₁ ∙ sym (append-nil (Y s r (g - h))) in
    let i = q + 2048 * compared h in
    let n = compared g - compared h in
    let late : 0 < x.line.lost = omega (arith, from_late s q h m f e) in
    let z : length (drop (length s) s ++ b) ≡ length b = ap (λ y. length (y ++ b)) (drop-length s) in
    same (read_on c (s ++ b) q h (Some f) g) (after x (passed x.line (x.window ++ b)))
    (omega (arith, length-append s b)) refl refl refl
    (num word_errors words_count c.words)
    (ap (λ y. c.errored + y) (disagreeing_seen (s ++ b) s 0 (8 * length s) front i i n (omega arith) few₂))
    (num far_end far_end_count c.farend)
    (num word_bits bits_count c.wordbits)
    (drop-length (s ++ b))
    (omega arith)
    (out payload_of 496 payload_leaves) (out slot0_of 16 slot0_leaves)
    ∙ sym (ap (after x) (lost_passes x.line p k at (x.window ++ b) late))

-- where no multiframe is whole yet

cut_short : (c : Line) (p k : ℕ) → c.found ≡ At p k → (s b : List ℕ) (q : ℕ)
    → read_from c (s ++ b)
    ≡ after (read_on c s q (kept_of c.used) None 0)
    (grown (read_on c s q (kept_of c.used) None 0).line ((read_on c s q (kept_of c.used) None 0).window ++ b))
unfolding read_on
cut_short c p k at s b q =
    let h = kept_of c.used in
    let x = read_on c s q h None 0 in
    let r = q + 4096 * h in
    let i = q + 2048 * compared h in
    let z : 0 - h ≡ 0 = omega arith in
    let z₂ : 0 - compared h ≡ 0 = omega arith in
    let num : (X : List ℕ → ℕ → ℕ → ℕ) → Counts X → (a : ℕ) → a + X s r (0 - h) ≡ a =
    λ X w a. ap (λ n. a + X s r n) z ∙ omega (arith, w.none s r) in
    let out : (Y : List ℕ → ℕ → ℕ → List ℕ) (u : ℕ) → Leaves Y u → (l : List ℕ) → Y s r (0 - h) ++ l ≡ l =
    λ Y u w l. ap (λ n. Y s r n ++ l) z ∙ ap (λ y. y ++ l) (w.empty s r) in
    let y = read_from x.line (s ++ b) in
    sym (
    ap (after x) (found_reads x.line p k at (s ++ b) refl)
    ∙ same (after x y) y refl refl refl refl refl refl refl refl refl (omega arith)
    (out payload_of 496 payload_leaves y.payload) (out slot0_of 16 slot0_leaves y.slot0)
    ∙ reading_like x.line c (s ++ b) (omega arith) refl (omega arith)
    (num word_errors words_count c.words)
    (ap (λ n. c.errored + disagreeing s i n) z₂ ∙ omega (arith, disagreeing_few s i 0))
    (num far_end far_end_count c.farend) (num word_bits bits_count c.wordbits)
    )

more_two : (a x y z : ℕ) → z ≡ x + y → a + z ≡ a + x + y
more_two a x y z e = omega arith

-- the blocks compared of v + 1 multiframes and n more, of which those of h were before
blocks_first : (h v : ℕ) → h ≤ 1 → compared h + (compared (v + 1) - compared h) ≡ 2 * v + 1
blocks_first h v l = omega arith

blocks_more : (h v n : ℕ) → h ≤ 1 → compared (v + (1 + n)) - compared h ≡ compared (v + 1) - compared h + (compared (1 + n) - compared 1)
blocks_more h v n l = go (compared (v + (1 + n))) (compared (v + 1)) (compared h) (compared (1 + n) - compared 1) (omega arith) (omega arith)
  where
    go : (x y c i : ℕ) → x ≡ y + i → c ≤ y → x - c ≡ y - c + i
    go x y c i e k = omega arith

-- where v + 1 are, without loss: the second part is read from multiframe v on, which is the last of the first

module _ (s b : List ℕ) (q h v n : ℕ) (few : h ≤ 1) (fits : q + 4096 * (v + 1) ≤ 8 * length s) where
  abbrev later_part : List ℕ
  later_part = drop (512 * v) (s ++ b)

  parts : v + (1 + n) - h ≡ v + 1 - h + (1 + n - 1)
  parts = omega arith

  num_cut : (X : List ℕ → ℕ → ℕ → ℕ) → Counts X → (a : ℕ)
      → a + X (s ++ b) (q + 4096 * h) (v + (1 + n) - h) ≡ a + X s (q + 4096 * h) (v + 1 - h) + X later_part (q + 4096 * 1) (1 + n - 1)
  num_cut X w a =
      let r = q + 4096 * h in
      let j = v + 1 - h in
      let i = 1 + n - 1 in
      let x : X (s ++ b) r j ≡ X s r j = w.seen (s ++ b) s 0 (8 * length s) (front_sees s b) r r j (omega arith) (omega arith) in
      let y : X (s ++ b) (r + 4096 * j) i ≡ X later_part (q + 4096 * 1) i =
      w.seen (s ++ b) later_part (8 * (512 * v)) (q + 4096 * 1 + 4096 * i) (back_sees (s ++ b) (512 * v) (q + 4096 * 1 + 4096 * i))
      (r + 4096 * j) (q + 4096 * 1) i (omega arith) (omega arith) in
      let z : X (s ++ b) r (j + i) ≡ X s r j + X later_part (q + 4096 * 1) i = w.adds (s ++ b) r j i ∙ ap₂ ◌+◌ x y in
      ap (λ k. a + X (s ++ b) r k) parts ∙ omega arith

  out_cut : (Y : List ℕ → ℕ → ℕ → List ℕ) (u : ℕ) → Leaves Y u
      → Y (s ++ b) (q + 4096 * h) (v + (1 + n) - h) ≡ Y s (q + 4096 * h) (v + 1 - h) ++ Y later_part (q + 4096 * 1) (1 + n - 1)
  out_cut Y u w =
      let r = q + 4096 * h in
      let j = v + 1 - h in
      let i = 1 + n - 1 in
      let x : Y (s ++ b) r j ≡ Y s r j = w.seen (s ++ b) s 0 (8 * length s) (front_sees s b) r r j (omega arith) (omega arith) in
      let y : Y (s ++ b) (r + 4096 * j) i ≡ Y later_part (q + 4096 * 1) i =
      w.seen (s ++ b) later_part (8 * (512 * v)) (q + 4096 * 1 + 4096 * i) (back_sees (s ++ b) (512 * v) (q + 4096 * 1 + 4096 * i))
      (r + 4096 * j) (q + 4096 * 1) i (omega arith) (omega arith) in
      ap (Y (s ++ b) r) parts ∙ w.adds (s ++ b) r j i ∙ ap₂ (λ k l. k ++ l) x y

  -- the last block of the first part is judged in the second
  blocks_cut : (a : ℕ)
      → a + disagreeing (s ++ b) (q + 2048 * compared h) (compared (v + (1 + n)) - compared h)
      ≡ a + disagreeing s (q + 2048 * compared h) (compared (v + 1) - compared h)
      + disagreeing later_part (q + 2048 * compared 1) (compared (1 + n) - compared 1)
  blocks_cut a =
      let r = q + 2048 * compared h in
      let j = compared (v + 1) - compared h in
      let i = compared (1 + n) - compared 1 in
      let p = q + 2048 * compared 1 in
      let o : compared (v + (1 + n)) - compared h ≡ j + i = blocks_more h v n few in
      let w : r + 2048 * j ≡ q + 4096 * v + 2048 = places (compared h) j (blocks_first h v few) in
      let x : disagreeing (s ++ b) r j ≡ disagreeing s r j =
      disagreeing_seen (s ++ b) s 0 (8 * length s) (front_sees s b) r r j (omega arith) (there (r + 2048 * j) w) in
      let y : disagreeing (s ++ b) (r + 2048 * j) i ≡ disagreeing later_part p i =
      disagreeing_seen (s ++ b) later_part (8 * (512 * v)) (p + 2048 * i + 2048) (back_sees (s ++ b) (512 * v) (p + 2048 * i + 2048))
      (r + 2048 * j) p i (w ∙ omega arith) (fewer (p + 2048 * i + 2048)) in
      ap (λ k. a + disagreeing (s ++ b) r k) o
      ∙ more_two a (disagreeing s r j) (disagreeing later_part p i) (disagreeing (s ++ b) r (j + i))
      (disagreeing_adds (s ++ b) r j i ∙ ap₂ ◌+◌ x y)
    where
      places : (c j : ℕ) → c + j ≡ 2 * v + 1 → q + 2048 * c + 2048 * j ≡ q + 4096 * v + 2048
      places c j e = omega arith

      there : (x : ℕ) → x ≡ q + 4096 * v + 2048 → x + 2048 ≤ 8 * length s
      there x e = omega arith

      fewer : (x : ℕ) → x ≤ x
      fewer x = omega arith

  -- octets let go, of the whole and of the second part
  gone_cut : (l : Option ℕ)
      → gone_of (length (s ++ b)) (v + (1 + n)) (later_by (16 * v) l) ≡ 512 * v + gone_of (length later_part) (1 + n) l
  gone_cut None = omega arith
  gone_cut (Some f) = omega (arith, length-drop (512 * v) (s ++ b), length-append s b)

  lost_cut : (u : ℕ) → h ≤ u → (l : Option ℕ)
      → lost_at (later_by (16 * (u - h)) (later_by (16 * v) l)) ≡ lost_at (later_by (16 * (u + (v + 1 - h) - 1)) l)
  lost_cut u had None = refl
  lost_cut u had (Some f) = omega arith

  glue : (c : Line) → h ≤ c.used → (l : Option ℕ)
      → read_on c (s ++ b) q h (later_by (16 * v) l) (v + (1 + n))
      ≡ after (read_on c s q h None (v + 1)) (read_on (read_on c s q h None (v + 1)).line later_part q 1 l (1 + n))
  unfolding read_on
  glue c had l =
      same
      (read_on c (s ++ b) q h (later_by (16 * v) l) (v + (1 + n)))
      (after (read_on c s q h None (v + 1)) (read_on (read_on c s q h None (v + 1)).line later_part q 1 l (1 + n)))
      (omega (arith, gone_cut l)) refl (omega arith) (lost_cut c.used had l)
      (num_cut word_errors words_count c.words)
      (blocks_cut c.errored)
      (num_cut far_end far_end_count c.farend)
      (num_cut word_bits bits_count c.wordbits)
      (ap (λ k. drop k (s ++ b)) (gone_cut l) ∙ sym (drop-drop (gone_of (length later_part) (1 + n) l) (512 * v) (s ++ b)))
      parts
      (out_cut payload_of 496 payload_leaves) (out_cut slot0_of 16 slot0_leaves)

used_later : (v m : ℕ) (l : Option ℕ) → used_of (later_by (16 * v) l) (v + m) ≡ v + used_of l m
used_later v m None = refl
used_later v m (Some f) = omega arith

one_more : (x : ℕ) → 1 ≤ x → x ≡ 1 + (x - 1)
one_more x h = omega arith

same_window : (s b : List ℕ) (v : ℕ) → 512 * v ≤ length s → drop (512 * (v + 1 - 1)) s ++ b ≡ drop (512 * v) (s ++ b)
same_window s b v h =
    let z : 512 * (v + 1 - 1) ≡ 512 * v = omega arith in
    ap (λ k. drop k s ++ b) z ∙ sym (drop-append-le (512 * v) s b h)

kept_one : (u v : ℕ) → kept_of (u + (v + 1 - kept_of u)) ≡ 1
kept_one u v = omega arith

cut_whole : (c : Line) (p k : ℕ) → c.found ≡ At p k → (s b : List ℕ) (v : ℕ)
    → whole s (start_of c.found % 8) ≡ v + 1 → loss_from s (start_of c.found % 8) (kept_of c.used) (v + 1) ≡ None
    → read_from c (s ++ b)
    ≡ after (read_on c s (start_of c.found % 8) (kept_of c.used) None (v + 1))
    (grown (read_on c s (start_of c.found % 8) (kept_of c.used) None (v + 1)).line
    ((read_on c s (start_of c.found % 8) (kept_of c.used) None (v + 1)).window ++ b))
unfolding read_on
cut_whole c p k at s b v e f =
    let q = start_of c.found % 8 in
    let h = kept_of c.used in
    let S = s ++ b in
    let T = drop (512 * v) S in
    let x = read_on c s q h None (v + 1) in
    let m = whole T q in
    let l = loss_from T q 1 m in
    let long = length-append s b in
    let fits : q + 4096 * (v + 1) ≤ 8 * length s = whole_there s q v (omega arith) in
    let short : 512 * v ≤ length s = omega arith in
    let few : h ≤ 1 = omega arith in
    let had : h ≤ c.used = omega arith in
    let ewhole : whole S q ≡ v + m = whole_later S q v (omega arith) in
    let enough : v + 1 ≤ whole S q = there_whole S q (v + 1) (omega arith) in
    let f₁ : loss_from S q h (v + 1) ≡ None = loss_seen S s 0 (8 * length s) (front_sees s b) q q h (v + 1) (omega arith) fits ∙ f in
    let r : loss_from S (q + 4096 * v) 1 m ≡ l =
    loss_seen S T (8 * (512 * v)) (q + 4096 * m) (back_sees S (512 * v) (q + 4096 * m)) (q + 4096 * v) q 1 m (omega arith) (omega arith) in
    let eloss : loss_from S q h (whole S q) ≡ later_by (16 * v) l =
    ap (loss_from S q h) ewhole ∙ from_on S q h (v + 1) (v + m) (omega arith) f₁ ∙ loss_later S q v 1 m (omega arith) ∙ ap (later_by (16 * v)) r in
    let pos : 1 ≤ used_of l m = used_from_lem T q 1 m (omega arith) in
    let n = used_of l m - 1 in
    let en : used_of l m ≡ 1 + n = one_more (used_of l m) pos in
    let eused : used_of (loss_from S q h (whole S q)) (whole S q) ≡ v + (1 + n) =
    ap₂ used_of eloss ewhole ∙ used_later v m l ∙ ap (λ k. v + k) en in
    let ekept : kept_of x.line.used ≡ 1 = kept_one c.used v in
    let ewin : x.window ++ b ≡ T = same_window s b v short in
    ap₂ (λ o g. read_on c S q h o g) eloss eused
    ∙ glue s b q h v n few fits c had l
    ∙ sym (ap (after x) (
    found_reads x.line p k at (x.window ++ b) refl
    ∙ ap (read_from x.line) ewin
    ∙ ap (λ k. read_on x.line T q k (loss_from T q k m) (used_of (loss_from T q k m) m)) ekept
    ∙ ap (read_on x.line T q 1 l) en
    ))

-- Reading is cut anywhere

module _ (c : Line) (p k : ℕ) (at : c.found ≡ At p k) (s b : List ℕ) where
  abbrev bit : ℕ
  bit = start_of c.found % 8

  abbrev left : ℕ
  left = kept_of c.used

  abbrev part : Option ℕ → ℕ → Grown
  part o m = read_on c s bit left o (used_of o m)

  abbrev both : Option ℕ → ℕ → Grown
  both o m = after (part o m) (grown (part o m).line ((part o m).window ++ b))

  pub reading_cut : read_from c (s ++ b) ≡ after (read_from c s) (grown (read_from c s).line ((read_from c s).window ++ b))
  reading_cut = by (loss_from s bit left (whole s bit)) refl (whole s bit) refl
    where
      by : (o : Option ℕ) → loss_from s bit left (whole s bit) ≡ o → (m : ℕ) → whole s bit ≡ m
          → read_from c (s ++ b) ≡ both (loss_from s bit left (whole s bit)) (whole s bit)
      by (Some f) e m w =
          ap (λ o. read_on c (s ++ b) bit left o (used_of o (whole (s ++ b) bit))) (loss_kept s b bit left f e)
          ∙ cut_lost c p k at s b bit left f (omega arith) e
          ∙ sym (ap (λ o. both o (whole s bit)) e)
      by None e zero w = cut_short c p k at s b bit ∙ sym (ap₂ both e w)
      by None e (suc v) w =
          let z : whole s bit ≡ v + 1 = omega arith in
          cut_whole c p k at s b v z (ap (loss_from s bit left) (sym z) ∙ e) ∙ sym (ap₂ both e z)
