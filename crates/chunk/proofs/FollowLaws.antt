-- A look in numbers is the reading from the start's bit on.
use Prim.Native.Nat.{ℕ, ◌+◌, ◌-◌, ◌*◌, ◌/◌, ◌%◌, ◌^◌, ◌≤◌}
use mathlib.Core.Path.{◌≡◌, refl, sym, ap, ap₂, ◌∙◌}
use mathlib.Core.List.{List}
use Rattle.std.specs.Prelude.{Option, None, Some}
use native.Mathlib.Omega.{arith}
use lib.ListN.{length, drop, length-drop}
use Rattle.line.specs.Bit.{Room}
use Rattle.align.specs.Place.{start_of}
use Rattle.base.specs.Tab.{first}
use Rattle.measure.specs.Reading.{whole, loss_from, lost_at, used_of, payload_of, slot0_of, word_errors, word_bits, compared, disagreeing, far_end}
use Rattle.measure.specs.declared.Tracked.{Tracked}
use Rattle.measure.proofs.FromLaws.{from_among, used_upto}
use Rattle.growth.specs.Growth.{Grown, kept_of, gone_of, later_by, read_on, read_from, after}
use Rattle.growth.specs.Small.{Small}
use Rattle.growth.specs.declared.Line.{Line}
use Rattle.growth.proofs.Counts.{Leaves, payload_leaves, slot0_leaves, words_few, bits_few}
use Rattle.chunk.specs.Look.{Few, gaining, still, Gains, told, Looks, Tracks}
use Rattle.chunk.specs.declared.Seen.{Seen}
use Rattle.chunk.specs.declared.Gain.{Gain}
use Rattle.chunk.proofs.GainLaws.{no_gain, gains_none, gain_of, gains_of}

-- more room
pub small_more : (c : Line) (m n : ℕ) → m ≤ n → Small c m → Small c n
small_more c m n l h =
    record {
      before = omega (arith, h.before);
      start = omega (arith, h.start);
      used = omega (arith, h.used);
      lost = omega (arith, h.lost);
      words = omega (arith, h.words);
      errored = omega (arith, h.errored);
      farend = omega (arith, h.farend);
      wordbits = omega (arith, h.wordbits);
    }

pub few_more : (r : Gain) (m n : ℕ) → m ≤ n → Few r m → Few r n
few_more r m n l h =
    record {
      multiframes = omega (arith, h.multiframes);
      words = omega (arith, h.words);
      errored = omega (arith, h.errored);
      farend = omega (arith, h.farend);
      wordbits = omega (arith, h.wordbits);
    }

pub looks_as : {x y : Grown} {s : List ℕ} {r : Seen} → x ≡ y → Looks y s r → Looks x s r
looks_as e l = rw e l

-- The loss, and what is let go

pub gone_within : (n g x : ℕ) (l : Option ℕ) → 512 * g ≤ n → x ≡ gone_of n g l → x ≤ n
gone_within n g x None h e = omega (arith, e)
gone_within n g x (Some f) h e = omega (arith, e)

lost_few : (s : List ℕ) (q h m : ℕ) → lost_at (loss_from s q h m) ≤ 16 * m
lost_few s q h m = go (loss_from s q h m) refl
  where
    go : (l : Option ℕ) → loss_from s q h m ≡ l → lost_at l ≤ 16 * m
    go None e = omega arith
    go (Some f) e = omega (arith, (from_among s q h m f e).1)

-- the whole multiframes, in octets and in bits
pub whole_is : (s : List ℕ) (q : ℕ) → whole s q ≡ (8 * length s - q) / 4096
unfolding whole
whole_is s q = refl

whole_octets : (s : List ℕ) (q g : ℕ) → g ≤ whole s q → 512 * g ≤ length s
unfolding whole
whole_octets s q g l = omega arith

pub whole_bits : (s : List ℕ) (q g : ℕ) → 1 ≤ whole s q → g ≤ whole s q → q + 4096 * g ≤ 8 * length s
unfolding whole
whole_bits s q g o l = omega arith

-- the used ones are there
pub tracked_room : (s : List ℕ) (q h : ℕ) (x : Tracked) → Tracks s q h x → length s ≤ 2 ^ 30 → 1 ≤ whole s q → Room s q (4096 * x.used)
tracked_room s q h x t n o = record { countable = omega arith; there = whole_bits s q x.used o t.at_most }

-- what `track` tells, with the number of whole multiframes in octets
pub tracks : (s : List ℕ) (q h m : ℕ) (x : Tracked) → m ≡ (8 * length s - q) / 4096
    → (x.loss ≡ loss_from s q h m) × (x.used ≡ used_of (loss_from s q h m) m) × (h ≤ x.used) × (x.used ≤ m)
    × (x.words ≡ word_errors s (q + 4096 * h) (x.used - h)) × (x.wordbits ≡ word_bits s (q + 4096 * h) (x.used - h))
    → Tracks s q h x
unfolding whole
tracks s q h m x e t =
    record {
      its_loss = t.0 ∙ ap (loss_from s q h) e;
      its_used = t.1 ∙ ap (λ y. used_of (loss_from s q h y) y) e;
      at_least = t.2;
      at_most = omega arith;
      its_words = t.4;
      its_wordbits = t.5;
    }

-- a look at the image: l is the loss, and g are used
module _ (c : Line) (s : List ℕ) (q h g : ℕ) (l : Option ℕ) (gain : Gain) (eq : q ≡ start_of c.found % 8) (eh : h ≡ kept_of c.used)
    (eg : g ≡ used_of (loss_from s q h (whole s q)) (whole s q)) (ef : l ≡ loss_from s q h (whole s q)) (k : Gains s q h g gain) where
  is_read : read_from c s ≡ read_on c s q h l g
  is_read =
      sym (
      ap₂ (read_on c s q h) ef eg
      ∙ ap₂ (λ b a. read_on c s b a (loss_from s b a (whole s b)) (used_of (loss_from s b a (whole s b)) (whole s b))) eq eh
      )

  looks_from : (gone lost from : ℕ) (line : Line) → gone ≡ gone_of (length s) g l → lost ≡ lost_at (later_by (16 * (c.used - h)) l)
      → ((Y : List ℕ → ℕ → ℕ → List ℕ) (u : ℕ) → Leaves Y u → Y s (q + 4096 * h) gain.multiframes ≡ Y s from gain.multiframes)
      → from + 4096 * gain.multiframes ≤ 8 * length s → line ≡ gaining c gain gone lost
      → Looks (read_from c s) s (record { line = line; gone = gone; multiframes = gain.multiframes; from = from })
  unfolding read_on
  looks_from gone lost from line egone elost out there eline =
      let m = whole s q in
      let n = gain.multiframes in
      let en : g - h ≡ n = sym k.its_multiframes in
      let eb : gone_of (length s) g l ≡ gone = sym egone in
      let el : lost_at (later_by (16 * (c.used - h)) l) ≡ lost = sym elost in
      let output : (Y : List ℕ → ℕ → ℕ → List ℕ) (u : ℕ) → Leaves Y u → Y s (q + 4096 * h) (g - h) ≡ Y s from n =
      λ Y u k. ap (Y s (q + 4096 * h)) en ∙ out Y u k in
      let same : (read_on c s q h l g).line ≡ line =
      (λ i. record {
        before = c.before + eb i;
        found = c.found;
        used = c.used + en i;
        lost = el i;
        words = c.words + sym k.its_words i;
        errored = c.errored + sym k.its_errored i;
        farend = c.farend + sym k.its_farend i;
        wordbits = c.wordbits + sym k.its_wordbits i;
      })
      ∙ sym eline in
      looks_as is_read record {
        tells = λ i. record {
          line = same i;
          window = drop (eb i) s;
          multiframes = en i;
          payload = output payload_of 496 payload_leaves i;
          slot0 = output slot0_of 16 slot0_leaves i;
        };
        there = there;
        within = gone_within (length s) g gone l (whole_octets s q g (omega (arith, eg, used_upto s q h m))) egone;
      }

-- one at an image in which x was tracked
pub follows : (c : Line) (s : List ℕ) (q h : ℕ) (x : Tracked) (gain : Gain) → q ≡ start_of c.found % 8 → h ≡ kept_of c.used
    → 1 ≤ whole s q → Tracks s q h x → Gains s q h x.used gain → (gone lost : ℕ) (line : Line)
    → gone ≡ gone_of (length s) x.used x.loss → lost ≡ lost_at (later_by (16 * (c.used - h)) x.loss) → line ≡ gaining c gain gone lost
    → Looks (read_from c s) s (record { line = line; gone = gone; multiframes = gain.multiframes; from = q + 4096 * h })
follows c s q h x gain eq eh o t k gone lost line egone elost eline =
    looks_from c s q h x.used x.loss gain eq eh t.its_used t.its_loss k gone lost (q + 4096 * h) line egone elost
    (λ Y u l. refl)
    (omega (arith, whole_bits s q x.used o t.at_most, t.at_least, k.its_multiframes)) eline

-- no multiframe is whole yet, but for the one kept
nothing_gained : (c : Line) → (still c).line ≡ gaining c no_gain 0 0
nothing_gained c =
    let same : (n : ℕ) → n ≡ n + 0 = λ n. omega arith in
    λ i. record {
      before = same c.before i;
      found = c.found;
      used = same c.used i;
      lost = 0;
      words = same c.words i;
      errored = same c.errored i;
      farend = same c.farend i;
      wordbits = same c.wordbits i;
    }

none_from : (s : List ℕ) (q h m : ℕ) → m ≤ h → loss_from s q h m ≡ None
unfolding loss_from first
none_from s q h m l = let z : m - h ≡ 0 = omega arith in rw z

pub stays : (c : Line) (s : List ℕ) (q h m : ℕ) → q ≡ start_of c.found % 8 → h ≡ kept_of c.used → m ≡ (8 * length s - q) / 4096
    → m ≤ h → Looks (read_from c s) s (still c)
unfolding whole
stays c s q h m eq eh em l =
    let w : whole s q ≤ h = omega arith in
    let e = none_from s q h (whole s q) w in
    let one : 512 * (whole s q - 1) ≡ 0 = omega arith in
    looks_from c s q h (whole s q) None no_gain eq eh (sym (ap (λ o. used_of o (whole s q)) e)) (sym e)
    (gains_none s q h (whole s q) w) 0 0 0 (still c).line (sym one) refl (λ Y u k. k.empty s (q + 4096 * h) ∙ sym (k.empty s 0))
    (omega arith) (nothing_gained c)

-- the line may be said otherwise
looks_line : {x : Grown} {s : List ℕ} {r : Seen} (line : Line) → line ≡ x.line → Looks x s r
    → Looks x s (record { line = line; gone = r.gone; multiframes = r.multiframes; from = r.from })
looks_line {x} {s} {r} line e l =
    record {
      tells = l.tells ∙ ap (λ y. told s (record { line = y; gone = r.gone; multiframes = r.multiframes; from = r.from }))
          (sym (e ∙ ap (λ (y : Grown). y.line) l.tells));
      there = l.there;
      within = l.within;
    }

-- what was tracked is little
pub tracked_few : (s : List ℕ) (q h : ℕ) (x : Tracked) → Tracks s q h x
    → (512 * x.used ≤ length s) × (lost_at x.loss ≤ length s) × (x.words ≤ length s) × (x.wordbits ≤ length s)
tracked_few s q h x t =
    let p = q + 4096 * h in
    let n = x.used - h in
    let o = whole_octets s q (whole s q) (omega arith) in (
      omega (arith, t.at_most),
      omega (arith, ap lost_at t.its_loss, lost_few s q h (whole s q)),
      omega (arith, t.at_most, t.its_words, words_few s p n),
      omega (arith, t.at_most, t.its_wordbits, bits_few s p n),
    )

-- Two images of a line, of which the first has no loss: what it tells

abbrev pub near_seen : Line → List ℕ → ℕ → ℕ → Tracked → Seen
near_seen c near q h x =
    record {
      line = gaining c (gain_of near q h x) (512 * (x.used - 1)) 0;
      gone = 512 * (x.used - 1);
      multiframes = x.used - h;
      from = q + 4096 * h;
    }

module _ (c : Line) (near : List ℕ) (q h : ℕ) (x : Tracked) (eq : q ≡ start_of c.found % 8) (eh : h ≡ kept_of c.used)
    (t : Tracks near q h x) (z : x.loss ≡ None) (o : 1 ≤ x.used) where
  pub near_looks : Looks (read_from c near) near (near_seen c near q h x)
  near_looks =
      follows c near q h x (gain_of near q h x) eq eh (omega (arith, t.at_most)) t (gains_of near q h x t) (512 * (x.used - 1)) 0
      (near_seen c near q h x).line (rw z) (rw z) refl

  module _ (far : List ℕ) (y : Tracked) (u : Tracks far q 1 y) (gone lost : ℕ) (eg : gone ≡ gone_of (length far) y.used y.loss)
      (el : lost ≡ lost_at (later_by (16 * (c.used + (x.used - h) - 1)) y.loss)) where
    -- and the second
    far_looks : Looks (read_from (read_from c near).line far) far (record {
      line = gaining (near_seen c near q h x).line (gain_of far q 1 y) gone lost;
      gone = gone;
      multiframes = y.used - 1;
      from = q + 4096;
    })
    far_looks =
        let one : 1 ≡ kept_of (c.used + (x.used - h)) = omega arith in
        let line = (near_seen c near q h x).line in
        looks_as (ap (λ (l : Grown). read_from l.line far) near_looks.tells)
        (follows line far q 1 y (gain_of far q 1 y) eq one (omega (arith, u.at_least, u.at_most)) u (gains_of far q 1 y u)
        gone lost (gaining line (gain_of far q 1 y) gone lost) eg el refl)

    -- what is known then
    pub both_line : (errored farend : ℕ)
        → errored ≡ disagreeing near (q + 2048 * compared h) (compared x.used - compared h) + disagreeing far (q + 2048) (compared y.used - 1)
        → farend ≡ far_end near (q + 4096 * h) (x.used - h) + far_end far (q + 4096) (y.used - 1)
        → gaining c (record {
          multiframes = x.used - h + (y.used - 1);
          words = x.words + y.words;
          errored = errored;
          farend = farend;
          wordbits = x.wordbits + y.wordbits;
        }) (512 * (x.used - 1) + gone) lost ≡ (read_from (read_from c near).line far).line
    both_line errored farend ee ef =
        (λ i. record {
          before = more c.before (512 * (x.used - 1) + gone) (512 * (x.used - 1)) gone refl i;
          found = c.found;
          used = more c.used (x.used - h + (y.used - 1)) (x.used - h) (y.used - 1) refl i;
          lost = lost;
          words = more c.words (x.words + y.words) x.words y.words refl i;
          errored = more c.errored errored (gain_of near q h x).errored (gain_of far q 1 y).errored ee i;
          farend = more c.farend farend (gain_of near q h x).farend (gain_of far q 1 y).farend ef i;
          wordbits = more c.wordbits (x.wordbits + y.wordbits) x.wordbits y.wordbits refl i;
        })
        ∙ sym (ap (λ (g : Grown). g.line) far_looks.tells)
      where
        more : (a n i j : ℕ) → n ≡ i + j → a + n ≡ a + i + j
        more a n i j e = omega arith

    pub far_looks_by : (line : Line) → line ≡ (read_from (read_from c near).line far).line
        → Looks (read_from (read_from c near).line far) far (record { line = line; gone = gone; multiframes = y.used - 1; from = q + 4096 })
    far_looks_by line e = looks_line line e far_looks

    pub told_both : (line : Line) → line ≡ (read_from (read_from c near).line far).line
        → after (read_from c near) (read_from (read_from c near).line far)
        ≡ after (told near (near_seen c near q h x)) (told far (record { line = line; gone = gone; multiframes = y.used - 1; from = q + 4096 }))
    told_both line e = ap₂ after near_looks.tells (far_looks_by line e).tells

-- without loss all whole multiframes are used
pub used_all : (s : List ℕ) (q h : ℕ) (x : Tracked) → Tracks s q h x → x.loss ≡ None → x.used ≡ whole s q
used_all s q h x t z = t.its_used ∙ ap (λ l. used_of l (whole s q)) (sym t.its_loss ∙ z)

-- after one nothing is kept
pub lost_keeps_none : (c : Line) (s : List ℕ) (q f : ℕ) (x : Tracked) → q ≡ start_of c.found % 8 → Tracks s q (kept_of c.used) x
    → x.loss ≡ Some f → length (read_from c s).window ≡ 0
unfolding read_on
lost_keeps_none c s q f x eq t z =
    let h = kept_of c.used in
    let g = x.used in
    let e : gone_of (length s) g x.loss ≡ length s = ap (gone_of (length s) g) z in
    ap (λ (y : Grown). length y.window) (is_read c s q h g x.loss (gain_of s q h x) eq refl t.its_used t.its_loss (gains_of s q h x t))
    ∙ omega (arith, length-drop (gone_of (length s) g x.loss) s, e)
