-- What every image leaves of every line: no octet is lost count of, at most 2,048 are kept, what leaves is whole
-- multiframes, and the numbers grow by no more than the octets that came.
use Prim.Native.Nat.{ℕ, zero, suc, ◌+◌, ◌-◌, ◌*◌, ◌/◌, ◌%◌, ◌≤◌, ◌<◌}
use mathlib.Core.Path.{◌≡◌, refl}
use mathlib.Core.List.{List}
use Rattle.std.specs.Prelude.{Option, None, Some}
use native.Mathlib.Omega.{arith}
use lib.ListN.{length, drop, length-drop}
use Rattle.align.specs.Place.{found_in, start_of, first_standing, first_basic}
use Rattle.align.specs.declared.Found.{Found}
use Rattle.align.specs.declared.Found.TheVariants.{At, BasicAt, Nothing}
use Rattle.align.proofs.Laws.{found_at, first_within}
use Rattle.measure.specs.Reading.{whole, loss_from, lost_at, used_of, compared}
use Rattle.measure.proofs.Laws.{payload_length, slot0_length}
use Rattle.measure.proofs.FromLaws.{from_among, used_upto}
use Rattle.growth.specs.declared.Line.{Line}
use Rattle.growth.specs.Growth.{Grown, unread, kept_of, gone_of, later_by, read_on, read_from, noted, waits, searched, passed}
use Rattle.growth.specs.Growth.{grown_by, grown}
use Rattle.growth.specs.Small.{Small}
use Rattle.growth.proofs.Counts.{words_few, bits_few, far_end_few, disagreeing_few}

-- of n octets, those let go and those kept
pub record Bounded (n : ℕ) (x : Grown) : Type 0 where
  pub octets : x.line.before + length x.window ≡ n
  pub short : length x.window ≤ 2048
  pub payload : length x.payload ≡ 496 * x.multiframes
  pub slot0 : length x.slot0 ≡ 16 * x.multiframes

-- what the reading lets go is there, and leaves 1,024 octets at most
gone_fits : (s : List ℕ) (q : ℕ) → q < 8 → (l : Option ℕ)
    → (gone_of (length s) (used_of l (whole s q)) l ≤ length s) × (length s ≤ gone_of (length s) (used_of l (whole s q)) l + 1024)
unfolding whole
gone_fits s q h None = (omega arith, omega arith)
gone_fits s q h (Some f) = (omega arith, omega arith)

read_short : (c : Line) (s : List ℕ) → length (read_from c s).window ≤ 1024
unfolding read_on
read_short c s =
    let q = start_of c.found % 8 in
    let m = whole s q in
    let l = loss_from s q (kept_of c.used) m in
    omega (arith, (gone_fits s q (omega arith) l).1, length-drop (gone_of (length s) (used_of l m) l) s)

read_bounded : (c : Line) (s : List ℕ) → Bounded (c.before + length s) (read_from c s)
unfolding read_on
read_bounded c s =
    let q = start_of c.found % 8 in
    let m = whole s q in
    let h = kept_of c.used in
    let l = loss_from s q h m in
    let g = used_of l m in
    record {
      octets = omega (arith, (gone_fits s q (omega arith) l).0, length-drop (gone_of (length s) g l) s);
      short = omega (arith, read_short c s);
      payload = payload_length s (q + 4096 * h) (g - h);
      slot0 = slot0_length s (q + 4096 * h) (g - h);
    }

waits_bounded : (before : ℕ) (found : Found) (s : List ℕ) → Bounded (before + length s) (waits before found s)
waits_bounded before found s =
    let long = length-drop (length s - 2048) s in
    record { octets = omega (arith, long); short = omega (arith, long); payload = refl; slot0 = refl }

-- the start of the first multiframe lies in the image
pub start_within : (s : List ℕ) (p k : ℕ) → found_in s ≡ At p k → p + 512 * k ≤ 8 * length s
start_within s p k e =
    let w = first_within s p k (found_at (first_standing s) (first_basic s) p k e) in
    omega (arith, w.0, w.1)

searched_bounded : (before : ℕ) (known : Found) (s : List ℕ) (f : Found) → found_in s ≡ f
    → Bounded (before + length s) (searched before known s f)
searched_bounded before known s (At p k) e =
    let q = p + 512 * k in
    let w = start_within s p k e in
    let n : before + q / 8 + length (drop (q / 8) s) ≡ before + length s = omega (arith, w, length-drop (q / 8) s) in
    rw n at (read_bounded (unread (before + q / 8) (At (8 * before + p) k)) (drop (q / 8) s))
searched_bounded before known s (BasicAt p) e = waits_bounded before (noted known (BasicAt (8 * before + p))) s
searched_bounded before known s Nothing e = waits_bounded before known s

passed_bounded : (c : Line) (s : List ℕ) → Bounded (c.before + length s) (passed c s)
passed_bounded c s = record { octets = omega arith; short = omega arith; payload = refl; slot0 = refl }

pub grown_bounded : (c : Line) (s : List ℕ) → Bounded (c.before + length s) (grown c s)
grown_bounded c s = by c.found c.lost
  where
    by : (f : Found) (l : ℕ) → Bounded (c.before + length s) (grown_by f l c s)
    by (At p k) zero = read_bounded c s
    by (At p k) (suc l) = passed_bounded c s
    by (BasicAt p) l = searched_bounded c.before (BasicAt p) s (found_in s) refl
    by Nothing l = searched_bounded c.before Nothing s (found_in s) refl

module _ (c : Line) (s : List ℕ) where
  pub grown_octets : (grown c s).line.before + length (grown c s).window ≡ c.before + length s
  grown_octets = (grown_bounded c s).octets

  pub grown_short : length (grown c s).window ≤ 2048
  grown_short = (grown_bounded c s).short

  pub grown_sizes : (length (grown c s).payload ≡ 496 * (grown c s).multiframes)
      × (length (grown c s).slot0 ≡ 16 * (grown c s).multiframes)
  grown_sizes = ((grown_bounded c s).payload, (grown_bounded c s).slot0)

-- The numbers grow by no more than the octets that came

used_few : (s : List ℕ) (q h : ℕ) → 512 * used_of (loss_from s q h (whole s q)) (whole s q) ≤ length s
unfolding whole
used_few s q h = omega (arith, used_upto s q h (whole s q))

-- the loss as the line counts it, where the multiframes before the image are u at most
lost_few : (s : List ℕ) (q h d u : ℕ) → d ≤ u → (l : Option ℕ) → loss_from s q h (whole s q) ≡ l
    → lost_at (later_by (16 * d) l) ≤ 16 * (u + length s)
unfolding whole
lost_few s q h d u k None e = omega arith
lost_few s q h d u k (Some f) e = omega (arith, (from_among s q h (whole s q) f e).1)

-- the start apart: it may be that of a place in the image
read_grows : (c : Line) (s : List ℕ) (n N : ℕ) → n + length s ≡ N → start_of c.found ≤ 1024 * N → c.before ≤ n → c.used ≤ n
    → c.words ≤ n → c.errored ≤ n → c.farend ≤ n → c.wordbits ≤ n → Small (read_from c s).line N
unfolding read_on
read_grows c s n N all start before used words errored farend wordbits =
    let q = start_of c.found % 8 in
    let m = whole s q in
    let h = kept_of c.used in
    let l = loss_from s q h m in
    let g = used_of l m in
    let few : 512 * g ≤ length s = used_few s q h in
    record {
      before = omega (arith, (gone_fits s q (omega arith) l).0);
      start = start;
      used = omega arith;
      lost = omega (arith, lost_few s q h (c.used - h) n (omega arith) l refl);
      words = omega (arith, words_few s (q + 4096 * h) (g - h));
      errored = omega (arith, disagreeing_few s (q + 2048 * compared h) (compared g - compared h));
      farend = omega (arith, far_end_few s (q + 4096 * h) (g - h));
      wordbits = omega (arith, bits_few s (q + 4096 * h) (g - h));
    }

pub read_small : (c : Line) (s : List ℕ) (n : ℕ) → Small c n → Small (read_from c s).line (n + length s)
read_small c s n h =
    read_grows c s n (n + length s) refl (omega (arith, h.start)) h.before h.used h.words h.errored h.farend h.wordbits

unread_small : (before n : ℕ) (found : Found) → before ≤ n → start_of found ≤ 1024 * n → Small (unread before found) n
unread_small before n found h k =
    record {
      before = h;
      start = k;
      used = omega arith;
      lost = omega arith;
      words = omega arith;
      errored = omega arith;
      farend = omega arith;
      wordbits = omega arith;
    }

-- the start of a place with basic alignment alone is said as 0, as that of nothing is
noted_start : (known : Found) (p : ℕ) → start_of (noted known (BasicAt p)) ≡ 0
noted_start (At q k) p = refl
noted_start (BasicAt q) p = refl
noted_start Nothing p = refl

pub searched_small : (before : ℕ) (known : Found) (s : List ℕ) (n : ℕ) → before ≤ n → start_of known ≤ 1024 * n
    → Small (searched before known s (found_in s)).line (n + length s)
searched_small before known s n h k = by (found_in s) refl
  where
    by : (f : Found) → found_in s ≡ f → Small (searched before known s f).line (n + length s)
    by (At p k) e =
        let q = p + 512 * k in
        let w = start_within s p k e in
        let z : 0 ≤ n + q / 8 = omega arith in
        read_grows (unread (before + q / 8) (At (8 * before + p) k)) (drop (q / 8) s) (n + q / 8) (n + length s)
        (omega (arith, w, length-drop (q / 8) s)) (omega (arith, w)) (omega arith) z z z z z
    by (BasicAt p) e =
        let z = noted_start known (8 * before + p) in
        unread_small (before + (length s - 2048)) (n + length s) (noted known (BasicAt (8 * before + p))) (omega arith) (omega (arith, z))
    by Nothing e = unread_small (before + (length s - 2048)) (n + length s) known (omega arith) (omega (arith, k))

passed_small : (c : Line) (s : List ℕ) (n : ℕ) → Small c n → Small (passed c s).line (n + length s)
passed_small c s n h =
    record {
      before = omega (arith, h.before);
      start = omega (arith, h.start);
      used = omega (arith, h.used);
      lost = omega (arith, h.lost);
      words = omega (arith, h.words);
      errored = omega (arith, h.errored);
      farend = omega (arith, h.farend);
      wordbits = omega (arith, h.wordbits);
    }

pub grown_small : (c : Line) (s : List ℕ) (n : ℕ) → Small c n → Small (grown c s).line (n + length s)
grown_small c s n h = by c.found c.lost
  where
    by : (f : Found) (l : ℕ) → Small (grown_by f l c s).line (n + length s)
    by (At p k) zero = read_small c s n h
    by (At p k) (suc l) = passed_small c s n h
    by (BasicAt p) l = searched_small c.before (BasicAt p) s n h.before (omega arith)
    by Nothing l = searched_small c.before Nothing s n h.before (omega arith)
