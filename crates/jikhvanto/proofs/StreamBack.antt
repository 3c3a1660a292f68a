-- Unpacking a packed stream gives it back, and what a chunk makes of a stream can be packed.
use Rattle.std.specs.Prelude.{if◌then◌else◌}
use Prim.Native.Nat.{ℕ, zero, suc, ◌+◌, ◌-◌, ◌*◌, ◌/◌, ◌%◌, ◌^◌, ◌≤◌, ◌<◌}
use mathlib.Core.Path.{◌≡◌, refl, sym, ap, ap₂, ◌∙◌}
use mathlib.Core.Bool.{Bool, true, false, ◌||◌}
use mathlib.Core.List.{List, ◌++◌}
use mathlib.Mathlib.Data.Bool.Basic.{or-eq-false-eq-eq-false-and-eq-false}
use native.Mathlib.Nat.{div-one, div-eq_of_lt, div-div-eq-div-mul, pow-suc}
use native.Mathlib.Omega.{arith}
use borrow.Author.Tests.{ltb-false}
use lib.Dec.{eqb, ltb, lit≤}
use lib.ListN.{length, get_or, take, replicate, length-append, length-take, get_or-append, replicate-append-replicate}
use mir.Val.{bool_byte}
use Rattle.base.specs.Tab.{tab_from}
use Rattle.base.proofs.TabLaws.{get_d_tab}
use Rattle.line.specs.Bit.{field}
use Rattle.line.specs.Spelt.{spelt}
use Rattle.line.proofs.BitLaws.{field_add, field_in, field_lt}
use Rattle.align.specs.Place.{found_in, place_of, k_of, start_of}
use Rattle.align.specs.declared.Found.{Found}
use Rattle.align.specs.declared.Found.TheVariants.{At, BasicAt, Nothing}
use Rattle.align.proofs.Laws.{finds_basic}
use Rattle.growth.specs.Growth.{read_on, searched, grown_by, grown}
use Rattle.growth.specs.declared.Line.{Line}
use Rattle.growth.proofs.Bounds.{grown_small, grown_short, start_within}
use Rattle.stream.specs.Entry.{starting, is_large, is_far, is_over, grown_of, feed_accept}
use Rattle.stream.specs.declared.Stream.{Stream}
use Rattle.stream.proofs.EntryLaws.{sound}
use Rattle.line.specs.Spelt.{spelt_octet}
use Rattle.jikhvanto.specs.Stream.{number_at, found_by, stream_of, window_of, found_number, stream_numbers}
use Rattle.jikhvanto.specs.Stream.{spelt_numbers, octets_of_stream}
use Rattle.jikhvanto.proofs.Laws.{flag_back}
use Rattle.jikhvanto.proofs.StreamLaws.{number_from, spelt_at, spelt_length, window_behind}

-- A number that eight octets of s spell, from octet a on.
module _ (s : List ℕ) (a n : ℕ) (octets : (j : ℕ) → j < 8 → get_or s (a + j) 0 ≡ spelt_octet n j) where
  next_octet : (j : ℕ) → j < 8 → field s (8 * a) (8 * suc j) ≡ 256 * field s (8 * a) (8 * j) + spelt_octet n j
  next_octet j h =
      let x : 8 * j + 8 ≡ 8 * suc j = omega arith in
      let y : 8 * a + 8 * j ≡ 8 * (a + j) + 0 = omega arith in
      let z : field s (8 * (a + j) + 0) 8 ≡ get_or s (a + j) 0 / 2 ^ 0 % 2 ^ 8 = field_in s (a + j) 0 8 0 refl in
      rw (← x, field_add s (8 * a) (8 * j) 8, y, z, octets j h, div-one) (omega arith)

  -- the first j of them
  front : (j m : ℕ) → j + m ≡ 8 → n < 18446744073709551616 → field s (8 * a) (8 * j) ≡ n / 256 ^ m
  unfolding field spelt
  front zero m e h = let z : m ≡ 8 = omega arith in sym (rw z (div-eq_of_lt h))
  front (suc j) m e h =
      let k : 7 - j ≡ m = omega arith in
      let x = n / 256 ^ m in
      let y : n / 256 ^ suc m ≡ x / 256 = ap (λ k. n / k) (pow-suc 256 m) ∙ sym (div-div-eq-div-mul n (256 ^ m) 256) in
      next_octet j (omega arith)
      ∙ ap₂ (λ a b. 256 * a + n / 256 ^ b % 256) (front j (suc m) (omega arith) h ∙ y) k
      ∙ omega arith

  pub spells_back : n < 18446744073709551616 → field s (8 * a) 64 ≡ n
  spells_back h = front 8 0 refl h ∙ div-one n

-- Numbers of 64 bits.

abbrev pub Word : ℕ → Type 0
Word n = n < 18446744073709551616

pub number_back : (numbers window : List ℕ) (i : ℕ) → i < 12 → Word (get_or numbers i 0)
    → number_at i (spelt_numbers numbers ++ window) ≡ get_or numbers i 0
unfolding spelt_numbers
number_back numbers window i h =
    λ w. sym (number_from i (spelt_numbers numbers ++ window))
    ∙ spells_back (spelt_numbers numbers ++ window) (8 * i) (get_or numbers i 0) octet w
  where
    octet : (j : ℕ) → j < 8 → get_or (spelt_numbers numbers ++ window) (8 * i + j) 0 ≡ spelt_octet (get_or numbers i 0) j
    octet j l =
        let a : (8 * i + j) / 8 ≡ i = omega arith in
        let b : (8 * i + j) % 8 ≡ j = omega arith in
        get_or-append (spelt_numbers numbers) window 0 (8 * i + j) (omega (arith, spelt_length numbers))
        ∙ get_d_tab 96 (spelt_at numbers) (8 * i + j) 0 (omega arith)
        ∙ ap₂ (λ n k. spelt_octet (get_or numbers n 0) k) a b

-- a stream whose numbers are such
pub record Fits (st : Stream) : Type 0 where
  pub fill : Word st.fill
  pub before : Word st.line.before
  pub place : Word (place_of st.line.found)
  pub k : Word (k_of st.line.found)
  pub used : Word st.line.used
  pub lost : Word st.line.lost
  pub words : Word st.line.words
  pub errored : Word st.line.errored
  pub farend : Word st.line.farend
  pub wordbits : Word st.line.wordbits

flag_word : (b : Bool) → Word (bool_byte b)
flag_word true = lit≤ tt
flag_word false = lit≤ tt

found_word : (f : Found) → Word (found_number f)
found_word (At p k) = lit≤ tt
found_word (BasicAt p) = lit≤ tt
found_word Nothing = lit≤ tt

found_back : (f : Found) → found_by (found_number f) (place_of f) (k_of f) ≡ f
unfolding found_by
found_back (At p k) = refl
found_back (BasicAt p) = refl
found_back Nothing = refl

module _ (st : Stream) (window : List ℕ) (fits : Fits st) where
  abbrev back : (i : ℕ) → i < 12 → Word (get_or (stream_numbers st) i 0)
      → number_at i (octets_of_stream st window) ≡ get_or (stream_numbers st) i 0
  back = number_back (stream_numbers st) window

  pub stream_back : stream_of (octets_of_stream st window) ≡ st
  unfolding stream_of stream_numbers
  stream_back = λ i.
      record {
        ended = (ap (λ n. eqb n 1) (back 0 (lit≤ tt) (flag_word st.ended)) ∙ flag_back st.ended) i;
        fill = back 1 (lit≤ tt) fits.fill i;
        line = record {
          before = back 2 (lit≤ tt) fits.before i;
          found = (found ∙ found_back st.line.found) i;
          used = back 6 (lit≤ tt) fits.used i;
          lost = back 7 (lit≤ tt) fits.lost i;
          words = back 8 (lit≤ tt) fits.words i;
          errored = back 9 (lit≤ tt) fits.errored i;
          farend = back 10 (lit≤ tt) fits.farend i;
          wordbits = back 11 (lit≤ tt) fits.wordbits i;
        };
      }
    where
      found : found_by (number_at 3 (octets_of_stream st window)) (number_at 4 (octets_of_stream st window)) (number_at 5 (octets_of_stream st window))
          ≡ found_by (found_number st.line.found) (place_of st.line.found) (k_of st.line.found)
      found = λ i.
          found_by (back 3 (lit≤ tt) (found_word st.line.found) i) (back 4 (lit≤ tt) fits.place i) (back 5 (lit≤ tt) fits.k i)

pub packed_window : (st : Stream) (window : List ℕ) → window_of (octets_of_stream st window) ≡ window
packed_window st window = window_behind (stream_numbers st) window

pub packed_stream_length : (st : Stream) (window : List ℕ) → length window ≡ 2048 → length (octets_of_stream st window) ≡ 2144
packed_stream_length st window e =
    length-append (spelt_numbers (stream_numbers st)) window ∙ omega (arith, spelt_length (stream_numbers st))

-- A start is all zeros.

starting_fits : Fits starting
starting_fits =
    record {
      fill = lit≤ tt;
      before = lit≤ tt;
      place = lit≤ tt;
      k = lit≤ tt;
      used = lit≤ tt;
      lost = lit≤ tt;
      words = lit≤ tt;
      errored = lit≤ tt;
      farend = lit≤ tt;
      wordbits = lit≤ tt;
    }

pub starting_zeros : octets_of_stream starting (replicate 2048 0) ≡ replicate 2144 0
unfolding spelt_numbers stream_numbers tab_from
starting_zeros = replicate-append-replicate 96 2048 0

pub zeros_start : (stream_of (replicate 2144 0) ≡ starting) × (window_of (replicate 2144 0) ≡ replicate 2048 0)
zeros_start = (
  ap stream_of (sym starting_zeros) ∙ stream_back starting (replicate 2048 0) starting_fits,
  ap window_of (sym starting_zeros) ∙ packed_window starting (replicate 2048 0),
)

-- Every stream that is unpacked fits.

number_word : (i : ℕ) (octets : List ℕ) → Word (number_at i octets)
unfolding number_at
number_word i octets = field_lt octets (64 * i) 64

pub unpacked_fits : (octets : List ℕ) → Fits (stream_of octets)
unfolding stream_of found_by
unpacked_fits octets =
    record {
      fill = number_word 1 octets;
      before = number_word 2 octets;
      place = (found (eqb (number_at 3 octets) 2) (eqb (number_at 3 octets) 1)).0;
      k = (found (eqb (number_at 3 octets) 2) (eqb (number_at 3 octets) 1)).1;
      used = number_word 6 octets;
      lost = number_word 7 octets;
      words = number_word 8 octets;
      errored = number_word 9 octets;
      farend = number_word 10 octets;
      wordbits = number_word 11 octets;
    }
  where
    found : (a b : Bool)
        → (let f = if a then At (number_at 4 octets) (number_at 5 octets) else if b then BasicAt (number_at 4 octets) else Nothing in
        Word (place_of f) × Word (k_of f))
    found true b = (number_word 4 octets, number_word 5 octets)
    found false true = (number_word 4 octets, lit≤ tt)
    found false false = (lit≤ tt, lit≤ tt)

-- And so does what a chunk makes of one that is not over.

-- the place lies in what came, or is the one that was known
module _ (c : Line) (s : List ℕ) (n : ℕ) (before : c.before ≤ n) where
  abbrev Near : Found → Type 0
  Near f = place_of f ≤ 8 * (n + length s)

  searched_near : (known : Found) → place_of known ≤ 8 * n → (f : Found) → found_in s ≡ f
      → Near (searched c.before known s f).line.found
  unfolding read_on
  searched_near known h (At p k) e = omega (arith, start_within s p k e)
  searched_near (At q k) h (BasicAt p) e = omega (arith, ((finds_basic s p).0 e).0.room)
  searched_near (BasicAt q) h (BasicAt p) e = omega arith
  searched_near Nothing h (BasicAt p) e = omega (arith, ((finds_basic s p).0 e).0.room)
  searched_near known h Nothing e = omega arith

  pub grown_near : place_of c.found ≤ 8 * n → Near (grown c s).line.found
  unfolding read_on
  grown_near h = by c.found c.lost h
    where
      by : (f : Found) (l : ℕ) → place_of f ≤ 8 * n → Near (grown_by f l c s).line.found
      by (At p k) zero g = omega arith
      by (At p k) (suc l) g = omega arith
      by (BasicAt p) l g = searched_near (BasicAt p) g (found_in s) refl
      by Nothing l g = searched_near Nothing g (found_in s) refl

near : (f : Found) → is_far f ≡ false → place_of f ≤ 134217728
unfolding is_far
near (At p k) e = ltb-false 134217728 p ((or-eq-false-eq-eq-false-and-eq-false (is_large p) (is_large k)).0 e).0
near (BasicAt p) e = ltb-false 134217728 p e
near Nothing e = omega arith

k_few : (f : Found) (n : ℕ) → start_of f ≤ n → k_of f ≤ n
k_few (At p k) n h = omega arith
k_few (BasicAt p) n h = omega arith
k_few Nothing n h = omega arith

module _ (st : Stream) (h : is_over st ≡ false) where
  first : (a b : Bool) → a || b ≡ false → a ≡ false
  first a b e = ((or-eq-false-eq-eq-false-and-eq-false a b).0 e).0

  not_far : is_far st.line.found ≡ false
  unfolding is_over
  not_far =
      let c = st.line in
      let e = first _ (is_large c.before) (first _ (is_large c.used) (first _ (is_large c.lost) (first _ (is_large c.words)
      (first _ (is_large c.errored) (first _ (is_large c.farend) (first _ (is_large c.wordbits) h)))))) in
      ((or-eq-false-eq-eq-false-and-eq-false (st.ended || ltb 2048 st.fill) (is_far c.found)).0 e).1

  pub fed_fits : (window t : List ℕ) → length t ≤ 16777216 → Fits (feed_accept (grown_of st window t)).stream
  fed_fits window t l =
      let c = st.line in
      let s = take st.fill window ++ t in
      let known = sound st h in
      let long = length-append (take st.fill window) t in
      let head = length-take st.fill window in
      let few = grown_small c s 134217728 known.small in
      record {
        fill = omega (arith, grown_short c s);
        before = omega (arith, few.before, long, head, known.fill);
        place = omega (arith, grown_near c s 134217728 known.small.before (omega (arith, near c.found not_far)), long, head, known.fill);
        k = omega (arith, k_few (grown c s).line.found _ few.start, long, head, known.fill);
        used = omega (arith, few.used, long, head, known.fill);
        lost = omega (arith, few.lost, long, head, known.fill);
        words = omega (arith, few.words, long, head, known.fill);
        errored = omega (arith, few.errored, long, head, known.fill);
        farend = omega (arith, few.farend, long, head, known.fill);
        wordbits = omega (arith, few.wordbits, long, head, known.fill);
      }
