-- Reading, as a line grows: what is read of multiframes that are whole is kept, and what is read of later ones adds to it.
use Rattle.std.specs.Prelude.{if◌then◌else◌}
use Prim.Native.Nat.{ℕ, zero, suc, ◌+◌, ◌-◌, ◌*◌, ◌/◌, ◌%◌, ◌≤◌, ◌<◌}
use mathlib.Core.Path.{◌≡◌, refl, ap, ap₂, ◌∙◌}
use mathlib.Core.Bool.{Bool, true, false, not}
use mathlib.Core.List.{List, [], ◌++◌}
use Rattle.std.specs.Prelude.{Option, None, Some}
use native.Mathlib.Omega.{arith}
use borrow.Author.Tests.{leb-true, leb-false, le-leb, lt-leb}
use lib.Dec.{eqb, leb}
use lib.ListN.{length, drop, length-append, length-drop}
use Rattle.base.specs.Choice.{or_else, when_so}
use Rattle.base.specs.Tab.{tab, tab_from, sum, count, first}
use Rattle.base.proofs.TabLaws.{tab_agree, tab_split, sum_ext, sum_le, sum_split, count_le}
use Rattle.line.specs.Bit.{bit_at, octet_at}
use Rattle.line.proofs.SpeltLaws.{spelt_agree}
use Rattle.crc.specs.Remainder.{check}
use Rattle.crc.specs.Striped.{read_as, striped}
use Rattle.e1.specs.Frame.{frame_at, slot_at}
use Rattle.e1.specs.Block.{block_bit, block_check, carried, agrees}
use Rattle.e1.specs.Payload.{frame_of, slot_of}
use Rattle.e1.proofs.WordLaws.{wrong_most}
use Rattle.measure.specs.Reading.{whole, wrong_bits_of, wrong, wrong_bit2, third, earlier, loss_from}
use Rattle.measure.specs.Reading.{slots, slots0, payload_of, slot0_of, word_errors, word_bits, agrees_in, disagreeing, zeros_e, far_end}
use Rattle.measure.proofs.Laws.{payload_length, slot0_length}
use Rattle.measure.proofs.Runs.{loss_in}
use Rattle.measure.proofs.FromLaws.{first_ext, wrong_bits_later, wrong_later, bit2_later, from_among, from_more}
use Rattle.growth.specs.Growth.{later_by}
use Rattle.growth.proofs.Sees.{Sees, front_sees, bit_seen, field_seen, word_seen}

-- Sums in two parts

pub sum_later : (a b : ℕ) (f g : ℕ → ℕ) → ((i : ℕ) → f (a + i) ≡ g i) → sum (a + b) f ≡ sum a f + sum b g
sum_later a b f g h = sum_split a b f ∙ ap (λ x. sum a f + x) (sum_ext b (λ i. f (a + i)) g (λ i l. h i))

-- Frames counted from d earlier

pub first_later_by : (d n : ℕ) (f : ℕ → Option ℕ) → first n (λ i. later_by d (f i)) ≡ later_by d (first n f)
unfolding first
first_later_by d zero f = refl
first_later_by d (suc n) f = ap (λ o. or_else o (later_by d (f n))) (first_later_by d n f) ∙ go (first n f) (f n)
  where
    go : (x y : Option ℕ) → or_else (later_by d x) (later_by d y) ≡ later_by d (or_else x y)
    go None y = refl
    go (Some i) y = refl

pub when_later_by : (d : ℕ) (b : Bool) (i : ℕ) → when_so b (d + i) ≡ later_by d (when_so b i)
when_later_by d true i = refl
when_later_by d false i = refl

leb_later : (d f g : ℕ) → leb (d + f) (d + g) ≡ leb f g
leb_later d f g = go (leb f g) refl
  where
    go : (b : Bool) → leb f g ≡ b → leb (d + f) (d + g) ≡ b
    go true e = let l = leb-true f g e in le-leb (d + f) (d + g) (omega arith)
    go false e = let l = leb-false f g e in lt-leb (d + f) (d + g) (omega arith)

pub earlier_later_by : (d : ℕ) (x y : Option ℕ) → earlier (later_by d x) (later_by d y) ≡ later_by d (earlier x y)
earlier_later_by d None y = refl
earlier_later_by d (Some f) None = refl
earlier_later_by d (Some f) (Some g) = ap (λ b. Some (if b then d + f else d + g)) (leb_later d f g) ∙ go (leb f g)
  where
    go : (b : Bool) → Some (if b then d + f else d + g) ≡ Some (d + (if b then f else g))
    go true = refl
    go false = refl

-- What a part that shows the multiframes reads is what the line reads

module _ (s t : List ℕ) (d n : ℕ) (h : Sees s t d n) where
  pub wrong_bits_seen : (a q i : ℕ) → a ≡ d + q → q + 512 * i + 512 ≤ n → wrong_bits_of s a i ≡ wrong_bits_of t q i
  wrong_bits_seen a q i e l = word_seen s t d n h (frame_at a (2 * i)) (frame_at q (2 * i)) (omega arith) (omega arith)

  pub wrong_seen : (a q i : ℕ) → a ≡ d + q → q + 512 * i + 512 ≤ n → wrong s a i ≡ wrong t q i
  unfolding wrong
  wrong_seen a q i e l = ap (λ x. not (eqb x 0)) (wrong_bits_seen a q i e l)

  pub bit2_seen : (a q i : ℕ) → a ≡ d + q → q + 512 * i + 512 ≤ n → wrong_bit2 s a i ≡ wrong_bit2 t q i
  unfolding wrong_bit2
  bit2_seen a q i e l =
      ap (λ x. eqb x 0)
      (bit_seen s t d n h (frame_at a (2 * i + 1) + 1) (frame_at q (2 * i + 1) + 1) (omega arith) (omega arith))

  third_seen : (T : List ℕ → ℕ → ℕ → Bool) → ((a q i : ℕ) → a ≡ d + q → q + 512 * i + 512 ≤ n → T s a i ≡ T t q i)
      → (a q i : ℕ) → a ≡ d + q → q + 512 * i + 512 ≤ n → third (T s a) i ≡ third (T t q) i
  unfolding third
  third_seen T k a q i e l =
      rw (k a q (i - 2) e (omega arith), k a q (i - 1) e (omega arith), k a q i e l)

  loss_in_seen : (T : List ℕ → ℕ → ℕ → Bool) → ((a q i : ℕ) → a ≡ d + q → q + 512 * i + 512 ≤ n → T s a i ≡ T t q i)
      → (frame : ℕ → ℕ) (a q h m : ℕ) → a ≡ d + q → q + 4096 * m ≤ n
      → loss_in (T s a) frame (8 * h) (8 * (m - h)) ≡ loss_in (T t q) frame (8 * h) (8 * (m - h))
  loss_in_seen T k frame a q h m e l =
      first_ext (8 * (m - h)) (λ i. when_so (third (T s a) (8 * h + i)) (frame (8 * h + i)))
      (λ i. when_so (third (T t q) (8 * h + i)) (frame (8 * h + i)))
      (λ i j. ap (λ b. when_so b (frame (8 * h + i))) (third_seen T k a q (8 * h + i) e (omega arith)))

  pub loss_seen : (a q h m : ℕ) → a ≡ d + q → q + 4096 * m ≤ n → loss_from s a h m ≡ loss_from t q h m
  unfolding loss_from
  loss_seen a q h m e l =
      ap₂ earlier
      (loss_in_seen wrong wrong_seen (λ i. 2 * i) a q h m e l)
      (loss_in_seen wrong_bit2 bit2_seen (λ i. 2 * i + 1) a q h m e l)

  pub slots_seen : (a q m : ℕ) → a ≡ d + q → q + 256 * m ≤ n → slots s a m ≡ slots t q m
  unfolding slots
  slots_seen a q m e l =
      tab_agree (31 * m) (λ i. octet_at s (slot_at a (frame_of i) (slot_of i))) (λ i. octet_at t (slot_at q (frame_of i) (slot_of i)))
      (λ i j. field_seen s t d n h (slot_at a (frame_of i) (slot_of i)) (slot_at q (frame_of i) (slot_of i)) 8 (omega arith) (omega arith))

  pub slots0_seen : (a q m : ℕ) → a ≡ d + q → q + 256 * m ≤ n → slots0 s a m ≡ slots0 t q m
  unfolding slots0
  slots0_seen a q m e l =
      tab_agree m (λ f. octet_at s (slot_at a f 0)) (λ f. octet_at t (slot_at q f 0))
      (λ i j. field_seen s t d n h (slot_at a i 0) (slot_at q i 0) 8 (omega arith) (omega arith))

  block_bit_seen : (a q i : ℕ) → a ≡ d + q → q + i < n → block_bit s a i ≡ block_bit t q i
  unfolding read_as
  block_bit_seen a q i e l =
      ap (λ x. if eqb (i % 512) 0 then 0 else x) (bit_seen s t d n h (a + i) (q + i) (omega arith) l)

  pub check_seen : (a q : ℕ) → a ≡ d + q → q + 2048 ≤ n → block_check s a ≡ block_check t q
  unfolding block_check striped
  check_seen a q e l =
      ap (check 4) (tab_agree 2048 (block_bit s a) (block_bit t q) (λ i j. block_bit_seen a q i e (omega arith)))

  pub carried_seen : (a q : ℕ) → a ≡ d + q → q + 2048 ≤ n → carried s a ≡ carried t q
  unfolding carried
  carried_seen a q e l =
      spelt_agree 4 (λ j. bit_at s (a + 512 * j)) (λ j. bit_at t (q + 512 * j))
      (λ j k. bit_seen s t d n h (a + 512 * j) (q + 512 * j) (omega arith) (omega arith))

  pub agrees_seen : (a q : ℕ) → a ≡ d + q → q + 4096 ≤ n → agrees s a ≡ agrees t q
  unfolding agrees
  agrees_seen a q e l =
      ap₂ eqb (check_seen a q e (omega arith)) (carried_seen (a + 2048) (q + 2048) (omega arith) (omega arith))

  -- blocks, each with the check bits after it
  pub disagreeing_seen : (a p m : ℕ) → a ≡ d + p → p + 2048 * m + 2048 ≤ n → disagreeing s a m ≡ disagreeing t p m
  disagreeing_seen a p m e l =
      sum_ext m (λ b. if not (agrees_in s a b) then 1 else 0) (λ b. if not (agrees_in t p b) then 1 else 0)
      (λ b j. ap (λ c. if not c then 1 else 0) (agrees_seen (a + 2048 * b) (p + 2048 * b) (omega arith) (omega arith)))

  pub zeros_seen : (a q m : ℕ) → a ≡ d + q → q + 4096 * m + 4096 ≤ n → zeros_e s a m ≡ zeros_e t q m
  zeros_seen a q m e l =
      ap₂ (λ x y. (1 - x) + (1 - y))
      (bit_seen s t d n h (frame_at a (16 * m + 13)) (frame_at q (16 * m + 13)) (omega arith) (omega arith))
      (bit_seen s t d n h (frame_at a (16 * m + 15)) (frame_at q (16 * m + 15)) (omega arith) (omega arith))

-- What later multiframes add

-- the same test and frames, c of them and d frames later: a third in a row looks back two
module _ (t u : ℕ → Bool) (frame : ℕ → ℕ) (c d : ℕ)
    (test : (i : ℕ) → t (c + i) ≡ u i) (later : (i : ℕ) → frame (c + i) ≡ d + frame i) where
  third_later : (i : ℕ) → 2 ≤ i → third t (c + i) ≡ third u i
  unfolding third
  third_later i l =
      rw (
        le-leb 2 i l,
        le-leb 2 (c + i) (omega arith),
        at (c + i - 2) (i - 2) (omega arith),
        at (c + i - 1) (i - 1) (omega arith),
        test i,
      )
    where
      at : (j k : ℕ) → j ≡ c + k → t j ≡ u k
      at j k r = ap t r ∙ test k

  loss_in_later : (a b n : ℕ) → a ≡ c + b → 2 ≤ b → loss_in t frame a n ≡ later_by d (loss_in u frame b n)
  loss_in_later a b n e l =
      first_ext n (λ i. when_so (third t (a + i)) (frame (a + i))) (λ i. later_by d (when_so (third u (b + i)) (frame (b + i))))
      (λ i k.
      let z : a + i ≡ c + (b + i) = omega arith in
      ap (λ x. when_so (third t x) (frame x)) z
      ∙ ap₂ when_so (third_later (b + i) (omega arith)) (later (b + i))
      ∙ when_later_by d (third u (b + i)) (frame (b + i)))
      ∙ first_later_by d n (λ i. when_so (third u (b + i)) (frame (b + i)))

-- the loss, counted from multiframe j
pub loss_later : (s : List ℕ) (q j h m : ℕ) → 1 ≤ h → loss_from s q (j + h) (j + m) ≡ later_by (16 * j) (loss_from s (q + 4096 * j) h m)
unfolding loss_from
loss_later s q j h m l =
    let r = q + 4096 * j in
    let n = 8 * (m - h) in
    ap₂ earlier
    (on wrong wrong_later (λ i. 2 * i) (λ i. omega arith))
    (on wrong_bit2 bit2_later (λ i. 2 * i + 1) (λ i. omega arith))
    ∙ earlier_later_by (16 * j) (loss_in (wrong s r) (λ i. 2 * i) (8 * h) n) (loss_in (wrong_bit2 s r) (λ i. 2 * i + 1) (8 * h) n)
  where
    on : (T : List ℕ → ℕ → ℕ → Bool) → ((s : List ℕ) (q j i : ℕ) → T s q (8 * j + i) ≡ T s (q + 4096 * j) i)
        → (frame : ℕ → ℕ) → ((i : ℕ) → frame (8 * j + i) ≡ 16 * j + frame i)
        → loss_in (T s q) frame (8 * (j + h)) (8 * (j + m - (j + h))) ≡ later_by (16 * j) (loss_in (T s (q + 4096 * j)) frame (8 * h) (8 * (m - h)))
    on T test frame later =
        let e : 8 * (j + m - (j + h)) ≡ 8 * (m - h) = omega arith in
        ap (loss_in (T s q) frame (8 * (j + h))) e
        ∙ loss_in_later (T s q) (T s (q + 4096 * j)) frame (8 * j) (16 * j) (test s q j) later
        (8 * (j + h)) (8 * h) (8 * (m - h)) (omega arith) (omega arith)

-- The whole multiframes

pub whole_grows : (s b : List ℕ) (q : ℕ) → whole s q ≤ whole (s ++ b) q
unfolding whole
whole_grows s b q = omega (arith, length-append s b)

-- so many of them are there
pub whole_there : (s : List ℕ) (q v : ℕ) → v + 1 ≤ whole s q → q + 4096 * (v + 1) ≤ 8 * length s
unfolding whole
whole_there s q v h = omega arith

pub there_whole : (s : List ℕ) (q v : ℕ) → q + 4096 * v ≤ 8 * length s → v ≤ whole s q
unfolding whole
there_whole s q v h = omega arith

-- v of them are let go
pub whole_later : (s : List ℕ) (q v : ℕ) → q + 4096 * v ≤ 8 * length s → whole s q ≡ v + whole (drop (512 * v) s) q
unfolding whole
whole_later s q v h = rw (length-drop (512 * v) s) (go (length s) h)
  where
    go : (L : ℕ) → q + 4096 * v ≤ 8 * L → (8 * L - q) / 4096 ≡ v + (8 * (L - 512 * v) - q) / 4096
    go L h =
        let a : 8 * L - q ≡ 4096 * v + (8 * (L - 512 * v) - q) = omega arith in
        omega arith

-- the loss of all of them stays where it is
pub loss_kept : (s b : List ℕ) (q h f : ℕ) → loss_from s q h (whole s q) ≡ Some f → loss_from (s ++ b) q h (whole (s ++ b) q) ≡ Some f
loss_kept s b q h f e =
    let m = whole s q in
    let some-there : m - 1 + 1 ≡ m = omega (arith, (from_among s q h m f e).1) in
    let fits : q + 4096 * m ≤ 8 * length s = omega (arith, whole_there s q (m - 1) (omega arith)) in
    from_more (s ++ b) q h m f (loss_seen (s ++ b) s 0 (8 * length s) (front_sees s b) q q h m (omega arith) fits ∙ e)
    (whole (s ++ b) q) (whole_grows s b q)

-- blocks
pub disagreeing_adds : (s : List ℕ) (p a b : ℕ) → disagreeing s p (a + b) ≡ disagreeing s p a + disagreeing s (p + 2048 * a) b
disagreeing_adds s p a b =
    sum_later a b (λ i. if not (agrees_in s p i) then 1 else 0) (λ i. if not (agrees_in s (p + 2048 * a) i) then 1 else 0)
    (λ i. let e : p + 2048 * (a + i) ≡ p + 2048 * a + 2048 * i = omega arith in ap (λ x. if not (agrees s x) then 1 else 0) e)

-- A count over multiframes: it is 0 of none, is seen in a part, and adds up
pub record Counts (X : List ℕ → ℕ → ℕ → ℕ) : Type 0 where
  pub none : (s : List ℕ) (q : ℕ) → X s q 0 ≡ 0
  pub seen : (s t : List ℕ) (d n : ℕ) → Sees s t d n → (a q g : ℕ) → a ≡ d + q → q + 4096 * g ≤ n → X s a g ≡ X t q g
  pub adds : (s : List ℕ) (q g n : ℕ) → X s q (g + n) ≡ X s q g + X s (q + 4096 * g) n

pub words_count : Counts word_errors
unfolding word_errors sum
words_count =
    record {
      none = λ s q. refl;
      seen = λ s t d n h a q g e l.
          sum_ext (8 * g) (λ i. if wrong s a i then 1 else 0) (λ i. if wrong t q i then 1 else 0)
          (λ i j. ap (λ b. if b then 1 else 0) (wrong_seen s t d n h a q i e (omega arith)));
      adds = λ s q g n.
          let e : 8 * (g + n) ≡ 8 * g + 8 * n = omega arith in
          ap (λ x. count x (wrong s q)) e
          ∙ sum_later (8 * g) (8 * n) (λ i. if wrong s q i then 1 else 0) (λ i. if wrong s (q + 4096 * g) i then 1 else 0)
          (λ i. ap (λ b. if b then 1 else 0) (wrong_later s q g i));
    }

pub bits_count : Counts word_bits
unfolding word_bits sum
bits_count =
    record {
      none = λ s q. refl;
      seen = λ s t d n h a q g e l.
          sum_ext (8 * g) (wrong_bits_of s a) (wrong_bits_of t q) (λ i j. wrong_bits_seen s t d n h a q i e (omega arith));
      adds = λ s q g n.
          let e : 8 * (g + n) ≡ 8 * g + 8 * n = omega arith in
          ap (λ x. sum x (wrong_bits_of s q)) e
          ∙ sum_later (8 * g) (8 * n) (wrong_bits_of s q) (wrong_bits_of s (q + 4096 * g)) (wrong_bits_later s q g);
    }

pub far_end_count : Counts far_end
unfolding far_end sum
far_end_count =
    record {
      none = λ s q. refl;
      seen = λ s t d n h a q g e l. sum_ext g (zeros_e s a) (zeros_e t q) (λ m j. zeros_seen s t d n h a q m e (omega arith));
      adds = λ s q g n. sum_later g n (zeros_e s q) (zeros_e s (q + 4096 * g)) (zeros_later s q g);
    }
  where
    zeros_later : (s : List ℕ) (q g m : ℕ) → zeros_e s q (g + m) ≡ zeros_e s (q + 4096 * g) m
    zeros_later s q g m =
        let x : frame_at q (16 * (g + m) + 13) ≡ frame_at (q + 4096 * g) (16 * m + 13) = omega arith in
        let y : frame_at q (16 * (g + m) + 15) ≡ frame_at (q + 4096 * g) (16 * m + 15) = omega arith in
        ap₂ (λ x y. (1 - bit_at s x) + (1 - bit_at s y)) x y

-- An output of multiframes: u octets each, seen in a part, and joined
pub record Leaves (Y : List ℕ → ℕ → ℕ → List ℕ) (u : ℕ) : Type 0 where
  pub sized : (s : List ℕ) (q g : ℕ) → length (Y s q g) ≡ u * g
  pub empty : (s : List ℕ) (q : ℕ) → Y s q 0 ≡ []
  pub seen : (s t : List ℕ) (d n : ℕ) → Sees s t d n → (a q g : ℕ) → a ≡ d + q → q + 4096 * g ≤ n → Y s a g ≡ Y t q g
  pub adds : (s : List ℕ) (q g n : ℕ) → Y s q (g + n) ≡ Y s q g ++ Y s (q + 4096 * g) n

pub payload_adds : (s : List ℕ) (q g n : ℕ) → payload_of s q (g + n) ≡ payload_of s q g ++ payload_of s (q + 4096 * g) n
unfolding slots
payload_adds s q g n =
    let f : ℕ → ℕ = λ i. octet_at s (slot_at q (frame_of i) (slot_of i)) in
    let e : 31 * (16 * (g + n)) ≡ 31 * (16 * g) + 31 * (16 * n) = omega arith in
    let r : (i : ℕ) → slot_at q (frame_of (31 * (16 * g) + i)) (slot_of (31 * (16 * g) + i)) ≡ slot_at (q + 4096 * g) (frame_of i) (slot_of i) =
    λ i. omega arith in
    ap (λ x. tab x f) e
    ∙ tab_split (31 * (16 * g)) (31 * (16 * n)) f
    ∙ ap (λ x. payload_of s q g ++ x)
    (tab_agree (31 * (16 * n)) (λ i. f (31 * (16 * g) + i)) (λ i. octet_at s (slot_at (q + 4096 * g) (frame_of i) (slot_of i)))
    (λ i h. ap (octet_at s) (r i)))

pub slot0_adds : (s : List ℕ) (q g n : ℕ) → slot0_of s q (g + n) ≡ slot0_of s q g ++ slot0_of s (q + 4096 * g) n
unfolding slots0
slot0_adds s q g n =
    let f : ℕ → ℕ = λ i. octet_at s (slot_at q i 0) in
    let e : 16 * (g + n) ≡ 16 * g + 16 * n = omega arith in
    let r : (i : ℕ) → slot_at q (16 * g + i) 0 ≡ slot_at (q + 4096 * g) i 0 = λ i. omega arith in
    ap (λ x. tab x f) e
    ∙ tab_split (16 * g) (16 * n) f
    ∙ ap (λ x. slot0_of s q g ++ x)
    (tab_agree (16 * n) (λ i. f (16 * g + i)) (λ i. octet_at s (slot_at (q + 4096 * g) i 0)) (λ i h. ap (octet_at s) (r i)))

pub payload_leaves : Leaves payload_of 496
unfolding slots tab_from
payload_leaves =
    record {
      sized = payload_length;
      empty = λ s q. refl;
      seen = λ s t d n h a q g e l. slots_seen s t d n h a q (16 * g) e (omega arith);
      adds = payload_adds;
    }

pub slot0_leaves : Leaves slot0_of 16
unfolding slots0 tab_from
slot0_leaves =
    record {
      sized = slot0_length;
      empty = λ s q. refl;
      seen = λ s t d n h a q g e l. slots0_seen s t d n h a q (16 * g) e (omega arith);
      adds = slot0_adds;
    }

-- Few are counted

pub words_few : (s : List ℕ) (q g : ℕ) → word_errors s q g ≤ 8 * g
unfolding word_errors
words_few s q g = count_le (8 * g) (wrong s q)

pub bits_few : (s : List ℕ) (q g : ℕ) → word_bits s q g ≤ 56 * g
unfolding word_bits
bits_few s q g = omega (arith, sum_le (8 * g) 7 (wrong_bits_of s q) (λ i l. wrong_most s (frame_at q (2 * i))))

pub far_end_few : (s : List ℕ) (q g : ℕ) → far_end s q g ≤ 2 * g
unfolding far_end
far_end_few s q g = omega (arith, sum_le g 2 (zeros_e s q) (λ m l. omega arith))

pub disagreeing_few : (s : List ℕ) (p n : ℕ) → disagreeing s p n ≤ n
disagreeing_few s p n = count_le n (λ b. not (agrees_in s p b))
