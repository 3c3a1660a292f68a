-- What stands where in the line that is written: each payload octet, each overhead bit, the word, the signal and the
-- checks. Every block but the last agrees with the check that is carried after it, and the check of the last is the one
-- that is answered.
use Rattle.std.specs.Prelude.{if◌then◌else◌}
use Prim.Native.Nat.{ℕ, zero, suc, ◌+◌, ◌-◌, ◌*◌, ◌/◌, ◌%◌, ◌^◌, ◌≤◌, ◌<◌}
use mathlib.Core.Path.{◌≡◌, refl, sym, ap, ap₂, ◌∙◌}
use mathlib.Core.Bool.{Bool, true, false, cond}
use mathlib.Core.List.{List, ◌++◌}
use native.Mathlib.Decide.{dec_lt}
use native.Mathlib.Nat.{not-suc-le-zero, mod-lt}
use native.Mathlib.Omega.{arith}
use borrow.Author.Tests.{eq-eqb, ne_eqb, lt-ltb, le-ltb}
use lib.Dec.{eqb, ltb, lit<, lit≤}
use lib.ListN.{length, get_or, length-append, get_or-append}
use lib.Seq.{get_or-append-add}
use Rattle.base.specs.Tab.{tab}
use Rattle.base.proofs.TabLaws.{tab_of, length_tab, get_d_tab}
use Rattle.line.specs.Bit.{bit_at, field, octet_at}
use Rattle.line.proofs.BitLaws.{bit_in, field_in}
use Rattle.line.specs.Spelt.{digit}
use Rattle.line.proofs.SpeltLaws.{spelt_agree, spelt_digits}
use Rattle.crc.specs.Remainder.{check}
use Rattle.line.specs.Signal.{signal}
use Rattle.e1.specs.Frame.{frame_at, slot_at, word_at, even_slot0, odd_slot0}
use Rattle.e1.specs.Block.{block_check, carried, agrees}
use Rattle.e1.specs.Payload.{index_of, frame_of, slot_of}
use Rattle.line.proofs.SignalLaws.{signal_lt}
use Rattle.e1.proofs.Laws.{index_of_lem, block_check_lt}
use Rattle.e1.proofs.WordLaws.{word_holds}
use Rattle.crc.proofs.StripedLaws.{striped_agree}
use Rattle.write.specs.Entry.{overhead_limit}
use Rattle.write.specs.Writing.{overhead_of, check_bit, bit1, slot0, octet_in, block, carries, written}
use Rattle.write.specs.Inputs.{Inputs}

-- inputs
pub limit_range : (h : ℕ) → (0 < overhead_limit h) × (overhead_limit h ≤ 128)
limit_range h = either (ltb (h % 8) 6)
  where
    either : (t : Bool) → (0 < (if t then 64 else 128)) × ((if t then 64 else 128) ≤ 128)
    either true = (lit< tt, lit≤ tt)
    either false = (lit< tt, lit≤ tt)

-- octets
pub length_block : (p o : List ℕ) (k b : ℕ) → length (block p o k b) ≡ 256
unfolding block
length_block p o k b = length_tab 256 _

pub length_written : (p o : List ℕ) (c b : ℕ) → length (written p o c b) ≡ 256 * b
unfolding written
length_written p o c zero = refl
length_written p o c (suc b) = rw (length-append, length_block, length_written p o c b) (omega arith)

-- block b stands at octet 256b
pub block_octet_at : (p o : List ℕ) (c n b i : ℕ) → b < n → i < 256
    → get_or (written p o c n) (256 * b + i) 0 ≡ get_or (block p o (carries p o c b) b) i 0
unfolding written
block_octet_at p o c zero b i hb hi = absurd (not-suc-le-zero hb)
block_octet_at p o c (suc n) b i hb hi =
    let w = written p o c n in
    let last = block p o (carries p o c n) n in
    let l = length_written p o c n in
    elim (dec_lt b n) [
      | yes h ↦ get_or-append w last 0 (256 * b + i) (omega arith) ∙ block_octet_at p o c n b i h hi
      | no h ↦
          let e : b ≡ n = omega arith in
          let e' : 256 * b + i ≡ length w + i = omega arith in
          ap (λ m. get_or (w ++ last) m 0) e' ∙ get_or-append-add w last i 0
          ∙ ap (λ x. get_or (block p o (carries p o c x) x) i 0) (sym e)
    ]

-- octet j of frame f stands at 32f + j
pub octet_at_lem : (p o : List ℕ) (c n f j : ℕ) → f < 8 * n → j < 32
    → get_or (written p o c n) (32 * f + j) 0 ≡ octet_in p o (carries p o c (f / 8)) f j
unfolding block
octet_at_lem p o c n f j hf hj =
    let b = f / 8 in
    let k = carries p o c b in
    let i = 32 * (f % 8) + j in
    let e : 32 * f + j ≡ 256 * b + i = omega arith in
    let e₁ : 8 * b + i / 32 ≡ f = omega arith in
    let e₂ : i % 32 ≡ j = omega arith in
    ap (λ x. get_or (written p o c n) x 0) e
    ∙ block_octet_at p o c n b i (omega arith) (omega arith)
    ∙ get_d_tab 256 (λ i. octet_in p o k (8 * b + i / 32) (i % 32)) i 0 (omega arith)
    ∙ ap₂ (octet_in p o k) e₁ e₂

-- checks
pub carries_lt : (p o : List ℕ) (c b : ℕ) → c < 16 → carries p o c b < 16
unfolding carries
carries_lt p o c zero h = h
carries_lt p o c (suc b) h = block_check_lt (block p o (carries p o c b) b) 0

-- a block's check, and the one that it carries, are those of its octets
module _ (s t : List ℕ) (b : ℕ) (h : (i : ℕ) → i < 256 → get_or s (256 * b + i) 0 ≡ get_or t i 0) where
  bit_of_octets : (i : ℕ) → i < 2048 → bit_at s (2048 * b + i) ≡ bit_at t (0 + i)
  bit_of_octets i hi =
      let q = i / 8 in
      let r = i % 8 in
      let e₁ : 2048 * b + i ≡ 8 * (256 * b + q) + r = omega arith in
      let e₂ : 0 + i ≡ 8 * q + r = omega arith in
      ap (bit_at s) e₁ ∙ bit_in s (256 * b + q) r (omega arith) ∙ ap (λ x. x / 2 ^ (7 - r) % 2) (h q (omega arith))
      ∙ sym (ap (bit_at t) e₂ ∙ bit_in t q r (omega arith))

  check_of_octets : block_check s (2048 * b) ≡ block_check t 0
  unfolding block_check
  check_of_octets =
      ap (check 4)
      (striped_agree 512 0 2048 (λ i. bit_at s (2048 * b + i)) (λ i. bit_at t (0 + i)) (λ i hi z. bit_of_octets i hi))

  carried_of_octets : carried s (2048 * b) ≡ carried t 0
  unfolding carried
  carried_of_octets =
      spelt_agree 4 (λ j. bit_at s (2048 * b + 512 * j)) (λ j. bit_at t (0 + 512 * j)) (λ j l. bit_of_octets (512 * j) (omega arith))

-- the check of block b
pub check_at_lem : (p o : List ℕ) (c n b : ℕ) → b < n → block_check (written p o c n) (2048 * b) ≡ carries p o c (suc b)
unfolding carries
check_at_lem p o c n b h =
    check_of_octets (written p o c n) (block p o (carries p o c b) b) b (λ i hi. block_octet_at p o c n b i h hi)

-- slot 0
even_slot0_lem : (k i x : ℕ) → slot0 k (2 * i) x ≡ even_slot0 (check_bit k (2 * i))
unfolding slot0
even_slot0_lem k i x = let e : 2 * i % 2 ≡ 0 = omega arith in rw e

odd_slot0_lem : (k i x : ℕ) → slot0 k (2 * i + 1) x ≡ odd_slot0 (bit1 (2 * i + 1) x) x
unfolding slot0
odd_slot0_lem k i x = let e : (2 * i + 1) % 2 ≡ 1 = omega arith in rw e

-- the check bits of a block carry the check that is given
pub block_carries : (p o : List ℕ) (k b : ℕ) → k < 16 → carried (block p o k b) 0 ≡ k
unfolding carried block
block_carries p o k b hk = spelt_agree 4 (λ j. bit_at (block p o k b) (0 + 512 * j)) (digit 4 k) at ∙ spelt_digits 4 k hk
  where
    at : (j : ℕ) → j < 4 → bit_at (block p o k b) (0 + 512 * j) ≡ digit 4 k j
    at j l =
        let f = 4 * b + j in
        let e₀ : 0 + 512 * j ≡ 8 * (64 * j) + 0 = omega arith in
        let e₁ : 8 * b + 64 * j / 32 ≡ 2 * f = omega arith in
        let e₂ : 64 * j % 32 ≡ 0 = omega arith in
        let e₃ : 2 * f / 2 % 4 ≡ j = omega arith in
        let d : (128 * check_bit k (2 * f) + 27) / 128 % 2 ≡ check_bit k (2 * f) = omega arith in
        ap (bit_at (block p o k b)) e₀ ∙ bit_in (block p o k b) (64 * j) 0 (lit< tt)
        ∙ ap (λ x. x / 128 % 2)
        (get_d_tab 256 (λ i. octet_in p o k (8 * b + i / 32) (i % 32)) (64 * j) 0 (omega arith) ∙ ap₂ (octet_in p o k) e₁ e₂
        ∙ even_slot0_lem k f (get_or o (2 * f / 2) 0))
        ∙ d ∙ ap (λ x. k / 2 ^ (3 - x) % 2) e₃

either_lt : (t : Bool) {a b m : ℕ} → a < m → b < m → cond t a b < m
either_lt true ha hb = ha
either_lt false ha hb = hb

bit1_lt : (f x : ℕ) → x < 128 → bit1 f x < 2
bit1_lt f x h = either_lt (ltb (f / 2 % 8) 6) (signal_lt (f / 2 % 8) (mod-lt (f / 2) (lit< tt))) (omega arith)

slot0_lt : (k f x : ℕ) → x < 128 → slot0 k f x < 256
unfolding slot0
slot0_lt k f x h = either_lt (eqb (f % 2) 0) (omega arith) (omega (arith, bit1_lt f x h))

odd_first : (b y : ℕ) → b < 2 → y < 64 → (128 * b + 64 + y) / 128 % 2 ≡ b
odd_first b y hb hy = omega arith

odd_second : (b y : ℕ) → y < 64 → (128 * b + 64 + y) / 64 % 2 ≡ 1
odd_second b y hy = let e : (128 * b + 64 + y) / 64 ≡ 2 * b + 1 = omega arith in ap (λ z. z % 2) e ∙ omega arith

-- n multiframes
module _ {p o : List ℕ} {c n : ℕ} (g : Inputs p o c n) where
  abbrev line : List ℕ
  line = written p o c (2 * n)

  -- the check that the block of frame f carries
  abbrev check_in : ℕ → ℕ
  check_in f = carries p o c (f / 8)

  pub overhead_lt : (h : ℕ) → get_or o h 0 < 128
  overhead_lt h = omega (arith, g.limited h, (limit_range h).1)

  octet_of_lem : (f j : ℕ) → f < 16 * n → j < 32 → octet_in p o (check_in f) f j < 256
      → octet_at line (slot_at 0 f j) ≡ octet_in p o (check_in f) f j
  octet_of_lem f j hf hj h =
      let e : slot_at 0 f j ≡ 8 * (32 * f + j) + 0 = omega arith in
      ap (octet_at line) e ∙ field_in line (32 * f + j) 0 8 0 refl
      ∙ omega (arith, octet_at_lem p o c (2 * n) f j (omega arith) hj)

  -- each payload octet
  pub payload_at : (f j : ℕ) → f < 16 * n → 1 ≤ j → j ≤ 31 → get_or p (index_of f j) 0 < 256
      → octet_at line (slot_at 0 f j) ≡ get_or p (index_of f j) 0
  payload_at f j hf h1 h31 h =
      let z : eqb j 0 ≡ false = ne_eqb j 0 (λ e. omega arith) in
      let e : octet_in p o (check_in f) f j ≡ get_or p (index_of f j) 0 = rw z in
      octet_of_lem f j hf (omega arith) (rw e h) ∙ e

  pub payload_back : ((i : ℕ) → get_or p i 0 < 256)
      → tab (31 * (16 * n)) (λ i. octet_at line (slot_at 0 (frame_of i) (slot_of i))) ≡ p
  payload_back h =
      tab_of (31 * (16 * n)) _ p (omega arith)
      (λ i l.
      let e : index_of (frame_of i) (slot_of i) ≡ i = index_of_lem i in
      payload_at (frame_of i) (slot_of i) (omega arith) (omega arith) (omega arith) (rw e (h i)) ∙ ap (λ m. get_or p m 0) e)

  -- slot 0 of each frame
  pub slot0_at : (f : ℕ) → f < 16 * n → octet_at line (slot_at 0 f 0) ≡ slot0 (check_in f) f (get_or o (f / 2) 0)
  slot0_at f h = octet_of_lem f 0 h (lit< tt) (slot0_lt (check_in f) f (get_or o (f / 2) 0) (overhead_lt (f / 2)))

  -- and what stands in it, at a place x that is r bits into it
  module _ (f x r : ℕ) (h : f < 16 * n) (e : x ≡ frame_at 0 f + r) where
    here : x ≡ 8 * (32 * f + 0) + r
    here = omega arith

    field_of : (k m : ℕ) → r + k + m ≡ 8 → field line x k ≡ slot0 (check_in f) f (get_or o (f / 2) 0) / 2 ^ m % 2 ^ k
    field_of k m d =
        ap (λ y. field line y k) here ∙ field_in line (32 * f + 0) r k m d
        ∙ ap (λ y. y / 2 ^ m % 2 ^ k) (octet_at_lem p o c (2 * n) f 0 (omega arith) (lit< tt))

    bit_of_lem : r < 8 → bit_at line x ≡ slot0 (check_in f) f (get_or o (f / 2) 0) / 2 ^ (7 - r) % 2
    bit_of_lem d =
        ap (bit_at line) here ∙ bit_in line (32 * f + 0) r d
        ∙ ap (λ y. y / 2 ^ (7 - r) % 2) (octet_at_lem p o c (2 * n) f 0 (omega arith) (lit< tt))

  -- the even frame 2i
  module _ (i : ℕ) (h : i < 8 * n) where
    even_at : slot0 (check_in (2 * i)) (2 * i) (get_or o (2 * i / 2) 0) ≡ even_slot0 (check_bit (carries p o c (i / 4)) (2 * i))
    even_at =
        let e : 2 * i / 8 ≡ i / 4 = omega arith in
        even_slot0_lem (check_in (2 * i)) i (get_or o (2 * i / 2) 0)
        ∙ ap (λ b. even_slot0 (check_bit (carries p o c b) (2 * i))) e

    -- the word
    pub word_at_lem : word_at line (frame_at 0 (2 * i)) ≡ true
    word_at_lem =
        let b = check_bit (carries p o c (i / 4)) (2 * i) in
        let d : (128 * b + 27) / 1 % 128 ≡ 27 = omega arith in
        (word_holds line (frame_at 0 (2 * i))).1
        (field_of (2 * i) (frame_at 0 (2 * i) + 1) 1 (omega arith) refl 7 0 refl ∙ ap (λ y. y / 1 % 128) even_at ∙ d)

  -- the odd frame 2i + 1, whose overhead octet is x
  module _ (i : ℕ) (h : i < 8 * n) where
    abbrev x : ℕ
    x = get_or o i 0

    abbrev b : ℕ
    b = bit1 (2 * i + 1) x

    half : (2 * i + 1) / 2 ≡ i
    half = omega arith

    odd_at : slot0 (check_in (2 * i + 1)) (2 * i + 1) (get_or o ((2 * i + 1) / 2) 0) ≡ odd_slot0 b x
    odd_at = ap (λ h. slot0 (check_in (2 * i + 1)) (2 * i + 1) (get_or o h 0)) half ∙ odd_slot0_lem (check_in (2 * i + 1)) i x

    -- bit 1
    bit_1_at : bit_at line (frame_at 0 (2 * i + 1)) ≡ b
    bit_1_at =
        bit_of_lem (2 * i + 1) (frame_at 0 (2 * i + 1)) 0 (omega arith) (omega arith) (lit< tt)
        ∙ ap (λ y. y / 128 % 2) odd_at
        ∙ odd_first b (x % 64) (bit1_lt (2 * i + 1) x (overhead_lt i)) (omega arith)

    -- the signal in frames 1 to 11
    pub signal_at_lem : i % 8 < 6 → bit_at line (frame_at 0 (2 * i + 1)) ≡ get_or signal (i % 8) 0
    signal_at_lem l = bit_1_at ∙ rw (half, lt-ltb (i % 8) 6 l)

    -- E in frames 13 and 15
    pub e_bit_at : 6 ≤ i % 8 → bit_at line (frame_at 0 (2 * i + 1)) ≡ x / 64
    e_bit_at l = bit_1_at ∙ rw (half, le-ltb (i % 8) 6 l)

    -- bit 2
    pub bit_2_at : bit_at line (frame_at 0 (2 * i + 1) + 1) ≡ 1
    bit_2_at =
        bit_of_lem (2 * i + 1) (frame_at 0 (2 * i + 1) + 1) 1 (omega arith) refl (lit< tt) ∙ ap (λ y. y / 64 % 2) odd_at
        ∙ odd_second b (x % 64) (omega arith)

    -- A and Sa4 to Sa8
    pub spare_at : field line (frame_at 0 (2 * i + 1) + 2) 6 ≡ x % 64
    spare_at =
        let d : (128 * b + 64 + x % 64) / 1 % 64 ≡ x % 64 = omega arith in
        field_of (2 * i + 1) (frame_at 0 (2 * i + 1) + 2) 2 (omega arith) refl 6 0 refl ∙ ap (λ y. y / 1 % 64) odd_at ∙ d

    -- from all of it the overhead octet comes back
    pub overhead_at : overhead_of i (octet_at line (slot_at 0 (2 * i + 1) 0)) ≡ x
    overhead_at =
        ap (overhead_of i) (slot0_at (2 * i + 1) (omega arith) ∙ odd_at)
        ∙ rw half (back (ltb (i % 8) 6) (get_or signal (i % 8) 0) x (g.limited i))
      where
        back : (t : Bool) (a x : ℕ) → x < (if t then 64 else 128)
            → (let y = odd_slot0 (cond t a (x / 64)) x in if t then y % 64 else 64 * (y / 128) + y % 64) ≡ x
        back true a x h = omega arith
        back false a x h = omega arith

  pub overhead_back : tab (8 * n) (λ h. overhead_of h (octet_at line (slot_at 0 (2 * h + 1) 0))) ≡ o
  overhead_back = tab_of (8 * n) _ o g.overhead_length overhead_at

  -- the check bits of block b carry the check of the block before it
  pub carried_at : (b : ℕ) → b < 2 * n → carried line (2048 * b) ≡ carries p o c b
  carried_at b h =
      carried_of_octets line (block p o (carries p o c b) b) b (λ i hi. block_octet_at p o c (2 * n) b i h hi)
      ∙ block_carries p o (carries p o c b) b (carries_lt p o c b g.four_bits)

  -- every block but the last agrees with the check that is carried after it
  pub agrees_at : (b : ℕ) → b + 1 < 2 * n → agrees line (2048 * b) ≡ true
  unfolding agrees
  agrees_at b h =
      let z : 2048 * b + 2048 ≡ 2048 * suc b = omega arith in
      eq-eqb _ _ (check_at_lem p o c (2 * n) b (omega arith) ∙ sym (ap (carried line) z ∙ carried_at (suc b) (omega arith)))

  -- and the check of the last is the one that is answered
  pub last_check : 1 ≤ n → block_check line (2048 * (2 * n - 1)) ≡ carries p o c (2 * n)
  last_check h =
      let e : suc (2 * n - 1) ≡ 2 * n = omega arith in check_at_lem p o c (2 * n) (2 * n - 1) (omega arith)
      ∙ ap (carries p o c) e
