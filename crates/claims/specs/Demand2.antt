-- Demand 2: right against G.704 and G.706 (KIT §11).
use Rattle.std.specs.Prelude.{ℕ, ◌+◌, ◌-◌, ◌*◌, ◌/◌, ◌%◌, ◌^◌, ◌≤◌, ◌<◌, ◌≡◌, List, ◌++◌, ◌↔◌, ◌⊎◌, length, get_or, take}
use Rattle.std.specs.Int.Bits.{bit_xor}
use Rattle.base.specs.Tab.{tab, sum}
use Rattle.line.specs.Bit.{bit_at, field, octet_at}
use Rattle.crc.specs.Remainder.{Bits, check}
use Rattle.crc.specs.Polynomial.{poly, times_gen}
use Rattle.line.specs.Signal.{signal}
use Rattle.e1.specs.Frame.{frame_at, slot_at}
use Rattle.e1.specs.Block.{block_check, carried}
use Rattle.e1.specs.Payload.{index_of, multiframes}
use Rattle.align.specs.Place.{found_in, start_of}
use Rattle.align.specs.Stands.{Basic, BasicFirst, Pair, Stands, StandsFirst}
use Rattle.align.specs.declared.Found.TheVariants.{At, BasicAt, Nothing}
use Rattle.measure.specs.Reading.{whole, loss, lost_at, cause_of, used_of, word_errors, word_bits, compared, errored, far_end}
use Rattle.read.specs.Entry.{Read, GoodLength}
use Rattle.read.specs.Answer.{Reading}
use Rattle.write.specs.Entry.{Wrote}
use Rattle.write.specs.Writing.{carries, written, overhead_of}
use Rattle.write.specs.Answer.{Written}

-- ---- reading

-- what an accepted call answers, of the image s, and leaves in the outputs that held payload and slot0
pub record Accepted (s payload slot0 : List ℕ) (r : Reading) (payload' slot0' : List ℕ) : Type 0 where
  pub k : ℕ
  pub found : found_in s ≡ At r.place k
  pub first : StandsFirst s r.place k
  pub start : r.start ≡ start_of (found_in s)
  pub all_whole : r.whole ≡ whole s r.start
  pub lost : r.lost ≡ lost_at (loss s r.start r.whole)
  pub cause : r.cause ≡ cause_of (loss s r.start r.whole)
  pub used : r.used ≡ used_of (loss s r.start r.whole) r.whole
  pub words : r.words ≡ word_errors s r.start r.used
  pub wrong_word_bits : r.wordbits ≡ word_bits s r.start r.used
  pub compares : r.compared ≡ compared r.used
  pub errors : r.errored ≡ errored s r.start r.used
  pub far_end_errors : r.farend ≡ far_end s r.start r.used
  pub octet : (f j : ℕ) → f < 16 * r.used → 1 ≤ j → j ≤ 31
      → get_or payload' (index_of f j) 0 ≡ octet_at s (slot_at r.start f j)
  pub octet_0 : (f : ℕ) → f < 16 * r.used → get_or slot0' f 0 ≡ octet_at s (slot_at r.start f 0)

-- one of the three holds, and no two
pub record OneOf (A B C : Type 0) : Type 0 where
  pub some : A ⊎ (B ⊎ C)
  pub not_ab : A → B → ⊥
  pub not_ac : A → C → ⊥
  pub not_bc : B → C → ⊥

-- ---- writing

-- G.704's table of a line of n multiframes with the payload p and the overhead o, the first block carrying the check c
-- and the last one's being k
pub record Standard (line p o : List ℕ) (c k n : ℕ) : Type 0 where
  pub long : length line ≡ 512 * n
  pub payload : (f j : ℕ) → f < 16 * n → 1 ≤ j → j ≤ 31 → octet_at line (slot_at 0 f j) ≡ get_or p (index_of f j) 0
  -- even frames: a check bit, then the word
  pub word : (i : ℕ) → i < 8 * n → field line (frame_at 0 (2 * i) + 1) 7 ≡ 27
  pub first_check : carried line 0 ≡ c
  pub check : (b : ℕ) → b + 1 < 2 * n → carried line (2048 * (b + 1)) ≡ block_check line (2048 * b)
  pub last_check : block_check line (2048 * (2 * n - 1)) ≡ k
  -- odd frames: the signal or E, then 1, then A and Sa4 to Sa8
  pub signals : (i : ℕ) → i < 8 * n → i % 8 < 6 → bit_at line (frame_at 0 (2 * i + 1)) ≡ get_or signal (i % 8) 0
  pub e_bit : (i : ℕ) → i < 8 * n → 6 ≤ i % 8 → bit_at line (frame_at 0 (2 * i + 1)) ≡ get_or o i 0 / 64
  pub bit_2 : (i : ℕ) → i < 8 * n → bit_at line (frame_at 0 (2 * i + 1) + 1) ≡ 1
  pub spare : (i : ℕ) → i < 8 * n → field line (frame_at 0 (2 * i + 1) + 2) 6 ≡ get_or o i 0 % 64

-- the E bits of multiframe m that are 0
abbrev pub zero_es : List ℕ → ℕ → ℕ
zero_es o m = (1 - get_or o (8 * m + 6) 0 / 64) + (1 - get_or o (8 * m + 7) 0 / 64)

-- what reading such a line answers, and leaves
pub record ReadBack (p o : List ℕ) (n : ℕ) (r : Reading) (payload' slot0' : List ℕ) : Type 0 where
  pub number : r.number ≡ 0
  pub place : r.place ≡ 0
  pub start : r.start ≡ 0
  pub whole : r.whole ≡ n
  pub used : r.used ≡ n
  pub lost : r.lost ≡ 0
  pub cause : r.cause ≡ 0
  pub words : r.words ≡ 0
  pub wordbits : r.wordbits ≡ 0
  pub compared : r.compared ≡ 2 * n - 1
  pub errored : r.errored ≡ 0
  pub farend : r.farend ≡ sum n (zero_es o)
  pub payload : take (496 * n) payload' ≡ p
  pub overhead : tab (8 * n) (λ h. overhead_of h (get_or slot0' (2 * h + 1) 0)) ≡ o

pub record Demand2 : Type 0 where
  -- the first place that stands, every count and every payload octet as defined
  pub reads : (s payload slot0 : List ℕ) (r : Reading) (payload' slot0' : List ℕ)
      → Read s payload slot0 r payload' slot0' → r.number ≡ 0 → Accepted s payload slot0 r payload' slot0'
  -- no alignment answered, by number 3 or 15, exactly when none stands: nowhere is there room, basic alignment and some
  -- k with a pair of signals
  pub none : (s payload slot0 : List ℕ) (r : Reading) (payload' slot0' : List ℕ) → GoodLength s
      → Read s payload slot0 r payload' slot0'
      → (r.number ≡ 3) ⊎ (r.number ≡ 15) ↔ ((p k : ℕ) → Stands s p k → ⊥)
  pub none_at_all : (s payload slot0 : List ℕ) (r : Reading) (payload' slot0' : List ℕ) → GoodLength s
      → Read s payload slot0 r payload' slot0'
      → (r.number ≡ 3) ⊎ (r.number ≡ 15) ↔ ((p k : ℕ) → p + 16384 ≤ 8 * length s → Basic s p → Pair s p k → ⊥)
  -- 3 exactly when no place with room has basic alignment; 15 exactly when one has, and none stands
  pub no_basic : (s payload slot0 : List ℕ) (r : Reading) (payload' slot0' : List ℕ) → GoodLength s
      → Read s payload slot0 r payload' slot0'
      → r.number ≡ 3 ↔ ((p : ℕ) → p + 16384 ≤ 8 * length s → Basic s p → ⊥)
  pub basic_only : (s payload slot0 : List ℕ) (r : Reading) (payload' slot0' : List ℕ) → GoodLength s
      → Read s payload slot0 r payload' slot0'
      → r.number ≡ 15 ↔ ((p : ℕ) × BasicFirst s p) × ((p k : ℕ) → Stands s p k → ⊥)
  -- the place beside 15 is the first such
  pub basic_place : (s payload slot0 : List ℕ) (r : Reading) (payload' slot0' : List ℕ)
      → Read s payload slot0 r payload' slot0' → r.number ≡ 15 → BasicFirst s r.place
  -- so of an image of good length exactly one holds: 3, 15, a place stands
  pub one_of_three : (s payload slot0 : List ℕ) (r : Reading) (payload' slot0' : List ℕ) → GoodLength s
      → Read s payload slot0 r payload' slot0'
      → OneOf (r.number ≡ 3) (r.number ≡ 15) ((p : ℕ) × (k : ℕ) × Stands s p k)
  pub some_k : (s : List ℕ) (p k : ℕ) → p + 16384 ≤ 8 * length s → Basic s p → Pair s p k → (l : ℕ) × Stands s p l
  -- what the search answers, case by case
  pub found_at : (s : List ℕ) (p k : ℕ) → found_in s ≡ At p k ↔ StandsFirst s p k
  pub found_basic : (s : List ℕ) (p : ℕ) → found_in s ≡ BasicAt p ↔ BasicFirst s p × ((q k : ℕ) → Stands s q k → ⊥)
  pub found_nothing : (s : List ℕ) → found_in s ≡ Nothing ↔ ((p : ℕ) → p + 16384 ≤ 8 * length s → Basic s p → ⊥)
  -- the writer makes the standard's multiframes, and at their known places stands every octet and overhead bit
  pub writes : (p o : List ℕ) (c : ℕ) (out : List ℕ) (r : Written) (out' : List ℕ) → ((i : ℕ) → get_or p i 0 < 256)
      → Wrote p o c out r out' → r.number ≡ 0
      → Standard (take (512 * multiframes p) out') p o c r.check (multiframes p)
  -- four multiframes or more, read again: place 0, no loss, no error, payload and overhead back
  pub reads_back : (p o : List ℕ) (c : ℕ) (out : List ℕ) (w : Written) (out' : List ℕ) → ((i : ℕ) → get_or p i 0 < 256)
      → Wrote p o c out w out' → w.number ≡ 0 → 4 ≤ multiframes p
      → (payload slot0 : List ℕ) (r : Reading) (payload' slot0' : List ℕ) → 496 * multiframes p ≤ length payload
      → 16 * multiframes p ≤ length slot0
      → Read (take (512 * multiframes p) out') payload slot0 r payload' slot0'
      → ReadBack p o (multiframes p) r payload' slot0'
  -- two calls in a row, the check handed on, make one line
  pub joins : (p p' o o' : List ℕ) (c : ℕ) (x x' y y' : List ℕ) (r r' : Written) → Wrote p o c x r y → r.number ≡ 0
      → Wrote p' o' r.check x' r' y' → r'.number ≡ 0
      → (take (512 * multiframes p) y ++ take (512 * multiframes p') y'
      ≡ written (p ++ p') (o ++ o') c (2 * (multiframes p + multiframes p')))
      × (r'.check ≡ carries (p ++ p') (o ++ o') c (2 * (multiframes p + multiframes p')))
  -- G.704's table leaves no bit open
  pub standard_single : (line line' p o : List ℕ) (c k k' n : ℕ) → ((i : ℕ) → get_or line i 0 < 256)
      → ((i : ℕ) → get_or line' i 0 < 256)
      → Standard line p o c k n → Standard line' p o c k' n → (line ≡ line') × (1 ≤ n → k ≡ k')
  -- the check is the remainder of the block times x^w by x^w + x + 1, and nothing else below 2^w is
  pub check_divides : (w : ℕ) → 2 ≤ w → (bits : List ℕ) → Bits bits
      → (q : ℕ) × (poly 0 bits * 2 ^ w ≡ bit_xor (times_gen w q) (check w bits))
  pub check_unique : (w : ℕ) → 2 ≤ w → (bits : List ℕ) (q r : ℕ) → Bits bits → r < 2 ^ w
      → poly 0 bits * 2 ^ w ≡ bit_xor (times_gen w q) r → r ≡ check w bits
