-- Demand 2 of T1 (KIT §15): right against G.704's extended superframe. Frames are numbered from 0, over all superframes.
use Rattle.std.specs.Prelude.{ℕ, ◌+◌, ◌-◌, ◌*◌, ◌/◌, ◌%◌, ◌≤◌, ◌<◌, ◌≡◌, List, ◌++◌, ◌↔◌, ◌≢◌, Some, None, length, get_or, take}
use Rattle.line.specs.Bit.{bit_at, octet_at}
use Rattle.line.specs.Signal.{signal}
use Rattle.t1.specs.Superframe.{framing_at, octet_place, carried, super_check}
use Rattle.t1.specs.Payload.{superframes}
use Rattle.t1align.specs.Place.{first_standing}
use Rattle.t1align.specs.Stands.{Stands, StandsFirst}
use Rattle.t1read.specs.Reading.{whole}
use Rattle.t1read.specs.Entry.{GoodLength, Read}
use Rattle.t1read.specs.Answer.{Reading}
use Rattle.t1write.specs.Writing.{carries, written, with_signals}
use Rattle.t1write.specs.Entry.{Wrote, WroteSignalled}
use Rattle.t1write.specs.Answer.{Written}
use Rattle.claims.specs.Counts.{Counted}

-- ---- reading

-- superframe b, numbered from the place q, agrees with the check that the next one carries
abbrev pub AgreesT1 : List ℕ → ℕ → ℕ → Type 0
AgreesT1 s q b = super_check s (q + 4632 * b) ≡ carried s (q + 4632 * b + 4632)

-- what an accepted call answers, of the image s, and leaves in the outputs
pub record AcceptedT1 (s : List ℕ) (r : Reading) (payload' link' : List ℕ) : Type 0 where
  pub first : StandsFirst s r.place
  pub all_whole : r.whole ≡ whole s r.place
  pub least : 2 ≤ r.whole
  pub most : r.whole ≤ 14
  pub compares : r.compared + 1 ≡ r.whole
  pub errors : Counted r.compared r.errored (λ b. AgreesT1 s r.place b → ⊥)
  pub octet : (f j : ℕ) → f < 24 * r.whole → j < 24
      → get_or payload' (24 * f + j) 0 ≡ octet_at s (octet_place r.place f j)
  pub at_link_bit : (i : ℕ) → i < 12 * r.whole → get_or link' i 0 ≡ bit_at s (framing_at r.place (2 * i))

-- ---- writing

-- G.704's table of the framing bits of a line of n superframes with the data link l, the first superframe carrying the
-- check c and the last one's being k
pub record FramingT1 (line l : List ℕ) (c k n : ℕ) : Type 0 where
  pub long : length line ≡ 579 * n
  -- frames 1, 3, .. 23 of KIT
  pub link : (i : ℕ) → i < 12 * n → bit_at line (framing_at 0 (2 * i)) ≡ get_or l i 0
  -- frames 2, 6, .. 22
  pub first_check : carried line 0 ≡ c
  pub check : (b : ℕ) → b + 1 < n → carried line (4632 * (b + 1)) ≡ super_check line (4632 * b)
  pub last_check : super_check line (4632 * (n - 1)) ≡ k
  -- frames 4, 8, .. 24
  pub signals : (b i : ℕ) → b < n → i < 6 → bit_at line (framing_at (4632 * b) (4 * i + 3)) ≡ get_or signal i 0

-- and of all of it, with the payload p
pub record StandardT1 (line p l : List ℕ) (c k n : ℕ) : Type 0 where
  pub framing : FramingT1 line l c k n
  pub payload : (f j : ℕ) → f < 24 * n → j < 24 → octet_at line (octet_place 0 f j) ≡ get_or p (24 * f + j) 0

-- x with its last bit replaced by b
abbrev pub last_replaced : ℕ → ℕ → ℕ
last_replaced x b = 2 * (x / 2) + b

-- the same with signalling g: in frames 6, 12, 18 and 24 of KIT each octet's last bit is the next of g
pub record SignalledT1 (line p l g : List ℕ) (c k n : ℕ) : Type 0 where
  pub framing : FramingT1 line l c k n
  pub replaced : (f j : ℕ) → f < 24 * n → j < 24 → f % 6 ≡ 5
      → octet_at line (octet_place 0 f j) ≡ last_replaced (get_or p (24 * f + j) 0) (get_or g (24 * (f / 6) + j) 0)
  pub kept : (f j : ℕ) → f < 24 * n → j < 24 → f % 6 ≢ 5
      → octet_at line (octet_place 0 f j) ≡ get_or p (24 * f + j) 0

-- what reading such a line of n superframes answers, and leaves of the data link
pub record CleanT1 (l : List ℕ) (n : ℕ) (r : Reading) (link' : List ℕ) : Type 0 where
  pub number : r.number ≡ 0
  pub place : r.place ≡ 0
  pub whole : r.whole ≡ n
  pub compared : r.compared ≡ n - 1
  pub errored : r.errored ≡ 0
  pub link : take (12 * n) link' ≡ l

-- and of the payload
pub record ReadBackT1 (p l : List ℕ) (n : ℕ) (r : Reading) (payload' link' : List ℕ) : Type 0 where
  pub clean : CleanT1 l n r link'
  pub payload : take (576 * n) payload' ≡ p

-- with signalling g: of 96 octets a superframe each is the last bit of its octet of the payload, and all else is as given
pub record SignalsBackT1 (p l g : List ℕ) (n : ℕ) (r : Reading) (payload' link' : List ℕ) : Type 0 where
  pub clean : CleanT1 l n r link'
  pub replaced : (i : ℕ) → i < 96 * n → get_or payload' (24 * (6 * (i / 24) + 5) + i % 24) 0 % 2 ≡ get_or g i 0
  pub others : (i : ℕ) → i < 576 * n → get_or payload' i 0 / 2 ≡ get_or p i 0 / 2
  pub kept : (i : ℕ) → i < 576 * n → i / 24 % 6 ≢ 5 → get_or payload' i 0 ≡ get_or p i 0

pub record T1Demand2 : Type 0 where
  -- the first place that stands, every count, every octet of the payload and every bit of the data link as defined
  pub reads : (s payload link : List ℕ) (r : Reading) (payload' link' : List ℕ)
      → Read s payload link r payload' link' → r.number ≡ 0 → AcceptedT1 s r payload' link'
  -- none is errored exactly when every superframe but the last agrees
  pub none_errored : (s payload link : List ℕ) (r : Reading) (payload' link' : List ℕ)
      → Read s payload link r payload' link' → r.number ≡ 0
      → r.errored ≡ 0 ↔ ((b : ℕ) → b + 1 < r.whole → AgreesT1 s r.place b)
  -- number 3 exactly when no place stands
  pub none : (s payload link : List ℕ) (r : Reading) (payload' link' : List ℕ) → GoodLength s
      → Read s payload link r payload' link' → r.number ≡ 3 ↔ ((p : ℕ) → Stands s p → ⊥)
  -- what the search answers, case by case
  pub found_at : (s : List ℕ) (p : ℕ) → first_standing s ≡ Some p ↔ StandsFirst s p
  pub found_nothing : (s : List ℕ) → first_standing s ≡ None ↔ ((p : ℕ) → Stands s p → ⊥)
  -- the writer makes the standard's superframes
  pub writes : (p l : List ℕ) (c : ℕ) (out : List ℕ) (r : Written) (out' : List ℕ) → ((i : ℕ) → get_or p i 0 < 256)
      → Wrote p l c out r out' → r.number ≡ 0
      → StandardT1 (take (579 * superframes p) out') p l c r.check (superframes p)
  -- and with signalling: the check that is answered is that of the line, on which bits are replaced
  pub writes_signalled : (p l : List ℕ) (c : ℕ) (g out : List ℕ) (r : Written) (out' : List ℕ) → ((i : ℕ) → get_or p i 0 < 256)
      → WroteSignalled p l c g out r out' → r.number ≡ 0
      → SignalledT1 (take (579 * superframes p) out') p l g c r.check (superframes p)
  -- it writes and answers what the first call does with these bits replaced in the payload
  pub signalled_as : (p l : List ℕ) (c : ℕ) (g out : List ℕ) (r : Written) (out' : List ℕ)
      → WroteSignalled p l c g out r out' → r.number ≡ 0 → Wrote (with_signals p g) l c out r out'
  -- two superframes or more, read again: place 0, all of them whole, none errored, payload and data link back
  pub reads_back : (p l : List ℕ) (c : ℕ) (out : List ℕ) (w : Written) (out' : List ℕ) → ((i : ℕ) → get_or p i 0 < 256)
      → Wrote p l c out w out' → w.number ≡ 0 → 2 ≤ superframes p
      → (payload link : List ℕ) (r : Reading) (payload' link' : List ℕ) → 576 * superframes p ≤ length payload
      → 12 * superframes p ≤ length link
      → Read (take (579 * superframes p) out') payload link r payload' link'
      → ReadBackT1 p l (superframes p) r payload' link'
  pub signals_back : (p l : List ℕ) (c : ℕ) (g out : List ℕ) (w : Written) (out' : List ℕ) → ((i : ℕ) → get_or p i 0 < 256)
      → WroteSignalled p l c g out w out' → w.number ≡ 0 → 2 ≤ superframes p
      → (payload link : List ℕ) (r : Reading) (payload' link' : List ℕ) → 576 * superframes p ≤ length payload
      → 12 * superframes p ≤ length link
      → Read (take (579 * superframes p) out') payload link r payload' link'
      → SignalsBackT1 p l g (superframes p) r payload' link'
  -- two calls in a row, the check handed on, make one line
  pub joins : (p p' l l' : List ℕ) (c : ℕ) (x x' y y' : List ℕ) (r r' : Written) → Wrote p l c x r y → r.number ≡ 0
      → Wrote p' l' r.check x' r' y' → r'.number ≡ 0
      → (take (579 * superframes p) y ++ take (579 * superframes p') y'
      ≡ written (p ++ p') (l ++ l') c (superframes p + superframes p'))
      × (r'.check ≡ carries (p ++ p') c (superframes p + superframes p'))
  -- G.704's table leaves no bit open
  pub standard_single : (line line' p l : List ℕ) (c k k' n : ℕ) → ((i : ℕ) → get_or line i 0 < 256)
      → ((i : ℕ) → get_or line' i 0 < 256)
      → StandardT1 line p l c k n → StandardT1 line' p l c k' n → (line ≡ line') × (1 ≤ n → k ≡ k')
