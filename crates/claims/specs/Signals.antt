-- Signalling, read, heard and written (KIT §5, §6 and §11).
use Rattle.std.specs.Prelude.{ℕ, ◌+◌, ◌-◌, ◌*◌, ◌/◌, ◌%◌, ◌≤◌, ◌<◌, ◌≡◌, true, List, ◌++◌, ◌↔◌, ◌≢◌, length, get_or, take, drop}
use Rattle.base.specs.Tab.{tab}
use Rattle.line.specs.Bit.{octet_at}
use Rattle.e1.specs.Frame.{slot_at}
use Rattle.e1.specs.Payload.{index_of, multiframes}
use Rattle.read.specs.Entry.{Read}
use Rattle.read.specs.Answer.{Reading}
use Rattle.write.specs.Answer.{Written}
use Rattle.signals.specs.Signalling.{signal_at, begun, walk, loses, starts_in, read_in, first_in, abcd_at, abcd_in}
use Rattle.signals.specs.Lost.{Lost}
use Rattle.signals.specs.Entry.{slot16_in, Signalled}
use Rattle.signals.specs.Answer.{Signalling}
use Rattle.heard.specs.Hearing.{nothing, after_row, hearing_of, is_held, xy_of, told_along, Hears}
use Rattle.signalled.specs.Slot16.{slot16, with_slot16}
use Rattle.signalled.specs.Entry.{Wrote}
use Rattle.claims.specs.Demand2.{Standard, ReadBack}

-- frame f has the signal, and the frame before it a 1 somewhere
pub record Taken (t : List ℕ) (f : ℕ) : Type 0 where
  pub later : 1 ≤ f
  pub signal : get_or t f 0 / 16 ≡ 0
  pub before : get_or t (f - 1) 0 ≢ 0

-- the first such of n frames
pub record TakenFirst (t : List ℕ) (n f : ℕ) : Type 0 where
  pub here : Taken t f
  pub among : f < n
  pub earlier : (g : ℕ) → g < f → Taken t g → ⊥

-- n multiframes on the line, with the signalling of xy and v: what slot 16 has, and every other slot
pub record SignalledLine (line p xy v : List ℕ) (n : ℕ) : Type 0 where
  pub slot_16 : (f : ℕ) → f < 16 * n → octet_at line (slot_at 0 f 16) ≡ slot16 xy v f
  pub others : (f j : ℕ) → f < 16 * n → 1 ≤ j → j ≤ 31 → j ≢ 16 → octet_at line (slot_at 0 f j) ≡ get_or p (index_of f j) 0

-- what is answered of n multiframes that were written with xy and v, and left in the output
pub record SignalsBack (xy v : List ℕ) (n : ℕ) (r : Signalling) (out' : List ℕ) : Type 0 where
  pub number : r.number ≡ 0
  -- all but the first, which has no frame before it
  pub all_but_one : r.multiframes ≡ n - 1
  pub first : r.first ≡ 16
  pub losses : r.losses ≡ 0
  pub held : r.held ≡ true
  -- X and Y of the last
  pub x0 : r.x0 ≡ get_or xy (n - 1) 0 / 8 % 2
  pub x1 : r.x1 ≡ get_or xy (n - 1) 0 / 2 % 2
  pub x2 : r.x2 ≡ get_or xy (n - 1) 0 % 2
  pub y : r.y ≡ get_or xy (n - 1) 0 / 4 % 2
  -- each channel's bits
  pub bits : (m c : ℕ) → 1 ≤ m → m < n → 1 ≤ c → c ≤ 30 → get_or out' (30 * (m - 1) + (c - 1)) 0 ≡ get_or v (30 * m + (c - 1)) 0
  pub abcd : take (30 * (n - 1)) out' ≡ drop 30 v

-- slot 16 of the frames of a payload, in a row
abbrev pub slot16_row : List ℕ → List ℕ
slot16_row payload = tab (16 * multiframes payload) (λ f. get_or payload (index_of f 16) 0)

-- what is answered of an image at once, and left in the output, is what is heard of its row t frame by frame
pub record HeardAlike (t : List ℕ) (r : Signalling) (out' : List ℕ) : Type 0 where
  pub multiframes : r.multiframes ≡ (hearing_of t).multiframes
  pub first : r.first ≡ (hearing_of t).first
  pub losses : r.losses ≡ (hearing_of t).losses
  pub held : r.held ≡ is_held (hearing_of t)
  pub x0 : r.x0 ≡ xy_of (hearing_of t) / 8 % 2
  pub x1 : r.x1 ≡ xy_of (hearing_of t) / 2 % 2
  pub x2 : r.x2 ≡ xy_of (hearing_of t) % 2
  pub y : r.y ≡ xy_of (hearing_of t) / 4 % 2
  pub abcd : take (30 * r.multiframes) out' ≡ told_along nothing t

pub record Signals : Type 0 where
  -- Reading. Each octet of the output is ABCD of a channel of the signalling multiframe that it belongs to
  pub octet : (s out : List ℕ) (r : Signalling) (out' : List ℕ) → Signalled s out r out' → r.number ≡ 0
      → (m c : ℕ) → m < r.multiframes → 1 ≤ c → c ≤ 30
      → get_or out' (30 * m + (c - 1)) 0 ≡ abcd_at (slot16_in s) (get_or r.starts m 0) c
  -- no more than 15 are read of an image, so 450 octets always do
  pub fifteen : (s out : List ℕ) (r : Signalling) (out' : List ℕ) → Signalled s out r out' → r.multiframes ≤ 15
  -- The first alignment is at the first frame with the signal where the frame before has a 1, and 0 is answered exactly
  -- where there is none
  pub first : (t : List ℕ) (n f : ℕ) → 1 ≤ f → first_in t n ≡ f ↔ TakenFirst t n f
  pub never : (t : List ℕ) (n : ℕ) → first_in t n ≡ 0 ↔ ((f : ℕ) → f < n → Taken t f → ⊥)
  -- a loss is at the second wrong signal in a row, and nowhere else
  pub loss : (t : List ℕ) (f : ℕ) → loses t f ≡ true ↔ Lost t f
  -- after one wrong signal the next signalling multiframe is begun all the same
  pub one_wrong : (t : List ℕ) (f : ℕ) → (walk t f).passed ≡ 16 → signal_at t (f - 16) ≡ true → walk t (f + 1) ≡ begun t f
  -- after a loss at f alignment is taken at the first frame from f + 1 on where it can be
  pub again : (t : List ℕ) (f g : ℕ) → Lost t f → f < g → ((i : ℕ) → f < i → i < g → Taken t i → ⊥) → Taken t g
      → walk t (g + 1) ≡ begun t g
  -- each signalling multiframe that is read is whole, and none is read from a loss
  pub whole : (t : List ℕ) (n m : ℕ) → m < read_in t n → get_or (starts_in t n) m 0 + 16 ≤ n
  pub not_from_loss : (t : List ℕ) (n m : ℕ) → m < read_in t n → Lost t (get_or (starts_in t n) m 0) → ⊥
  -- Hearing, frame by frame, a row of any length. Behind each frame all that is answered is known of the row so far,
  -- and where a signalling multiframe has just become whole, the frame with which it began and its channels
  pub heard : (t : List ℕ) → Hears t (hearing_of t)
  -- the channels told so, one behind the other, are those of all that are read
  pub told : (t : List ℕ) → told_along nothing t ≡ abcd_in t (length t)
  -- a row that comes in pieces is heard as one
  pub pieces : (t u : List ℕ)
      → (hearing_of (t ++ u) ≡ after_row (hearing_of t) u)
      × (told_along nothing (t ++ u) ≡ told_along nothing t ++ told_along (hearing_of t) u)
  -- whole multiframes of payload that leave one behind the other make one row
  pub rows : (p q : List ℕ) (n : ℕ) → length p ≡ 496 * n → slot16_row (p ++ q) ≡ slot16_row p ++ slot16_row q
  -- that of an image is in the payload that is read, and heard it gives what is answered at once
  pub in_payload : (s payload slot0 : List ℕ) (r : Reading) (payload' slot0' : List ℕ)
      → Read s payload slot0 r payload' slot0' → r.number ≡ 0 → slot16_row (take (496 * r.used) payload') ≡ slot16_in s
  pub alike : (s out : List ℕ) (r : Signalling) (out' : List ℕ) → Signalled s out r out' → r.number ≡ 0
      → HeardAlike (slot16_in s) r out'
  -- Writing. It makes the standard's multiframes of the payload with slot 16 replaced
  pub writes : (p o : List ℕ) (c : ℕ) (xy v out : List ℕ) (r : Written) (out' : List ℕ) → ((i : ℕ) → get_or p i 0 < 256)
      → Wrote p o c xy v out r out' → r.number ≡ 0
      → (let line = take (512 * multiframes p) out' in
      Standard line (with_slot16 p xy v) o c r.check (multiframes p) × SignalledLine line p xy v (multiframes p))
  -- four multiframes or more, read again: payload with slot 16 replaced, overhead, and signalling are back
  pub reads_back : (p o : List ℕ) (c : ℕ) (xy v out : List ℕ) (w : Written) (out' : List ℕ) → ((i : ℕ) → get_or p i 0 < 256)
      → Wrote p o c xy v out w out' → w.number ≡ 0 → 4 ≤ multiframes p
      → (payload slot0 : List ℕ) (r : Reading) (payload' slot0' : List ℕ) → 496 * multiframes p ≤ length payload
      → 16 * multiframes p ≤ length slot0
      → Read (take (512 * multiframes p) out') payload slot0 r payload' slot0'
      → ReadBack (with_slot16 p xy v) o (multiframes p) r payload' slot0'
  pub signals_back : (p o : List ℕ) (c : ℕ) (xy v out : List ℕ) (w : Written) (out' : List ℕ) → ((i : ℕ) → get_or p i 0 < 256)
      → Wrote p o c xy v out w out' → w.number ≡ 0 → 4 ≤ multiframes p
      → (buffer : List ℕ) (r : Signalling) (buffer' : List ℕ) → 30 * (multiframes p - 1) ≤ length buffer
      → Signalled (take (512 * multiframes p) out') buffer r buffer'
      → SignalsBack xy v (multiframes p) r buffer'
  -- It is the refusal of ABCD 0000 that makes it so: by it every frame but frame 0 of each signalling multiframe has a 1
  -- among its high four bits, so the frame before a signal has a 1, and no other frame has the signal. With zeros for ABCD
  -- alignment is taken one frame late, which is case 17 of `Bench`.
  pub one_before : (p o : List ℕ) (c : ℕ) (xy v out : List ℕ) (w : Written) (out' : List ℕ)
      → Wrote p o c xy v out w out' → w.number ≡ 0
      → (f : ℕ) → f < 16 * multiframes p → f % 16 ≢ 0 → 16 ≤ slot16 xy v f
