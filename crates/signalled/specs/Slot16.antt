-- Slot 16 as it is written (KIT §6): xy has an octet for each signalling multiframe, 0000 X0 Y X1 X2, and v thirty,
-- ABCD of channels 1 to 30. A signalling multiframe begins with each multiframe.
use Rattle.std.specs.Prelude.{if◌then◌else◌, ℕ, ◌+◌, ◌-◌, ◌*◌, ◌/◌, ◌%◌, Bool, ◌&&◌, List, eqb, leb, length, get_or}
use Rattle.base.specs.Tab.{tab, all}
use Rattle.e1.specs.Payload.{frame_of, slot_of}

-- ABCD of channel c, 1 to 30, of the signalling multiframe m
abbrev pub abcd_of : List ℕ → ℕ → ℕ → ℕ
abcd_of v m c = get_or v (30 * m + (c - 1)) 0

-- frame i, 0 to 15, of the signalling multiframe m
abbrev pub signalling_frame : List ℕ → List ℕ → ℕ → ℕ → ℕ
signalling_frame xy v m i = if eqb i 0 then get_or xy m 0 else 16 * abcd_of v m i + abcd_of v m (i + 15)

-- slot 16 of frame f
unfoldable pub slot16 : List ℕ → List ℕ → ℕ → ℕ
slot16 xy v f = signalling_frame xy v (f / 16) (f % 16)

-- a payload p with slot 16 of every frame replaced
unfoldable pub with_slot16 : List ℕ → List ℕ → List ℕ → List ℕ
with_slot16 p xy v = tab (length p) (λ i. if eqb (slot_of i) 16 then slot16 xy v (frame_of i) else get_or p i 0)

-- n octets, each from low to 15
unfoldable pub nibbles : ℕ → ℕ → List ℕ → Bool
nibbles low n l = eqb (length l) n && all n (λ i. leb low (get_or l i 0) && leb (get_or l i 0) 15)

-- n octets XY, and 30n octets ABCD of which none is 0000
abbrev pub signals_fit : List ℕ → List ℕ → ℕ → Bool
signals_fit xy v n = nibbles 0 n xy && nibbles 1 (30 * n) v
