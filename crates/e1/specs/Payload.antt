-- The payload (KIT §5): slots 1 to 31, frame after frame, 496 octets a multiframe.
use Rattle.std.specs.Prelude.{ℕ, ◌+◌, ◌-◌, ◌*◌, ◌/◌, ◌%◌, Bool, List, length}
use Rattle.line.specs.Sized.{sized_by}

-- where slot j of frame f stands in a payload
abbrev pub index_of : ℕ → ℕ → ℕ
index_of f j = 31 * f + (j - 1)

-- and back: the frame and the slot that stand at i
abbrev pub frame_of : ℕ → ℕ
frame_of i = i / 31

abbrev pub slot_of : ℕ → ℕ
slot_of i = i % 31 + 1

-- n: how many multiframes a payload of 496n octets fills
abbrev pub multiframes : List ℕ → ℕ
multiframes payload = length payload / 496

-- it is 496n octets, n from 1 to 16
unfoldable pub sized : ℕ → Bool
sized octets = sized_by 496 16 octets
