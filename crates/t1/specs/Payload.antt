-- The payload (KIT §15): the 24 octets of each frame, frame after frame, 576 octets a superframe.
use Rattle.std.specs.Prelude.{ℕ, ◌+◌, ◌-◌, ◌*◌, ◌/◌, ◌%◌, Bool, List, length}
use Rattle.line.specs.Bit.{bit_at}
use Rattle.line.specs.Sized.{sized_by}

-- the data bit at place i of the line that a payload p makes: bit i % 193 - 1 of the 192 that its frame takes of p
unfoldable pub data_bit : List ℕ → ℕ → ℕ
data_bit p i = bit_at p (192 * (i / 193) + (i % 193 - 1))

-- n: how many superframes a payload of 576n octets fills
abbrev pub superframes : List ℕ → ℕ
superframes payload = length payload / 576

-- it is 576n octets, n from 1 to 14
unfoldable pub sized : ℕ → Bool
sized octets = sized_by 576 14 octets
