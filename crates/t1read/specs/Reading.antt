-- What is read of n superframes from place q on (KIT §15), in an image of any length; their frames are numbered from q.
use Rattle.std.specs.Prelude.{ℕ, ◌+◌, ◌-◌, ◌*◌, ◌/◌, ◌%◌, not, List, length}
use Rattle.line.specs.Bit.{bit_at, octet_at}
use Rattle.base.specs.Tab.{tab, count}
use Rattle.t1.specs.Superframe.{framing_at, octet_place, agrees}

-- the whole superframes from q to the end of the image
unfoldable pub whole : List ℕ → ℕ → ℕ
whole s q = (8 * length s - q) / 4632

-- octet i of the payload
abbrev pub octet_of : List ℕ → ℕ → ℕ → ℕ
octet_of s q i = octet_at s (octet_place q (i / 24) (i % 24))

unfoldable pub payload_of : List ℕ → ℕ → ℕ → List ℕ
payload_of s q n = tab (576 * n) (octet_of s q)

-- bit i of the data link: the framing bit of each second frame
abbrev pub link_bit : List ℕ → ℕ → ℕ → ℕ
link_bit s q i = bit_at s (framing_at q (2 * i))

unfoldable pub link_of : List ℕ → ℕ → ℕ → List ℕ
link_of s q n = tab (12 * n) (link_bit s q)

-- every superframe but the last is compared
abbrev pub compared : ℕ → ℕ
compared n = n - 1

-- those that do not agree with the check after them
unfoldable pub errored : List ℕ → ℕ → ℕ → ℕ
errored s q n = count (compared n) (λ b. not (agrees s (q + 4632 * b)))
