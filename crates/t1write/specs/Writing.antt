-- The superframes that are written (KIT §15), bit by bit: p is the payload, l the data link, c the check that the first
-- superframe carries. Frames and line places are counted from the first superframe on.
use Rattle.std.specs.Prelude.{if◌then◌else◌, ℕ, zero, suc, ◌+◌, ◌*◌, ◌/◌, ◌%◌, List, eqb, length, get_or}
use Rattle.base.specs.Tab.{tab}
use Rattle.line.specs.Spelt.{digit, packed}
use Rattle.line.specs.Signal.{signal}
use Rattle.t1.specs.Superframe.{check_of}
use Rattle.t1.specs.Payload.{data_bit}

-- the check that superframe b carries: that of the superframe before it
unfoldable pub carries : List ℕ → ℕ → ℕ → ℕ
carries p c zero = c
carries p c (suc b) = check_of (λ i. data_bit p (4632 * b + i))

-- the framing bit of frame f, in a superframe that carries the check k: the data link, a check bit, or the signal
unfoldable pub framing_bit : List ℕ → ℕ → ℕ → ℕ
framing_bit l k f =
    if eqb (f % 2) 0 then get_or l (f / 2) 0 else
    if eqb (f % 4) 1 then digit 6 k (f / 4 % 6) else
    get_or signal (f / 4 % 6) 0

-- bit i of the line
unfoldable pub line_bit : List ℕ → List ℕ → ℕ → ℕ → ℕ
line_bit p l c i = if eqb (i % 193) 0 then framing_bit l (carries p c (i / 4632)) (i / 193) else data_bit p i

-- n superframes
unfoldable pub written : List ℕ → List ℕ → ℕ → ℕ → List ℕ
written p l c n = packed (579 * n) (line_bit p l c)

-- octet i of a payload p with signalling g: in frames 5, 11, 17 and 23 of a superframe, KIT's 6, 12, 18 and 24, its last
-- bit is replaced, by the octets of g in the order of the line
abbrev pub signalled_octet : List ℕ → List ℕ → ℕ → ℕ
signalled_octet p g i =
    if eqb (i / 24 % 6) 5 then 2 * (get_or p i 0 / 2) + get_or g (24 * (i / 144) + i % 24) 0 else get_or p i 0

unfoldable pub with_signals : List ℕ → List ℕ → List ℕ
with_signals p g = tab (length p) (signalled_octet p g)
