-- The extended superframe of G.704, 2.1 (KIT §15): 24 frames of 193 bits, a framing bit and then 24 octets. Frames are
-- numbered from 0 here, so frame 1 of KIT is frame 0; q is the place of a superframe's bit 0.
use Rattle.std.specs.Prelude.{ℕ, ◌+◌, ◌*◌, Bool, List, eqb, get_or}
use Rattle.base.specs.Tab.{all}
use Rattle.line.specs.Bit.{bit_at}
use Rattle.line.specs.Spelt.{spelt}
use Rattle.line.specs.Signal.{signal}
use Rattle.crc.specs.Remainder.{check}
use Rattle.crc.specs.Striped.{striped}

-- the place of the framing bit of frame f
abbrev pub framing_at : ℕ → ℕ → ℕ
framing_at q f = q + 193 * f

-- the place of octet j of that frame
abbrev pub octet_place : ℕ → ℕ → ℕ → ℕ
octet_place q f j = framing_at q f + 1 + 8 * j

-- it has the signal, in the framing bits of frames 3, 7, 11, 15, 19 and 23
unfoldable pub framed : List ℕ → ℕ → Bool
framed s q = all 6 (λ i. eqb (bit_at s (framing_at q (4 * i + 3))) (get_or signal i 0))

-- C1 to C6 as it carries them, in the framing bits of frames 1, 5, 9, 13, 17 and 21; C1 is the x^5 term
unfoldable pub carried : List ℕ → ℕ → ℕ
carried s q = spelt 6 (λ i. bit_at s (framing_at q (4 * i + 1)))

-- the check of a superframe whose bit i is f i: all its framing bits are read as 1
unfoldable pub check_of : (ℕ → ℕ) → ℕ
check_of f = check 6 (striped 4632 193 1 f)

abbrev pub super_check : List ℕ → ℕ → ℕ
super_check s q = check_of (λ i. bit_at s (q + i))

-- its check is the one that the next superframe carries
unfoldable pub agrees : List ℕ → ℕ → Bool
agrees s q = eqb (super_check s q) (carried s (q + 4632))
