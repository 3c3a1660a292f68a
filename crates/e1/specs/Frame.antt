-- Frames of G.704, 2.3.2 and 2.3.3.4 (KIT §2). A frame is 256 bits, 32 slots of 8; a multiframe is 16 frames, numbered
-- 0 to 15; q is the place of a frame's bit 0.
use Rattle.std.specs.Prelude.{ℕ, ◌+◌, ◌*◌, ◌%◌, Bool, not, List, [], ◌∷◌, eqb, get_or}
use Rattle.base.specs.Choice.{value_or}
use Rattle.base.specs.Tab.{count, least}
use Rattle.line.specs.Bit.{bit_at}

-- the place of frame f, numbered from the frame at q
abbrev pub frame_at : ℕ → ℕ → ℕ
frame_at q f = q + 256 * f

-- the place of slot j of that frame
abbrev pub slot_at : ℕ → ℕ → ℕ → ℕ
slot_at q f j = frame_at q f + 8 * j

-- the alignment word: bits 2 to 8 of an even frame
abbrev pub alignment : List ℕ
alignment = 0 ∷ 0 ∷ 1 ∷ 1 ∷ 0 ∷ 1 ∷ 1 ∷ []

-- bit i of the word in the frame at q, i from 0 to 6, is not as in the alignment word
abbrev pub wrong_bit : List ℕ → ℕ → ℕ → Bool
wrong_bit s q i = not (eqb (bit_at s (q + 1 + i)) (get_or alignment i 0))

-- that word judged: how many of its seven bits are wrong
unfoldable pub wrong_bits : List ℕ → ℕ → ℕ
wrong_bits s q = count 7 (wrong_bit s q)

-- it is the alignment word: no bit of it is wrong
abbrev pub word_at : List ℕ → ℕ → Bool
word_at s q = eqb (wrong_bits s q) 0

-- the place of its first wrong bit; where none is wrong, of the bit behind the word
unfoldable pub first_wrong : List ℕ → ℕ → ℕ
first_wrong s q = q + 1 + value_or (least 7 (wrong_bit s q)) 7

-- slot 0 of an even frame: a check bit, then the word
abbrev pub even_slot0 : ℕ → ℕ
even_slot0 c = 128 * c + 27

-- slot 0 of an odd frame: bit 1, then 1, then A and Sa4 to Sa8, the low six bits of x
abbrev pub odd_slot0 : ℕ → ℕ → ℕ
odd_slot0 b x = 128 * b + 64 + x % 64
