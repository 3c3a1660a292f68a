-- What is read from a multiframe start q on (KIT §5), in an image of any length. Frames are numbered from q; m and g
-- are numbers of multiframes.
use Rattle.std.specs.Prelude.{if◌then◌else◌, ℕ, ◌+◌, ◌-◌, ◌*◌, ◌/◌, ◌%◌, Bool, ◌&&◌, not, List, eqb, leb, length}
use Rattle.std.specs.Prelude.{Option, None, Some}
use Rattle.line.specs.Bit.{bit_at, octet_at}
use Rattle.base.specs.Choice.{when_so}
use Rattle.base.specs.Tab.{tab, sum, count, first}
use Rattle.e1.specs.Frame.{frame_at, slot_at, wrong_bits}
use Rattle.e1.specs.Block.{agrees}
use Rattle.e1.specs.Payload.{frame_of, slot_of}

-- M: the whole multiframes from q to the end of the image
unfoldable pub whole : List ℕ → ℕ → ℕ
whole s q = (8 * length s - q) / 4096

-- the wrong bits of the word of the even frame 2i
abbrev pub wrong_bits_of : List ℕ → ℕ → ℕ → ℕ
wrong_bits_of s q i = wrong_bits s (frame_at q (2 * i))

-- that word is wrong
unfoldable pub wrong : List ℕ → ℕ → ℕ → Bool
wrong s q i = not (eqb (wrong_bits_of s q i) 0)

-- bit 2 of the odd frame 2i + 1 is wrong: it is 0
unfoldable pub wrong_bit2 : List ℕ → ℕ → ℕ → Bool
wrong_bit2 s q i = eqb (bit_at s (frame_at q (2 * i + 1) + 1)) 0

-- i is the third in a row that passes the test
unfoldable pub third : (ℕ → Bool) → ℕ → Bool
third t i = leb 2 i && (t (i - 2) && (t (i - 1) && t i))

-- the loss by words: the first even frame 2i of m multiframes that is the third in a row with a wrong word
unfoldable pub word_loss : List ℕ → ℕ → ℕ → Option ℕ
word_loss s q m = first (8 * m) (λ i. when_so (third (wrong s q) i) (2 * i))

-- the loss by bits 2: the first odd frame 2i + 1 of m multiframes that is the third in a row with a wrong bit 2
unfoldable pub bit2_loss : List ℕ → ℕ → ℕ → Option ℕ
bit2_loss s q m = first (8 * m) (λ i. when_so (third (wrong_bit2 s q) i) (2 * i + 1))

-- the earlier of two frames, where there are any
abbrev pub earlier : Option ℕ → Option ℕ → Option ℕ
earlier None g = g
earlier (Some f) None = Some f
earlier (Some f) (Some g) = Some (if leb f g then f else g)

-- the frame of the loss
unfoldable pub loss : List ℕ → ℕ → ℕ → Option ℕ
loss s q m = earlier (word_loss s q m) (bit2_loss s q m)

-- the same among the frames of multiframes h to m - 1 alone: each is judged with the two of its kind before it, which for
-- the first of them are in multiframe h - 1
unfoldable pub loss_from : List ℕ → ℕ → ℕ → ℕ → Option ℕ
loss_from s q h m =
    earlier (first (8 * (m - h)) (λ i. when_so (third (wrong s q) (8 * h + i)) (2 * (8 * h + i))))
    (first (8 * (m - h)) (λ i. when_so (third (wrong_bit2 s q) (8 * h + i)) (2 * (8 * h + i) + 1)))

-- it is answered as 0 where there is no loss
abbrev pub lost_at : Option ℕ → ℕ
lost_at (Some f) = f
lost_at None = 0

-- its cause: 1 by words, at an even frame, 2 by bits 2, at an odd one; 0 where there is no loss
abbrev pub cause_of : Option ℕ → ℕ
cause_of (Some f) = 1 + f % 2
cause_of None = 0

-- G: the number of the multiframe that holds that frame, or m where there is no loss
abbrev pub used_of : Option ℕ → ℕ → ℕ
used_of (Some f) m = f / 16
used_of None m = m

-- slots 1 to 31 of n frames, in the payload's order
unfoldable pub slots : List ℕ → ℕ → ℕ → List ℕ
slots s q n = tab (31 * n) (λ i. octet_at s (slot_at q (frame_of i) (slot_of i)))

-- slot 0 of n frames
unfoldable pub slots0 : List ℕ → ℕ → ℕ → List ℕ
slots0 s q n = tab n (λ f. octet_at s (slot_at q f 0))

-- the two outputs of g multiframes
abbrev pub payload_of : List ℕ → ℕ → ℕ → List ℕ
payload_of s q g = slots s q (16 * g)

abbrev pub slot0_of : List ℕ → ℕ → ℕ → List ℕ
slot0_of s q g = slots0 s q (16 * g)

-- wrong alignment words among the 8g
unfoldable pub word_errors : List ℕ → ℕ → ℕ → ℕ
word_errors s q g = count (8 * g) (wrong s q)

-- the wrong bits of the 8g words in all
unfoldable pub word_bits : List ℕ → ℕ → ℕ → ℕ
word_bits s q g = sum (8 * g) (wrong_bits_of s q)

-- blocks compared: 2g - 1, or 0 where g is 0
abbrev pub compared : ℕ → ℕ
compared g = 2 * g - 1

-- block b agrees with the check bits after it
abbrev pub agrees_in : List ℕ → ℕ → ℕ → Bool
agrees_in s q b = agrees s (q + 2048 * b)

-- how many of n blocks from p on do not
abbrev pub disagreeing : List ℕ → ℕ → ℕ → ℕ
disagreeing s p n = count n (λ b. not (agrees_in s p b))

-- the compared blocks that do not
unfoldable pub errored : List ℕ → ℕ → ℕ → ℕ
errored s q g = disagreeing s q (compared g)

-- the E bits (G.704, 2.3.3.4) of multiframe m that are 0: bit 1 of its frames 13 and 15
abbrev pub zeros_e : List ℕ → ℕ → ℕ → ℕ
zeros_e s q m = (1 - bit_at s (frame_at q (16 * m + 13))) + (1 - bit_at s (frame_at q (16 * m + 15)))

-- those of g multiframes: each counts, whether or not the block that holds it agrees
unfoldable pub far_end : List ℕ → ℕ → ℕ → ℕ
far_end s q g = sum g (zeros_e s q)
