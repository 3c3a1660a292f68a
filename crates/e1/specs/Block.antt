-- Blocks of G.704, 2.3.3.1 (KIT §2, §3). A block is 8 frames, 2,048 bits: frames 0 to 7 of a multiframe, then 8 to 15;
-- q is the place of its bit 0.
use Rattle.std.specs.Prelude.{ℕ, ◌+◌, ◌*◌, Bool, List, eqb}
use Rattle.line.specs.Bit.{bit_at}
use Rattle.line.specs.Spelt.{spelt}
use Rattle.crc.specs.Remainder.{check}
use Rattle.crc.specs.Striped.{read_as, striped}

-- bit i of the block: its check bits, bit 1 of its frames 0, 2, 4 and 6, are read as 0; all others are data bits
abbrev pub block_bit : List ℕ → ℕ → ℕ → ℕ
block_bit s q = read_as 512 0 (λ i. bit_at s (q + i))

abbrev pub block_bits : List ℕ → ℕ → List ℕ
block_bits s q = striped 2048 512 0 (λ i. bit_at s (q + i))

-- its check
unfoldable pub block_check : List ℕ → ℕ → ℕ
block_check s q = check 4 (block_bits s q)

-- C1 to C4, as the block carries them; C1 is the x^3 term
unfoldable pub carried : List ℕ → ℕ → ℕ
carried s q = spelt 4 (λ j. bit_at s (q + 512 * j))

-- the block's check is the one that the next block carries
unfoldable pub agrees : List ℕ → ℕ → Bool
agrees s q = eqb (block_check s q) (carried s (q + 2048))
