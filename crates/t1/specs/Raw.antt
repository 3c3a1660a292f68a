-- For private functions alone, and for `raw`, `framing`, `carried_by` and `check_by`, which those of the crates above use. The
-- check of a superframe, from the remainder of its bits as they are and from its framing bits as a number.
use Rattle.std.specs.Prelude.{if◌then◌else◌, ℕ, zero, suc, ◌+◌, ◌-◌, ◌*◌, ◌/◌, ◌%◌, List, eqb}
use Rattle.std.specs.Int.Bits.{bit_xor}
use Rattle.base.specs.Tab.{tab}
use Rattle.line.specs.Bit.{bit_at}
use Rattle.line.specs.Spelt.{spelt}
use Rattle.crc.specs.Remainder.{zeros, after}
use Rattle.t1.specs.Superframe.{framing_at}

-- the remainder of the 4,632 bits from place p on, framing bits as they are
unfoldable pub raw : List ℕ → ℕ → ℕ
raw s p = after 6 0 (tab 4632 (λ i. bit_at s (p + i)))

-- what makes its framing bits 1
unfoldable pub lacking : List ℕ → ℕ → ℕ
lacking s p = after 6 0 (tab 4632 (λ i. if eqb (i % 193) 0 then 1 - bit_at s (p + i) else 0))

-- what makes the first n framing bits from place p on 1, up to the last of them: a frame more is x^193, which is x^4
unfoldable pub lacking_by : List ℕ → ℕ → ℕ → ℕ
lacking_by s p zero = 0
lacking_by s p (suc n) = bit_xor (after 6 (lacking_by s p n) (zeros 4)) (1 - bit_at s (p + 193 * n))

-- the 24 framing bits of the superframe at q, as a number
unfoldable pub framing_of : List ℕ → ℕ → ℕ
framing_of s q = spelt 24 (λ f. bit_at s (framing_at q f))

-- the six digits of r, four apart: r in x^4 for x, which is its fourth power, as the square of a sum is the sum of the
-- squares here
unfoldable pub fourth : ℕ → ℕ
fourth r =
    r % 2 + 16 * (r / 2 % 2) + 256 * (r / 4 % 2) + 4096 * (r / 8 % 2) + 65536 * (r / 16 % 2) + 1048576 * (r / 32 % 2)
