-- For private functions alone, and for `crc::six`, which they use. Remainders by x^w + x + 1 of numbers, and of numbers
-- of two words.
use Rattle.std.specs.Prelude.{ℕ, ◌+◌, ◌*◌, ◌^◌}
use Rattle.base.specs.Tab.{tab}
use Rattle.line.specs.Spelt.{digit}
use Rattle.crc.specs.Remainder.{after}
use Rattle.crc.specs.declared.six.Wide.{Wide}

-- the remainder of the n lowest digits of x
unfoldable pub remainder : ℕ → ℕ → ℕ → ℕ
remainder w n x = after w 0 (tab n (digit n x))

-- and of the 128 digits of two words
abbrev pub wide_remainder : ℕ → Wide → ℕ
wide_remainder w a = remainder w 128 (a.high * 2 ^ 64 + a.low)
