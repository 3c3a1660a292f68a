-- For private functions alone, and for `eight_octets` and `turned`, which the search's private functions use. The octets
-- of a number turned, as a window of 64 bits is made of them, and its bits.
use Rattle.std.specs.Prelude.{ℕ, zero, suc, ◌+◌, ◌*◌, ◌/◌, ◌%◌, ◌^◌, ◌≡◌}

-- the n lowest octets of w, the lowest first
unfoldable pub turned : ℕ → ℕ → ℕ
turned zero w = 0
turned (suc n) w = 256 * turned n w + w / 256 ^ n % 256

-- bit n of x, counted from the lowest
abbrev pub bit_of : ℕ → ℕ → ℕ
bit_of x n = x / 2 ^ n % 2

abbrev pub One : ℕ → ℕ → Type 0
One x n = bit_of x n ≡ 1
