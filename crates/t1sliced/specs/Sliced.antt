-- For private functions alone, and for `agreeing`, which the search's private functions use. What it works out of a part
-- of an image, 1,158 octets, for its first 56 places at once: a set of these is a number whose bit 63 - o stands for the
-- place o.
use Rattle.std.specs.Prelude.{if◌then◌else◌, ℕ, zero, suc, ◌+◌, ◌-◌, ◌*◌, ◌<◌, ◌≡◌, List, ◌↔◌, eqb, ltb, get_or}
use Rattle.std.specs.Int.Bits.{bit_xor}
use Rattle.line.specs.Bit.{bit_at}
use Rattle.line.specs.Window.{bit_of, One}
use Rattle.crc.specs.Remainder.{zeros, after}
use Rattle.t1.specs.Superframe.{super_check, carried}
use Rattle.t1.specs.Raw.{raw, lacking_by}

-- r has the places with P, and no others
abbrev pub Exactly : (ℕ → Type 0) → ℕ → Type 0
Exactly P r = (o : ℕ) → o < 56 → (One r (63 - o) ↔ P o)

-- the superframe at o agrees
abbrev pub AgreesAt : List ℕ → ℕ → Type 0
AgreesAt s o = super_check s o ≡ carried s (o + 4632)

-- Remainders f 0, f 1, .. of the places, sliced: six words, of which word t has the coefficients of x^t
abbrev pub Sliced : (ℕ → ℕ) → List ℕ → Type 0
Sliced f a = (o : ℕ) → o < 56 → (t : ℕ) → t < 6 → bit_of (get_or a t 0) (63 - o) ≡ bit_of (f o) t

-- r has x^n times what a has
abbrev pub Times : ℕ → List ℕ → List ℕ → Type 0
Times n a r = (f : ℕ → ℕ) → ((o : ℕ) → f o < 64) → Sliced f a → Sliced (λ o. after 6 (f o) (zeros n)) r

-- f, n places later
abbrev pub later : ℕ → (ℕ → ℕ) → ℕ → ℕ
later n f o = if ltb o n then 0 else f (o - n)

-- r has the bits of a n places later
abbrev pub BitsLater : ℕ → ℕ → ℕ → Type 0
BitsLater n a r = (o : ℕ) → o < 56 → bit_of r (63 - o) ≡ later n (λ o. bit_of a (63 - o)) o

-- r has the sum of what a has, and what b has n places before
abbrev pub PlusLater : ℕ → List ℕ → List ℕ → List ℕ → Type 0
PlusLater n a b r = (f g : ℕ → ℕ) → Sliced f a → Sliced g b → Sliced (λ o. bit_xor (f o) (later n g o)) r

-- what the place o adds to x times the remainder of the place before it: the bit that comes in, and x^4632, which is
-- x^4 + x, for the one that is gone; place 0 begins with its own
unfoldable pub change : List ℕ → ℕ → ℕ
change s zero = raw s 0
change s (suc o) = bit_xor (bit_at s (o + 4632)) (18 * bit_at s o)

-- x has bit t of n at place 0, and zeros behind it
abbrev pub TopBit : ℕ → ℕ → ℕ → Type 0
TopBit n t x = (o : ℕ) → o < 56 → bit_of x (63 - o) ≡ (if eqb o 0 then bit_of n t else 0)

-- x has the bits from place q on
abbrev pub BitsFrom : List ℕ → ℕ → ℕ → Type 0
BitsFrom s q x = (o : ℕ) → o < 56 → bit_of x (63 - o) ≡ bit_at s (o + q)

-- r has the bits of a turned over
abbrev pub Complement : ℕ → ℕ → Type 0
Complement a r = (n : ℕ) → n < 64 → bit_of r n ≡ 1 - bit_of a n

-- r has a frame more than a, of whose framing bits these are
abbrev pub WithFrame : ℕ → List ℕ → List ℕ → Type 0
WithFrame bits a r =
    (f : ℕ → ℕ) → ((o : ℕ) → f o < 64) → Sliced f a
    → Sliced (λ o. bit_xor (after 6 (f o) (zeros 4)) (1 - bit_of bits (63 - o))) r

-- r has eight more, the first of which begins with octet i
abbrev pub WithEight : List ℕ → ℕ → List ℕ → List ℕ → Type 0
WithEight s i a r =
    (n : ℕ) → 193 * n ≡ 8 * i → Sliced (λ o. lacking_by s o n) a → Sliced (λ o. lacking_by s o (n + 8)) r
