-- For private functions alone. What the search's windows say of the 56 places from octet i on: a set of them is a
-- number whose bit n - o, n mostly 63, stands for the place 8i + o. A place that counts has its bit 1, and a 1 too many
-- costs only time.
use Rattle.std.specs.Prelude.{ℕ, ◌+◌, ◌-◌, ◌*◌, ◌≤◌, ◌<◌, ◌≡◌, Bool, false, List, ◌⊎◌, get_or, Option, Some, None}
use Rattle.line.specs.Bit.{field}
use Rattle.line.specs.Window.{turned, bit_of, One}
use Rattle.line.specs.Signal.{signal}
use Rattle.align.specs.Stands.{Basic, Pair, Stands}
use Rattle.align.specs.declared.Hit.{Hit}

-- r has the places with P
abbrev pub Holds : (ℕ → Type 0) → ℕ → ℕ → ℕ → Type 0
Holds P i n r = (o : ℕ) → o < 56 → P (8 * i + o) → One r (n - o)

-- no place from a to b has P
abbrev pub NoneFrom : (ℕ → Type 0) → ℕ → ℕ → Type 0
NoneFrom P a b = (q : ℕ) → a ≤ q → q < b → P q → ⊥

-- the first window from octet i on that has places with basic alignment, before octet `end`, and its places; or there is
-- none
abbrev pub Hits : List ℕ → ℕ → ℕ → Option Hit → Type 0
Hits s i end (Some h) =
    (i ≤ h.octet) × (h.octet < end) × NoneFrom (Basic s) (8 * i) (8 * h.octet) × Holds (Basic s) h.octet 63 h.places
Hits s i end None = NoneFrom (Basic s) (8 * i) (8 * end)

-- m has the octets of each of the first c marks
abbrev pub Marks : List ℕ → ℕ → ℕ → List ℕ → Type 0
Marks s i c m = (k : ℕ) → k < c → turned 8 (get_or m k 0) ≡ field s (8 * (i + 32 + 64 * k)) 64

-- r has a 1 where six windows have 0, 0, 1, 0, 1, 1
abbrev pub SignalIn : ℕ → ℕ → ℕ → ℕ → ℕ → ℕ → ℕ → Type 0
SignalIn a b c d e f r =
    (n : ℕ) → n < 64 → bit_of a n ≡ 0 → bit_of b n ≡ 0 → One c n → bit_of d n ≡ 0 → One e n → One f n → One r n

-- x has a 1 where the marks from k on are the signal
abbrev pub SignalFrom : List ℕ → ℕ → ℕ → Type 0
SignalFrom m k x = (n : ℕ) → n < 64 → ((j : ℕ) → j < 6 → bit_of (get_or m (k + j) 0) n ≡ get_or signal j 0) → One x n

-- g has such a number for each of the first c k
abbrev pub Signals : List ℕ → ℕ → List ℕ → Type 0
Signals m c g = (k : ℕ) → k < c → SignalFrom m k (get_or g k 0)

-- r has a 1 where one of the first c k has the signal at k and once more
abbrev pub Pairs : List ℕ → ℕ → ℕ → Type 0
Pairs g c r =
    (k : ℕ) → k < c → (n : ℕ) → One (get_or g k 0) n → (j : ℕ) → 1 ≤ j → j ≤ 3 → One (get_or g (k + 8 * j) 0) n → One r n

-- the place q has a pair of signals
abbrev pub Paired : List ℕ → ℕ → Type 0
Paired s q = (k : ℕ) × Pair s q k

-- the search has to look at the place q: it stands, or it has basic alignment and no such place is known yet
abbrev pub Wanted : List ℕ → Bool → ℕ → Type 0
Wanted s known q = ((k : ℕ) × Stands s q k) ⊎ ((known ≡ false) × Basic s q)
