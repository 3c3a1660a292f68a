-- What a word spells.
use Rattle.std.specs.Prelude.{if◌then◌else◌, ℕ, ◌+◌, ◌*◌, ◌-◌, ◌^◌, min, Bool, ◌||◌, List, [], ◌∷◌, ltb, Option, Some, None}

-- an octet that is no decimal digit
abbrev pub no_digit : ℕ → Bool
no_digit x = ltb x 48 || ltb 57 x

-- the number that v and then a word's digits spell, or the largest of 64 bits where it is larger;
-- nothing, where an octet is no digit (no word is empty)
unfoldable pub decimal : ℕ → List ℕ → Option ℕ
decimal v [] = Some v
decimal v (x ∷ xs) = if no_digit x then None else decimal (min (10 * v + (x - 48)) (2 ^ 64 - 1)) xs
