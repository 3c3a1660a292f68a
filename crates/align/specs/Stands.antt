-- Which place stands, as KIT §4 says it. What is worked out in Place is proved to be this, both ways.
use Rattle.std.specs.Prelude.{ℕ, ◌+◌, ◌*◌, ◌≤◌, ◌<◌, ◌≡◌, List, length, get_or}
use Rattle.line.specs.Bit.{bit_at, field}
use Rattle.line.specs.Signal.{signal}
use Rattle.align.specs.Place.{mark}

-- basic alignment: the word in the frame at p, a 1 in bit 2 of the next frame, the word again in the one after
pub record Basic (s : List ℕ) (p : ℕ) : Type 0 where
  pub word : field s (p + 1) 7 ≡ 27
  pub bit_2 : bit_at s (p + 257) ≡ 1
  pub word_again : field s (p + 513) 7 ≡ 27

-- the first place with basic alignment and 16,384 bits from it to the end of the image; places before it have these too
pub record BasicFirst (s : List ℕ) (p : ℕ) : Type 0 where
  pub room : p + 16384 ≤ 8 * length s
  pub basic : Basic s p
  pub before : (q : ℕ) → q < p → Basic s q → ⊥

-- the signal is at k: six marks from k on are 0, 0, 1, 0, 1, 1
abbrev pub Signal : List ℕ → ℕ → ℕ → Type 0
Signal s p k = (i : ℕ) → i < 6 → mark s p (k + i) ≡ get_or signal i 0

-- it is there once more 8j marks on, 2j ms later, and all of it among the 32 marks of 8 ms
pub record Pair (s : List ℕ) (p k : ℕ) : Type 0 where
  pub here : Signal s p k
  pub j : ℕ
  pub least_j : 1 ≤ j
  pub most_j : j ≤ 3
  pub within : k + 8 * j + 5 ≤ 31
  pub again : Signal s p (k + 8 * j)

-- the place p stands, and k is its least
pub record Stands (s : List ℕ) (p k : ℕ) : Type 0 where
  pub room : p + 16384 ≤ 8 * length s
  pub basic : Basic s p
  pub pair : Pair s p k
  pub least : (l : ℕ) → l < k → Pair s p l → ⊥

-- and no place before it stands
pub record StandsFirst (s : List ℕ) (p k : ℕ) : Type 0 where
  pub stands : Stands s p k
  pub before : (q l : ℕ) → q < p → Stands s q l → ⊥
