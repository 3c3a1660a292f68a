-- The counts of an accepted reading, told off on the line itself: what is counted can be numbered from the least up,
-- and nothing is left out.
use Rattle.std.specs.Prelude.{ℕ, ◌+◌, ◌*◌, ◌/◌, ◌%◌, ◌≤◌, ◌<◌, ◌≡◌, true, List, ◌↔◌, ◌≢◌, get_or}
use Rattle.line.specs.Bit.{bit_at, field}
use Rattle.e1.specs.Frame.{frame_at, alignment}
use Rattle.e1.specs.Block.{block_check, carried}
use Rattle.measure.specs.Reading.{wrong}
use Rattle.read.specs.Entry.{Read}
use Rattle.read.specs.Answer.{Reading}

-- k of the numbers below n have P
pub record Counted (n k : ℕ) (P : ℕ → Type 0) : Type 0 where
  pub at : ℕ → ℕ
  pub rising : (i : ℕ) → i + 1 < k → at i < at (i + 1)
  pub each : (i : ℕ) → i < k → (at i < n) × P (at i)
  pub all : (b : ℕ) → b < n → P b → (i : ℕ) × (i < k) × (at i ≡ b)

-- block b, numbered from the multiframe start q, agrees with the check that the next one carries
abbrev pub Agrees : List ℕ → ℕ → ℕ → Type 0
Agrees s q b = block_check s (q + 2048 * b) ≡ carried s (q + 2048 * b + 2048)

-- the word of the even frame 2i is not 0011011
abbrev pub WrongWord : List ℕ → ℕ → ℕ → Type 0
WrongWord s q i = field s (frame_at q (2 * i) + 1) 7 ≢ 27

-- the place of bit j of that word, j from 0 to 6
abbrev pub word_bit_at : ℕ → ℕ → ℕ → ℕ
word_bit_at q i j = frame_at q (2 * i) + 1 + j

-- it is not as in 0011011
abbrev pub WrongBit : List ℕ → ℕ → ℕ → ℕ → Type 0
WrongBit s q i j = bit_at s (word_bit_at q i j) ≢ get_or alignment j 0

-- t is s with that bit turned over, from right to wrong
pub record OneHit (s t : List ℕ) (q i j : ℕ) : Type 0 where
  pub bit : j < 7
  pub right : bit_at s (word_bit_at q i j) ≡ get_or alignment j 0
  pub wrong : WrongBit t q i j
  pub others : (p : ℕ) → p ≢ word_bit_at q i j → bit_at t p ≡ bit_at s p

-- the place of E bit e: they are numbered through, two to a multiframe, in its frames 13 and 15
abbrev pub bit_e_at : ℕ → ℕ → ℕ
bit_e_at q e = frame_at q (16 * (e / 2) + 13 + 2 * (e % 2))

-- it is 0
abbrev pub FarError : List ℕ → ℕ → ℕ → Type 0
FarError s q e = bit_at s (bit_e_at q e) ≡ 0

pub record Counts : Type 0 where
  pub words : (s payload slot0 : List ℕ) (r : Reading) (payload' slot0' : List ℕ)
      → Read s payload slot0 r payload' slot0' → r.number ≡ 0
      → Counted (8 * r.used) r.words (WrongWord s r.start)
  -- and the loss goes by the same words
  pub wrong_word : (s : List ℕ) (q i : ℕ) → wrong s q i ≡ true ↔ WrongWord s q i
  -- the bits of the words are numbered through, seven to a word
  pub wordbits : (s payload slot0 : List ℕ) (r : Reading) (payload' slot0' : List ℕ)
      → Read s payload slot0 r payload' slot0' → r.number ≡ 0
      → Counted (7 * (8 * r.used)) r.wordbits (λ b. WrongBit s r.start (b / 7) (b % 7))
  -- a wrong word has one of them or more, and seven at most
  pub least_bits : (s payload slot0 : List ℕ) (r : Reading) (payload' slot0' : List ℕ)
      → Read s payload slot0 r payload' slot0' → r.words ≤ r.wordbits
  pub most_bits : (s payload slot0 : List ℕ) (r : Reading) (payload' slot0' : List ℕ)
      → Read s payload slot0 r payload' slot0' → r.wordbits ≤ 7 * r.words
  pub no_bits : (s payload slot0 : List ℕ) (r : Reading) (payload' slot0' : List ℕ)
      → Read s payload slot0 r payload' slot0' → r.wordbits ≡ 0 ↔ r.words ≡ 0
  -- a right bit of a used word turned over is one more, as long as start and used stay
  pub one_hit : (s payload slot0 : List ℕ) (r : Reading) (payload' slot0' : List ℕ)
      → Read s payload slot0 r payload' slot0' → r.number ≡ 0
      → (t payload-t slot0-t : List ℕ) (r' : Reading) (payload-t' slot0-t' : List ℕ)
      → Read t payload-t slot0-t r' payload-t' slot0-t' → r'.number ≡ 0
      → r'.start ≡ r.start → r'.used ≡ r.used
      → (i j : ℕ) → i < 8 * r.used → OneHit s t r.start i j → r'.wordbits ≡ r.wordbits + 1
  pub errored : (s payload slot0 : List ℕ) (r : Reading) (payload' slot0' : List ℕ)
      → Read s payload slot0 r payload' slot0' → r.number ≡ 0
      → Counted r.compared r.errored (λ b. Agrees s r.start b → ⊥)
  pub farend : (s payload slot0 : List ℕ) (r : Reading) (payload' slot0' : List ℕ)
      → Read s payload slot0 r payload' slot0' → r.number ≡ 0
      → Counted (2 * r.used) r.farend (FarError s r.start)
  -- so none is errored exactly when every compared block agrees
  pub none_errored : (s payload slot0 : List ℕ) (r : Reading) (payload' slot0' : List ℕ)
      → Read s payload slot0 r payload' slot0' → r.number ≡ 0
      → r.errored ≡ 0 ↔ ((b : ℕ) → b + 1 < 2 * r.used → Agrees s r.start b)
