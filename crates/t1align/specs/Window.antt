-- For private functions alone. What the search looks for in a part of an image, 1,158 octets, and what it passes over.
use Rattle.std.specs.Prelude.{ℕ, ◌+◌, ◌*◌, ◌%◌, ◌≤◌, ◌<◌, ◌≡◌, List, get_or}
use Rattle.std.specs.Prelude.{Option, Some, None}
use Rattle.line.specs.Bit.{bit_at}
use Rattle.line.specs.Signal.{signal}
use Rattle.t1.specs.Superframe.{framing_at}
use Rattle.t1sliced.specs.Sliced.{Exactly}
use Rattle.t1align.specs.Stands.{Framed}
use Rattle.t1align.specs.declared.Candidates.{Candidates}

-- the superframe at place o has every second bit of the signal, from bit e on, e 0 or 1
abbrev pub HalfFramed : ℕ → List ℕ → ℕ → Type 0
HalfFramed e s o = (k : ℕ) → k < 3 → bit_at s (framing_at o (4 * (2 * k + e) + 3)) ≡ get_or signal (2 * k + e) 0

-- that one and the next have these bits
abbrev pub BothHalfFramed : ℕ → List ℕ → ℕ → Type 0
BothHalfFramed e s o = HalfFramed e s o × HalfFramed e s (o + 4632)

-- both have all of it
abbrev pub BothFramed : List ℕ → ℕ → Type 0
BothFramed s o = Framed s o × Framed s (o + 4632)

-- no place from a to e has
abbrev pub NoneFramed : List ℕ → ℕ → ℕ → Type 0
NoneFramed s a e = (q : ℕ) → a ≤ q → q < e → BothFramed s q → ⊥

-- octet at is whole windows on from octet i, and no place from one to the other has both signals
pub record Passed (s : List ℕ) (i at : ℕ) : Type 0 where
  pub onward : i ≤ at
  pub windows : at % 7 ≡ i % 7
  pub none : NoneFramed s (8 * i) (8 * at)

-- the window that is found is the first from octet i on that has such places, with these; with none, no place has up to
-- the end
abbrev pub FirstWindow : List ℕ → ℕ → ℕ → Option Candidates → Type 0
FirstWindow s i end (Some c) = Passed s i c.at × (c.at < end) × Exactly (λ o. BothFramed s (8 * c.at + o)) c.places
FirstWindow s i end None = NoneFramed s (8 * i) (8 * end)
