-- The bench cases that go to proof, as one list under one claim (KIT §12 and §15).
use Rattle.std.specs.Prelude.{if◌then◌else◌, ℕ, ◌+◌, ◌-◌, ◌*◌, ◌/◌, ◌%◌, ◌^◌, ◌≡◌, Bool, true, ◌&&◌, List, [], ◌∷◌, eqb, length, replicate}
use Rattle.base.specs.Tab.{tab, sum}
use Rattle.e1.specs.Block.{block_check}
use Rattle.e1.specs.Frame.{even_slot0, odd_slot0}
use Rattle.t1.specs.Superframe.{check_of}
use Rattle.signals.specs.Signalling.{first_in}
use Rattle.exchange.specs.Mapping.{entry_at}
use Rattle.exchange.specs.Machine.{start_state}
use Rattle.base.specs.Answer.{among}
use Rattle.exchange.specs.Runs.{Call, host, key, boundary, after_run}

-- A case: the places of a block's bits that are 1, and its check; an octet, and what it is; a run from the start, a
-- slot, and its live entry then; slot 16 of frames in a row, and the first at which alignment is taken; of T1 a superframe
-- whose octets are all the same, with ones at these places too, and its check.
pub data Case : Type 0 where
  ones : List ℕ → ℕ → Case
  octet : ℕ → ℕ → Case
  run : List Call → ℕ → ℕ → Case
  taken : List ℕ → ℕ → Case
  superframe : ℕ → List ℕ → ℕ → Case

-- the octets of a block with ones at these places alone
unfoldable pub block_of : List ℕ → List ℕ
block_of places = tab 256 (λ i. sum 8 (λ j. if among (8 * i + j) places then 2 ^ (7 - j) else 0))

-- bit i of a superframe whose octets are all x, with ones at these places too
unfoldable pub super_bit : ℕ → List ℕ → ℕ → ℕ
super_bit x places i = if among i places then 1 else x / 2 ^ (7 - (i % 193 - 1) % 8) % 2

unfoldable pub holds : Case → Bool
holds (ones places c) = eqb (block_check (block_of places) 0) c
holds (octet x y) = eqb x y
holds (run calls slot entry) = eqb (entry_at (after_run start_state calls).live slot) entry
holds (taken t f) = eqb (first_in t (length t)) f
holds (superframe x places c) = eqb (check_of (super_bit x places)) c

abbrev pub all_hold : List Case → Bool
all_hold [] = true
all_hold (c ∷ cs) = holds c && all_hold cs

abbrev pub stage59 : Call
stage59 = host (1 ∷ 5 ∷ 9 ∷ 0 ∷ [])

abbrev pub commit : Call
commit = host (2 ∷ 0 ∷ 0 ∷ 0 ∷ [])

-- the bits of a block are 0 to 2047; checks are 0000, 0011, 0110, 1100, 1011 as numbers
unfoldable pub cases : List Case
cases =
    -- 1
    ones [] 0
    -- 2
    ∷ ones (2047 ∷ []) 3
    ∷ ones (2046 ∷ []) 6
    ∷ ones (2045 ∷ []) 12
    ∷ ones (2044 ∷ []) 11
    -- 3
    ∷ ones (2047 ∷ 2032 ∷ []) 0
    -- 4
    ∷ ones (0 ∷ []) 0
    -- 5
    ∷ ones (2043 ∷ 2046 ∷ 2047 ∷ []) 0
    -- 6: 0x1B, 0x9B, 0x5F, 0x7F
    ∷ octet (even_slot0 0) 27
    ∷ octet (even_slot0 1) 155
    ∷ octet (odd_slot0 0 31) 95
    ∷ octet (odd_slot0 0 63) 127
    -- 7
    ∷ run (key 1 ∷ stage59 ∷ commit ∷ key 0 ∷ boundary ∷ key 1 ∷ []) 5 5
    -- 8
    ∷ run (key 1 ∷ stage59 ∷ commit ∷ boundary ∷ key 0 ∷ []) 5 9
    -- 17
    ∷ taken (11 ∷ replicate 15 0) 1
    -- 21: 000010, 010011, 000110
    ∷ superframe 0 [] 2
    ∷ superframe 255 [] 19
    ∷ superframe 127 [] 6
    -- 22
    ∷ superframe 0 (4631 ∷ []) 1
    ∷ superframe 0 (4630 ∷ []) 4
    ∷ superframe 0 (193 ∷ []) 2
    ∷ superframe 0 (4631 ∷ 4568 ∷ []) 2
    ∷ []

abbrev pub Bench : Type 0
Bench = all_hold cases ≡ true
