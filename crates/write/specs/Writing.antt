-- The multiframes that are written (KIT §6), block after block. Frames and blocks are numbered from the first; p is the
-- payload, o the overhead, one octet for each odd frame, and c the check of the block before the first.
use Rattle.std.specs.Prelude.{if◌then◌else◌, ℕ, zero, suc, ◌+◌, ◌-◌, ◌*◌, ◌/◌, ◌%◌, ◌^◌, List, [], ◌++◌, eqb, ltb, get_or}
use Rattle.base.specs.Tab.{tab}
use Rattle.line.specs.Signal.{signal}
use Rattle.e1.specs.Frame.{even_slot0, odd_slot0}
use Rattle.e1.specs.Block.{block_check}
use Rattle.e1.specs.Payload.{index_of}

-- C1 to C4 of the check k, in the even frames of a block
abbrev pub check_bit : ℕ → ℕ → ℕ
check_bit k f = k / 2 ^ (3 - f / 2 % 4) % 2

-- bit 1 of the odd frame f: the signal in frames 1 to 11 of a multiframe, E in 13 and 15; x is the frame's overhead
-- octet
abbrev pub bit1 : ℕ → ℕ → ℕ
bit1 f x = if ltb (f / 2 % 8) 6 then get_or signal (f / 2 % 8) 0 else x / 64

-- slot 0 of frame f, in a block that carries the check k
unfoldable pub slot0 : ℕ → ℕ → ℕ → ℕ
slot0 k f x = if eqb (f % 2) 0 then even_slot0 (check_bit k f) else odd_slot0 (bit1 f x) x

-- slot j of frame f
abbrev pub octet_in : List ℕ → List ℕ → ℕ → ℕ → ℕ → ℕ
octet_in p o k f j = if eqb j 0 then slot0 k f (get_or o (f / 2) 0) else get_or p (index_of f j) 0

-- block b, which carries the check k: frames 8b to 8b + 7
unfoldable pub block : List ℕ → List ℕ → ℕ → ℕ → List ℕ
block p o k b = tab 256 (λ i. octet_in p o k (8 * b + i / 32) (i % 32))

-- the check that block b carries: that of the block before it
unfoldable pub carries : List ℕ → List ℕ → ℕ → ℕ → ℕ
carries p o c zero = c
carries p o c (suc b) = block_check (block p o (carries p o c b) b) 0

-- the first b blocks
unfoldable pub written : List ℕ → List ℕ → ℕ → ℕ → List ℕ
written p o c zero = []
written p o c (suc b) = written p o c b ++ block p o (carries p o c b) b

-- the overhead octet of the odd frame 2h + 1, of whose slot 0 x is the octet: A and Sa4 to Sa8, and E in frames 13 and
-- 15
abbrev pub overhead_of : ℕ → ℕ → ℕ
overhead_of h x = if ltb (h % 8) 6 then x % 64 else 64 * (x / 128) + x % 64
