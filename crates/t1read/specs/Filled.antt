-- For private functions alone. A payload of which some frames are written, those eight apart at a time.
use Rattle.std.specs.Prelude.{if◌then◌else◌, ℕ, ◌/◌, ◌%◌, Bool, ◌&&◌, List, eqb, ltb, length, get_or}
use Rattle.base.specs.Tab.{tab}
use Rattle.t1read.specs.Reading.{octet_of}

-- out, with the octets of the frames that pass the test in place of its own
unfoldable pub filled : (ℕ → Bool) → List ℕ → ℕ → List ℕ → List ℕ
filled t s q out = tab (length out) (λ k. if t (k / 24) then octet_of s q k else get_or out k 0)

-- frame f is one of g, g + 8, g + 16 and so on, of n frames
abbrev pub every_eighth : ℕ → ℕ → ℕ → Bool
every_eighth g n f = ltb f n && eqb (f % 8) g
