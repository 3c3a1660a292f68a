-- Signalling in slot 16 (KIT §2, §5). t is slot 16 of frames in a row, one octet a frame; frames are numbered from the
-- first. A signalling multiframe is 16 frames: frame 0 of it has 0000, X0, Y, X1, X2, and frame i, 1 to 15, has A to D
-- of channel i and then of channel i + 15.
use Rattle.std.specs.Prelude.{if◌then◌else◌, ℕ, zero, suc, ◌+◌, ◌-◌, ◌*◌, ◌/◌, ◌%◌, Bool, false, ◌&&◌, not, List, [], ◌∷◌, ◌++◌, eqb, leb, ltb, length, get_or}
use Rattle.base.specs.Choice.{value_or}
use Rattle.base.specs.Tab.{tab, count, least}

-- frame f has the signal, 0000 in the high four bits
abbrev pub signal_at : List ℕ → ℕ → Bool
signal_at t f = eqb (get_or t f 0 / 16) 0

-- alignment can be taken at frame f (G.732): it has the signal, and the frame before it has a 1 somewhere
unfoldable pub aligns : List ℕ → ℕ → Bool
aligns t zero = false
aligns t (suc f) = signal_at t (suc f) && not (eqb (get_or t f 0) 0)

-- What is known between two frames: how many frames of a signalling multiframe have passed, 1 to 16, or 0 where
-- alignment is searched for; and whether its signal was wrong.
pub record Walk : Type 0 where
  pub passed : ℕ
  pub wrong : Bool

abbrev pub searching : Walk
searching = record { passed = 0; wrong = false }

-- behind frame f, frame 0 of a signalling multiframe
abbrev pub begun : List ℕ → ℕ → Walk
begun t f = record { passed = 1; wrong = not (signal_at t f) }

-- frame f: alignment is taken where it can be; behind a whole signalling multiframe the next begins, unless a second
-- signal in a row is wrong, which is a loss
unfoldable pub step : List ℕ → ℕ → Walk → Walk
step t f w =
    if eqb w.passed 0 then (if aligns t f then begun t f else searching) else
    if eqb w.passed 16 then (if w.wrong && not (signal_at t f) then searching else begun t f) else
    record { passed = w.passed + 1; wrong = w.wrong }

-- behind the first f frames
unfoldable pub walk : List ℕ → ℕ → Walk
walk t zero = searching
walk t (suc f) = step t f (walk t f)

-- frame f is the last of a signalling multiframe that is read; and that of a loss
unfoldable pub ends : List ℕ → ℕ → Bool
ends t f = eqb (walk t (f + 1)).passed 16

unfoldable pub loses : List ℕ → ℕ → Bool
loses t f = eqb (walk t f).passed 16 && eqb (walk t (f + 1)).passed 0

-- Of the first n frames: where the signalling multiframes that are read begin, in their order

unfoldable pub starts_in : List ℕ → ℕ → List ℕ
starts_in t zero = []
starts_in t (suc f) = starts_in t f ++ (if ends t f then (f - 15) ∷ [] else [])

-- how many there are; the frame of the first alignment, 0 where there is none; the losses; and whether alignment is held
-- behind the last frame

abbrev pub read_in : List ℕ → ℕ → ℕ
read_in t n = length (starts_in t n)

unfoldable pub first_in : List ℕ → ℕ → ℕ
first_in t n = value_or (least n (aligns t)) 0

unfoldable pub losses_in : List ℕ → ℕ → ℕ
losses_in t n = count n (loses t)

unfoldable pub held_in : List ℕ → ℕ → Bool
held_in t n = not (eqb (walk t n).passed 0)

-- A to D of channel c, 1 to 30, of the signalling multiframe that begins at frame a
abbrev pub abcd_at : List ℕ → ℕ → ℕ → ℕ
abcd_at t a c = if leb c 15 then get_or t (a + c) 0 / 16 else get_or t (a + (c - 15)) 0 % 16

-- those of all that are read, thirty for each
unfoldable pub abcd_in : List ℕ → ℕ → List ℕ
abcd_in t n = tab (30 * read_in t n) (λ i. abcd_at t (get_or (starts_in t n) (i / 30) 0) (i % 30 + 1))

-- frame 0 of the last; 11, which is 0000 1 0 1 1, so X 1 and Y 0, where none is read or alignment is not held
unfoldable pub xy_in : List ℕ → ℕ → ℕ
xy_in t n = if held_in t n && ltb 0 (read_in t n) then get_or t (get_or (starts_in t n) (read_in t n - 1) 0) 0 else 11
