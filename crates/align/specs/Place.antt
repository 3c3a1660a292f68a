-- Which place stands (G.706, 4.1.2 and 4.2; KIT §4), as it is worked out: the first of an image that does, with its
-- least k; and where none does, the first with basic alignment.
use Rattle.std.specs.Prelude.{if◌then◌else◌, ℕ, ◌+◌, ◌*◌, Bool, ◌&&◌, ◌||◌, List, eqb, leb, length, get_or}
use Rattle.std.specs.Prelude.{Option, None, Some}
use Rattle.line.specs.Bit.{bit_at}
use Rattle.base.specs.Tab.{all, first, least}
use Rattle.line.specs.Signal.{signal}
use Rattle.e1.specs.Frame.{word_at}
use Rattle.align.specs.declared.Found.{Found}
use Rattle.align.specs.declared.Found.TheVariants.{At, BasicAt, Nothing}

-- basic alignment: the word, then a 1 in bit 2 of the next frame, then the word
unfoldable pub basic : List ℕ → ℕ → Bool
basic s p = word_at s p && (eqb (bit_at s (p + 257)) 1 && word_at s (p + 512))

-- and 16,384 bits from the place to the end of the image
abbrev pub basic_with_room : List ℕ → ℕ → Bool
basic_with_room s p = leb (p + 16384) (8 * length s) && basic s p

-- m(k)
abbrev pub mark : List ℕ → ℕ → ℕ → ℕ
mark s p k = bit_at s (p + 256 + 512 * k)

-- the signal is at k: m(k) to m(k + 5) are 0, 0, 1, 0, 1, 1
unfoldable pub signal_at : List ℕ → ℕ → ℕ → Bool
signal_at s p k = all 6 (λ i. eqb (mark s p (k + i)) (get_or signal i 0))

-- and at k + 8j, all of it among m(0) to m(31)
abbrev pub again_at : List ℕ → ℕ → ℕ → ℕ → Bool
again_at s p k j = leb (k + 8 * j + 5) 31 && signal_at s p (k + 8 * j)

unfoldable pub pair_at : List ℕ → ℕ → ℕ → Bool
pair_at s p k = signal_at s p k && (again_at s p k 1 || (again_at s p k 2 || again_at s p k 3))

-- a place and its k
pub record Standing : Type 0 where
  pub place : ℕ
  pub k : ℕ

abbrev pub with_place : ℕ → Option ℕ → Option Standing
with_place p (Some k) = Some (record { place = p; k = k })
with_place p None = None

-- the place p with its least k, where it stands
unfoldable pub standing : List ℕ → ℕ → Option Standing
standing s p = if basic_with_room s p then with_place p (least 32 (pair_at s p)) else None

-- the first place in the image, counted from bit 0, that stands
unfoldable pub first_standing : List ℕ → Option Standing
first_standing s = first (8 * length s) (standing s)

-- the first with room and basic alignment, whether it stands or not
unfoldable pub first_basic : List ℕ → Option ℕ
first_basic s = least (8 * length s) (basic_with_room s)

-- What the search answers of the two: the first place that stands; where none does, the first with basic alignment;
-- where none has that, nothing.
abbrev pub found : Option Standing → Option ℕ → Found
found (Some w) b = At w.place w.k
found None (Some p) = BasicAt p
found None None = Nothing

abbrev pub found_in : List ℕ → Found
found_in s = found (first_standing s) (first_basic s)

-- For each case its number and values: the place, the k, and the multiframe start, p + 512k.

abbrev pub number_of : Found → ℕ
number_of (At p k) = 0
number_of (BasicAt p) = 15
number_of Nothing = 3

abbrev pub place_of : Found → ℕ
place_of (At p k) = p
place_of (BasicAt p) = p
place_of Nothing = 0

abbrev pub k_of : Found → ℕ
k_of (At p k) = k
k_of (BasicAt p) = 0
k_of Nothing = 0

abbrev pub start_of : Found → ℕ
start_of (At p k) = p + 512 * k
start_of (BasicAt p) = 0
start_of Nothing = 0
