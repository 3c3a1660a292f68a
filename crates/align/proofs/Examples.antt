-- Worked examples of the first place that stands, and of what is said of a place.
use Prim.Native.Nat.{ℕ, ◌+◌, ◌-◌, ◌*◌, ◌/◌, ◌%◌}
use mathlib.Core.Path.{◌≡◌, refl}
use mathlib.Core.Bool.{cond}
use mathlib.Core.List.{List, ◌∷◌}
use Rattle.std.specs.Prelude.{None, Some, Ok, Err}
use Rattle.base.specs.declared.Refused.TheVariants.{Place}
use lib.Dec.{eqb, leb}
use lib.ListN.{get_or}
use Rattle.line.specs.Bit.{bit_at}
use Rattle.base.specs.Tab.{tab, tab_from, sum, all, first}
use Rattle.line.specs.Signal.{signal}
use Rattle.e1.specs.Frame.{wrong_bits, first_wrong}
use Rattle.align.specs.Place.{basic, signal_at, pair_at, standing, first_standing}
use Rattle.align.specs.Why.{judged, why}
use Rattle.align.specs.declared.Why.TheVariants.{NoneFails, FirstWord, NoPair}

-- n octets: the word in every other frame; m(k) is 1 before a, and from there on the signal and two 0s over and over
image : ℕ → ℕ → List ℕ
image a n =
    tab n
    (λ i. cond (eqb (i % 64) 0) 27 (cond (eqb (i % 64) 32) (64 + 128 * cond (leb a (i / 64)) (get_or signal ((i / 64 - a) % 8) 0) 1) 0))

at_once : first_standing (image 0 2048) ≡ Some (record { place = 0; k = 0 })
unfolding image first_standing first standing basic pair_at signal_at all bit_at wrong_bits sum tab_from
at_once = refl

an_octet_on : first_standing (0 ∷ image 0 2048) ≡ Some (record { place = 8; k = 0 })
unfolding image first_standing first standing basic pair_at signal_at all bit_at wrong_bits sum tab_from
an_octet_on = refl

an_octet_short : first_standing (image 0 2047) ≡ None
unfolding image first_standing first standing basic pair_at signal_at all bit_at wrong_bits sum tab_from
an_octet_short = refl

-- 18 is the last k that there is
last_k : first_standing (image 18 2048) ≡ Some (record { place = 0; k = 18 })
unfolding image first_standing first standing basic pair_at signal_at all bit_at wrong_bits sum tab_from
last_k = refl

past_the_last_k : first_standing (image 19 2048) ≡ None
unfolding image first_standing first standing basic pair_at signal_at all bit_at wrong_bits sum tab_from
past_the_last_k = refl

said_with_18 : why (image 18 2048) 0 ≡ Ok (NoneFails 18)
unfolding image why judged first pair_at signal_at all bit_at wrong_bits sum tab_from
said_with_18 = refl

said_of_19 : why (image 19 2048) 0 ≡ Ok NoPair
unfolding image why judged first pair_at signal_at all bit_at wrong_bits sum tab_from
said_of_19 = refl

-- an octet of zeros: the first 1 of the word is not there
said_of_zeros : why (image 0 2049) 8 ≡ Ok (FirstWord 11)
unfolding image why judged first pair_at signal_at all bit_at wrong_bits first_wrong sum tab_from
said_of_zeros = refl

too_late : why (image 0 2049) 9 ≡ Err Place
unfolding image why tab_from
too_late = refl
