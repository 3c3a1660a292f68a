-- What `why` says of one place (KIT §4): that it stands, with its least k, or the first condition that fails there.
use Rattle.std.specs.Prelude.{if◌then◌else◌, ℕ, ◌+◌, ◌*◌, not, List, [], ◌∷◌, eqb, ltb, length, get_or}
use Rattle.std.specs.Prelude.{Option, None, Some, Result, Ok, Err}
use Rattle.base.specs.Answer.{Refusal, ◌when◌, first_number}
use Rattle.base.specs.Number.{refusal_number}
use Rattle.base.specs.declared.Refused.{Refused}
use Rattle.base.specs.declared.Refused.TheVariants.{TooShort, TooLong, Place}
use Rattle.base.specs.Tab.{least}
use Rattle.line.specs.Bit.{bit_at}
use Rattle.e1.specs.Frame.{word_at, first_wrong}
use Rattle.align.specs.Place.{pair_at}
use Rattle.align.specs.declared.Why.{Why}
use Rattle.align.specs.declared.Why.TheVariants.{NoneFails, FirstWord, Bit2, SecondWord, NoPair}

-- the least k, where there is one
abbrev pub signalled : Option ℕ → Why
signalled (Some k) = NoneFails k
signalled None = NoPair

-- what is said of a place with room: the first condition that fails
unfoldable pub judged : List ℕ → ℕ → Why
judged s p =
    if not (word_at s p) then FirstWord (first_wrong s p)
    else if not (eqb (bit_at s (p + 257)) 1) then Bit2
    else if not (word_at s (p + 512)) then SecondWord (first_wrong s (p + 512))
    else signalled (least 32 (pair_at s p))

-- p is the place that is asked about
abbrev pub why_refusals : List ℕ → ℕ → List Refusal
why_refusals s p =
    1 when ltb (length s) 2048
    ∷ 2 when ltb 8192 (length s)
    ∷ 14 when ltb (8 * length s) (p + 16384)
    ∷ []

unfoldable pub why_refusal : List ℕ → ℕ → ℕ
why_refusal s p = first_number (why_refusals s p)

-- what the entry answers: the first of these refusals that applies, or what is said of the place
unfoldable pub why : List ℕ → ℕ → Result Why Refused
why s p =
    if ltb (length s) 2048 then Err TooShort
    else if ltb 8192 (length s) then Err TooLong
    else if ltb (8 * length s) (p + 16384) then Err Place
    else Ok (judged s p)

-- what each case answers: the number, the condition, k, and the place of the wrong bit
abbrev pub why_values : Result Why Refused → List ℕ
why_values (Ok (NoneFails k)) = 0 ∷ 0 ∷ k ∷ 0 ∷ []
why_values (Ok (FirstWord b)) = 0 ∷ 1 ∷ 0 ∷ b ∷ []
why_values (Ok Bit2) = 0 ∷ 2 ∷ 0 ∷ 0 ∷ []
why_values (Ok (SecondWord b)) = 0 ∷ 3 ∷ 0 ∷ b ∷ []
why_values (Ok NoPair) = 0 ∷ 4 ∷ 0 ∷ 0 ∷ []
why_values (Err e) = refusal_number e ∷ 0 ∷ 0 ∷ 0 ∷ []

abbrev pub why_number : Result Why Refused → ℕ
why_number r = get_or (why_values r) 0 0
