-- What `write` answers, and what it leaves in the output (KIT §6).
use Rattle.std.specs.Prelude.{if◌then◌else◌, ℕ, ◌*◌, ◌%◌, Bool, ◌&&◌, not, List, [], ◌∷◌, ◌++◌, ◌≡◌, eqb, ltb, length, get_or, drop}
use Rattle.base.specs.Tab.{all}
use Rattle.base.specs.Answer.{accepted, Refusal, ◌when◌, first_number}
use Rattle.e1.specs.Payload.{multiframes, sized}
use Rattle.write.specs.Writing.{carries, written}
use Rattle.write.specs.Answer.{Written, accept, refuse}

-- the overhead octet of the odd frame 2h + 1 is below 64, or below 128 where it has an E bit, in frames 13 and 15
abbrev pub overhead_limit : ℕ → ℕ
overhead_limit h = if ltb (h % 8) 6 then 64 else 128

-- 8n octets, and in none a bit that must be 0
unfoldable pub overhead_fits : List ℕ → ℕ → Bool
overhead_fits o n = eqb (length o) (8 * n) && all (length o) (λ h. ltb (get_or o h 0) (overhead_limit h))

-- what is wrong with what a call is given, in every entry that writes
abbrev pub faults : List ℕ → List ℕ → ℕ → List Refusal
faults p o c =
    5 when not (sized (length p))
    ∷ 6 when not (overhead_fits o (multiframes p))
    ∷ 7 when ltb 15 c
    ∷ []

-- m octets of output are too few
abbrev pub no_room : List ℕ → ℕ → Bool
no_room p m = ltb m (512 * multiframes p)

abbrev pub refusals : List ℕ → List ℕ → ℕ → ℕ → List Refusal
refusals p o c m = faults p o c ++ 4 when no_room p m ∷ []

unfoldable pub refusal : List ℕ → List ℕ → ℕ → ℕ → ℕ
refusal p o c m = first_number (refusals p o c m)

unfoldable pub writing : List ℕ → List ℕ → ℕ → ℕ → Written
writing p o c m = accepted (refusal p o c m) (accept (carries p o c (2 * multiframes p))) (refuse (refusal p o c m))

-- what `write` answers, and leaves in the output
pub record Wrote (p o : List ℕ) (c : ℕ) (out : List ℕ) (r : Written) (out' : List ℕ) : Type 0 where
  pub its_answer : r ≡ writing p o c (length out)
  pub its_out : out' ≡ accepted r.number (written p o c (2 * multiframes p) ++ drop (512 * multiframes p) out) out
