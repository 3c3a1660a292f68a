-- What `write` and `write_signalled` answer, and what they leave in the output (KIT §15).
use Rattle.std.specs.Prelude.{ℕ, ◌*◌, Bool, ◌&&◌, not, List, [], ◌∷◌, ◌++◌, ◌≡◌, eqb, ltb, length, get_or, drop}
use Rattle.base.specs.Tab.{all}
use Rattle.base.specs.Answer.{accepted, Refusal, ◌when◌, first_number}
use Rattle.t1.specs.Payload.{superframes, sized}
use Rattle.t1write.specs.Writing.{carries, written, with_signals}
use Rattle.t1write.specs.Answer.{Written}

-- n octets of 0 or 1
unfoldable pub are_bits : List ℕ → ℕ → Bool
are_bits o n = eqb (length o) n && all n (λ i. ltb (get_or o i 0) 2)

-- what is wrong with what a call is given, in both entries
abbrev pub faults : List ℕ → List ℕ → ℕ → List Refusal
faults p l c =
    5 when not (sized (length p))
    ∷ 6 when not (are_bits l (12 * superframes p))
    ∷ 7 when ltb 63 c
    ∷ []

-- m octets of output are too few
abbrev pub no_room : List ℕ → ℕ → Bool
no_room p m = ltb m (579 * superframes p)

abbrev pub refusals : List ℕ → List ℕ → ℕ → ℕ → List Refusal
refusals p l c m = faults p l c ++ 4 when no_room p m ∷ []

unfoldable pub refusal : List ℕ → List ℕ → ℕ → ℕ → ℕ
refusal p l c m = first_number (refusals p l c m)

-- and with signalling g
abbrev pub signalled_refusals : List ℕ → List ℕ → ℕ → List ℕ → ℕ → List Refusal
signalled_refusals p l c g m =
    faults p l c ++ 16 when not (are_bits g (96 * superframes p)) ∷ 4 when no_room p m ∷ []

unfoldable pub signalled_refusal : List ℕ → List ℕ → ℕ → List ℕ → ℕ → ℕ
signalled_refusal p l c g m = first_number (signalled_refusals p l c g m)

-- what a call answers whose number is n and which sends the payload p: the check of the last superframe
abbrev pub writing : ℕ → List ℕ → ℕ → Written
writing n p c = record { number = n; check = accepted n (carries p c (superframes p)) 0 }

-- what it leaves in the output
abbrev pub output_of : ℕ → List ℕ → List ℕ → ℕ → List ℕ → List ℕ
output_of n p l c out = accepted n (written p l c (superframes p) ++ drop (579 * superframes p) out) out

-- what `write` returns, and leaves
pub record Wrote (p l : List ℕ) (c : ℕ) (out : List ℕ) (r : Written) (out' : List ℕ) : Type 0 where
  pub its_answer : r ≡ writing (refusal p l c (length out)) p c
  pub its_out : out' ≡ output_of r.number p l c out

-- and `write_signalled`: the same of the payload with bits replaced
pub record WroteSignalled (p l : List ℕ) (c : ℕ) (g out : List ℕ) (r : Written) (out' : List ℕ) : Type 0 where
  pub its_answer : r ≡ writing (signalled_refusal p l c g (length out)) (with_signals p g) c
  pub its_out : out' ≡ output_of r.number (with_signals p g) l c out
