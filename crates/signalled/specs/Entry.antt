-- What `write_signalled` answers, and what it leaves in the output (KIT §6): what `write` does of the payload with slot
-- 16 replaced.
use Rattle.std.specs.Prelude.{ℕ, ◌*◌, not, List, [], ◌∷◌, ◌++◌, ◌≡◌, length, drop}
use Rattle.base.specs.Answer.{accepted, Refusal, ◌when◌, first_number}
use Rattle.e1.specs.Payload.{multiframes}
use Rattle.write.specs.Writing.{carries, written}
use Rattle.write.specs.Answer.{Written, accept, refuse}
use Rattle.write.specs.Entry.{faults, no_room}
use Rattle.signalled.specs.Slot16.{with_slot16, signals_fit}

-- m is how many octets the output has
abbrev pub refusals : List ℕ → List ℕ → ℕ → List ℕ → List ℕ → ℕ → List Refusal
refusals p o c xy v m = faults p o c ++ 16 when not (signals_fit xy v (multiframes p)) ∷ 4 when no_room p m ∷ []

unfoldable pub refusal : List ℕ → List ℕ → ℕ → List ℕ → List ℕ → ℕ → ℕ
refusal p o c xy v m = first_number (refusals p o c xy v m)

unfoldable pub writing : List ℕ → List ℕ → ℕ → List ℕ → List ℕ → ℕ → Written
writing p o c xy v m =
    let n = refusal p o c xy v m in
    accepted n (accept (carries (with_slot16 p xy v) o c (2 * multiframes p))) (refuse n)

-- what `write_signalled` answers, and leaves in the output
pub record Wrote (p o : List ℕ) (c : ℕ) (xy v out : List ℕ) (r : Written) (out' : List ℕ) : Type 0 where
  pub its_answer : r ≡ writing p o c xy v (length out)
  pub its_out : out'
      ≡ accepted r.number (written (with_slot16 p xy v) o c (2 * multiframes p) ++ drop (512 * multiframes p) out) out
