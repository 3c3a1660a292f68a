-- Answers: a number, 0 where the call is accepted, else that of the first refusal that applies.
use Rattle.std.specs.Prelude.{if◌then◌else◌, ℕ, zero, suc, Bool, false, ◌||◌, List, [], ◌∷◌, eqb}

-- a where the number is 0, else b
abbrev pub accepted {ℓ} : {A : Type ℓ} → ℕ → A → A → A
accepted zero a b = a
accepted (suc n) a b = b

-- A refusal of an entry: its number, and when it applies. An entry has a list of them, in the order in which they are
-- looked at.
pub record Refusal : Type 0 where
  pub number : ℕ
  pub applies : Bool

infix 68 ◌when◌
abbrev pub ◌when◌ : ℕ → Bool → Refusal
n when t = record { number = n; applies = t }

-- the number of the first that applies, 0 where none does
abbrev pub first_number : List Refusal → ℕ
first_number [] = 0
first_number (r ∷ rs) = if r.applies then r.number else first_number rs

-- n is one of these
abbrev pub among : ℕ → List ℕ → Bool
among n [] = false
among n (m ∷ ms) = eqb n m || among n ms
