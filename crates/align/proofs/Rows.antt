-- Rows of numbers that are filled from the front.
use Prim.Native.Nat.{ℕ, zero, suc, ◌+◌, ◌≤◌, ◌<◌}
use mathlib.Core.List.{List}
use mathlib.Core.Logic.{inl, inr}
use mathlib.Core.Path.{◌≡◌, subst}
use denote.Param.Members.{Mut}
use Rattle.std.specs.Array.{IsFromFnResultFrom}
use Rattle.std.specs.Fn.{Called}
use native.Mathlib.Nat.{le_of_suc-le-suc, eq-or-lt_of_le}
use native.Mathlib.Numerals.{add-one}
use native.Mathlib.Omega.{arith}
use lib.ListN.{length, get_or, set}
use lib.Seq.{get_or-set_same, get_or-set_other}

-- what holds of each element before k, and of the one that is put at k
pub put_more : (P : ℕ → ℕ → Type 0) (l : List ℕ) (k a : ℕ) → k < length l → ((j : ℕ) → j < k → P j (get_or l j 0)) → P k a
    → (j : ℕ) → j < k + 1 → P j (get_or (set l k a) j 0)
put_more P l k a h before here j g =
    elim (eq-or-lt_of_le (le_of_suc-le-suc (rw add-one at g))) [
      | inl e ↦ rw (e, get_or-set_same l k a 0 h) here
      | inr f ↦ rw (get_or-set_other l k j a 0 (λ e. let z : k < k = rw e at f in omega arith)) (before j f)
    ]

-- what holds of what a closure gives at each index holds of each element of the array that it made
pub each_given : {F B : Type 0} (g : Mut F (ℕ × Unit {0}) B) (P : ℕ → B → Type 0) (f : F)
    → ((x : ℕ) (y : B) (q : F) → Called g f (x, tt) y q → (q ≡ f) × P x y) → (ys : List B) (d : B) (i n : ℕ)
    → IsFromFnResultFrom g f ys i n → (k : ℕ) → i ≤ k → k < i + n → P k (get_or ys k d)
each_given g P f gives ys d i zero h k a b = absurd (omega arith)
each_given g P f gives ys d i (suc n) h k a b =
    let one = gives i h.1 h.0 h.3 in
    elim (eq-or-lt_of_le a) [
      | inl e ↦ rw (← e, h.2.1 d) one.1
      | inr l ↦ each_given g P f gives ys d (i + 1) n (subst (λ q. IsFromFnResultFrom g q ys (i + 1) n) one.0 h.4) k (omega arith) (omega arith)
    ]
