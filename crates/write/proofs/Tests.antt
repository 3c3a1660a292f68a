-- What the elements of a list pass is what they pass by their places.
use Prim.Native.Nat.{zero, suc}
use Rattle.std.proofs.Common.{◌≡◌, ℕ, ◌+◌, Bool, true, false, ◌&&◌, List, [], ◌∷◌, length, get_or, refl, sym, ap, ap₂, ◌∙◌, arith}
use Rattle.std.specs.List.{list_all, enumerate_from}
use Rattle.base.specs.Tab.{all}

and-assoc : (a b c : Bool) → (a && b) && c ≡ a && (b && c)
and-assoc true b c = refl
and-assoc false b c = refl

and-true : (b : Bool) → b && true ≡ b
and-true true = refl
and-true false = refl

all_agree : (n : ℕ) (t s : ℕ → Bool) → ((i : ℕ) → t i ≡ s i) → all n t ≡ all n s
unfolding all
all_agree zero t s h = refl
all_agree (suc n) t s h = ap₂ ◌&&◌ (all_agree n t s h) (h n)

-- the first, and those behind it
all_front : (n : ℕ) (t : ℕ → Bool) → all (suc n) t ≡ t 0 && all n (λ i. t (suc i))
unfolding all
all_front zero t = sym (and-true (t 0))
all_front (suc n) t =
    ap (λ b. b && t (suc n)) (all_front n t) ∙ and-assoc (t 0) (all n (λ i. t (suc i))) (t (suc n))

pub all_listed : (test : ℕ → Bool) (xs : List ℕ) → list_all test xs ≡ all (length xs) (λ i. test (get_or xs i 0))
unfolding all
all_listed test [] = refl
all_listed test (x ∷ xs) = ap (λ b. test x && b) (all_listed test xs) ∙ sym (all_front (length xs) (λ i. test (get_or (x ∷ xs) i 0)))

all_from : (test : ℕ → ℕ → Bool) (k : ℕ) (xs : List ℕ)
    → list_all (λ (p : ℕ × ℕ). test p.0 p.1) (enumerate_from k xs) ≡ all (length xs) (λ i. test (k + i) (get_or xs i 0))
unfolding all
all_from test k [] = refl
all_from test k (x ∷ xs) =
    let e : k + 0 ≡ k = omega arith in
    ap₂ ◌&&◌ (ap (λ i. test i x) (sym e))
    (all_from test (k + 1) xs
    ∙ all_agree (length xs) (λ i. test (k + 1 + i) (get_or xs i 0)) (λ i. test (k + suc i) (get_or xs i 0))
    (λ i. ap (λ j. test j (get_or xs i 0)) (omega arith)))
    ∙ sym (all_front (length xs) (λ i. test (k + i) (get_or (x ∷ xs) i 0)))

pub all_enumerated : (test : ℕ → ℕ → Bool) (xs : List ℕ)
    → list_all (λ (p : ℕ × ℕ). test p.0 p.1) (enumerate_from 0 xs) ≡ all (length xs) (λ i. test i (get_or xs i 0))
all_enumerated test xs =
    all_from test 0 xs
    ∙ all_agree (length xs) (λ i. test (0 + i) (get_or xs i 0)) (λ i. test i (get_or xs i 0))
    (λ i. ap (λ j. test j (get_or xs i 0)) (omega arith))
