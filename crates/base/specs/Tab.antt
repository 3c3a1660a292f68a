-- Lists, counts and searches given by an index: what the other definitions are said with.
use Rattle.std.specs.Prelude.{if◌then◌else◌, ℕ, zero, suc, ◌+◌, Bool, true, ◌&&◌, List, [], ◌∷◌}
use Rattle.std.specs.Prelude.{Option, None}
use Rattle.base.specs.Choice.{or_else, when_so}

-- f i, f (i + 1), .. : n of them
unfoldable pub tab_from {ℓ} : {A : Type ℓ} → ℕ → ℕ → (ℕ → A) → List A
tab_from i zero f = []
tab_from i (suc n) f = f i ∷ tab_from (suc i) n f

-- f 0 to f (n - 1)
abbrev pub tab {ℓ} : {A : Type ℓ} → ℕ → (ℕ → A) → List A
tab n f = tab_from 0 n f

-- the sum of f 0 to f (n - 1)
unfoldable pub sum : ℕ → (ℕ → ℕ) → ℕ
sum zero f = 0
sum (suc n) f = sum n f + f n

-- how many i below n pass the test
abbrev pub count : ℕ → (ℕ → Bool) → ℕ
count n t = sum n (λ i. if t i then 1 else 0)

-- each i below n passes the test
unfoldable pub all : ℕ → (ℕ → Bool) → Bool
all zero t = true
all (suc n) t = all n t && t n

-- the first `some` among f 0 to f (n - 1)
unfoldable pub first : {A : Type 0} → ℕ → (ℕ → Option A) → Option A
first zero f = None
first (suc n) f = or_else (first n f) (f n)

-- the least i below n that passes the test
abbrev pub least : ℕ → (ℕ → Bool) → Option ℕ
least n t = first n (λ i. when_so (t i) i)
