-- The laws of tables, searches, sums and counts.
use Prim.Native.Nat.{ℕ, zero, suc, ◌+◌, ◌*◌, ◌<◌, ◌≤◌, zero-le, suc-le-suc}
use mathlib.Core.Path.{◌≡◌, refl, sym, ◌∙◌, ap, ap₂}
use mathlib.Core.Bool.{Bool, true, false, cond, ◌&&◌, and-eq-true_iff}
use mathlib.Core.List.{List, [], ◌∷◌, ◌++◌}
use Rattle.std.specs.Prelude.{Option, None, Some}
use Rattle.base.proofs.OptionLaws.{none-ne-some, some-ne-none, some-injective}
use mathlib.Core.Logic.{inl, inr, ◌↔◌}
use native.Mathlib.Nat.{add-zero, zero-add, suc-add, add-suc, suc-mul, mul-zero, mul-suc, mul-add, not-suc-le-zero}
use native.Mathlib.Nat.{le_of_suc-le-suc, eq-or-lt_of_le}
use native.Mathlib.Numerals.{add-one}
use native.Mathlib.Omega.{arith}
use lib.ListN.{length, get_or, take, set}
use lib.Seq.{take-suc-set, take_all, ext_get_or}
use Rattle.base.specs.Tab.{tab_from, tab, sum, count, all, first, least}
use Rattle.base.specs.Choice.{or_else, when_so}

module _ {ℓ} {A : Type ℓ} where
  pub length_tab_from : (i n : ℕ) (f : ℕ → A) → length (tab_from i n f) ≡ n
  unfolding tab_from
  length_tab_from i zero f = refl
  length_tab_from i (suc n) f = ap suc (length_tab_from (suc i) n f)

  pub get_d_tab_from : (i n : ℕ) (f : ℕ → A) (j : ℕ) (d : A) → j < n → get_or (tab_from i n f) j d ≡ f (i + j)
  unfolding tab_from
  get_d_tab_from i zero f j d h = absurd (not-suc-le-zero h)
  get_d_tab_from i (suc n) f zero d h = ap f (omega arith)
  get_d_tab_from i (suc n) f (suc j) d h = get_d_tab_from (suc i) n f j d (omega arith) ∙ ap f (omega arith)

  pub tab_from_add : (i a b : ℕ) (f : ℕ → A) → tab_from i (a + b) f ≡ tab_from i a f ++ tab_from (i + a) b f
  unfolding tab_from
  tab_from_add i zero b f = rw (zero-add, add-zero)
  tab_from_add i (suc a) b f = rw (suc-add, add-suc, ← suc-add i a, tab_from_add (suc i) a b f)

  pub length_tab : (n : ℕ) (f : ℕ → A) → length (tab n f) ≡ n
  length_tab n f = length_tab_from 0 n f

  pub get_d_tab : (n : ℕ) (f : ℕ → A) (j : ℕ) (d : A) → j < n → get_or (tab n f) j d ≡ f j
  get_d_tab n f j d h = get_d_tab_from 0 n f j d h ∙ ap f (omega arith)

  pub tab_add : (a b : ℕ) (f : ℕ → A) → tab (a + b) f ≡ tab a f ++ tab_from a b f
  tab_add a b f = tab_from_add 0 a b f ∙ rw zero-add

  pub tab_more : (n : ℕ) (f : ℕ → A) → tab (n + 1) f ≡ tab n f ++ (f n ∷ [])
  unfolding tab_from
  tab_more n f = tab_add n 1 f

  -- two tables that agree, each from its own place on
  pub tab_from_agree : (i k n : ℕ) (f g : ℕ → A) → ((j : ℕ) → j < n → f (i + j) ≡ g (k + j))
      → tab_from i n f ≡ tab_from k n g
  unfolding tab_from
  tab_from_agree i k zero f g h = refl
  tab_from_agree i k (suc n) f g h =
      ap₂ (λ a l. a ∷ l)
      (ap f (sym (add-zero i)) ∙ h 0 (suc-le-suc zero-le) ∙ ap g (add-zero k))
      (tab_from_agree (suc i) (suc k) n f g (λ j hj. ap f (omega arith) ∙ h (suc j) (suc-le-suc hj) ∙ ap g (omega arith)))

  pub tab_agree : (n : ℕ) (f g : ℕ → A) → ((j : ℕ) → j < n → f j ≡ g j) → tab n f ≡ tab n g
  tab_agree n f g h = tab_from_agree 0 0 n f g (λ j l. ap f (zero-add j) ∙ h j l ∙ sym (ap g (zero-add j)))

  -- n values, and m more
  pub tab_split : (n m : ℕ) (f : ℕ → A) → tab (n + m) f ≡ tab n f ++ tab m (λ i. f (n + i))
  tab_split n m f =
      tab_add n m f
      ∙ ap (λ l. tab n f ++ l) (tab_from_agree n 0 m f (λ i. f (n + i)) (λ j h. ap (λ i. f (n + i)) (sym (zero-add j))))

  -- a loop that writes d from the front: what is written is a table
  pub fill_more : (d : List A) (i : ℕ) (f : ℕ → A) → i < length d → take i d ≡ tab i f
      → take (i + 1) (set d i (f i)) ≡ tab (i + 1) f
  fill_more d i f h e = rw (tab_more i f, ← e, add-one) (take-suc-set d i (f i) h)

  pub tab_fill : (d : List A) (n : ℕ) (f : ℕ → A) → length d ≤ n → take n d ≡ tab n f → d ≡ tab n f
  tab_fill d n f h e = sym (take_all n d h) ∙ e

-- what comes first
module _ {A : Type 0} where
  pub first_more : (n : ℕ) (f : ℕ → Option A) → first n f ≡ None → f n ≡ None → first (n + 1) f ≡ None
  unfolding first
  first_more n f e k = rw (add-one, first, e, k)

  pub some_first : (n i : ℕ) (f : ℕ → Option A) (a : A) → i < n → first i f ≡ None → f i ≡ Some a → first n f ≡ Some a
  unfolding first
  some_first zero i f a h e k = absurd (not-suc-le-zero h)
  some_first (suc n) i f a h e k =
      elim (eq-or-lt_of_le (le_of_suc-le-suc h)) [ inl q ↦ rw (← q, e, k) | inr l ↦ rw (some_first n i f a l e k) ]

  none_left : (o : Option A) (p : Option A) → or_else o p ≡ None → (o ≡ None) × (p ≡ None)
  none_left None p e = (refl, e)
  none_left (Some a) p e = absurd (some-ne-none a e)

  pub first_none : (n : ℕ) (f : ℕ → Option A) → first n f ≡ None → (i : ℕ) → i < n → f i ≡ None
  unfolding first
  first_none zero f e i h = absurd (not-suc-le-zero h)
  first_none (suc n) f e i h =
      let b = none_left (first n f) (f n) e in
      elim (eq-or-lt_of_le (le_of_suc-le-suc h)) [ inl q ↦ rw q b.1 | inr l ↦ first_none n f b.0 i l ]

  pub none_first : (n : ℕ) (f : ℕ → Option A) → ((i : ℕ) → i < n → f i ≡ None) → first n f ≡ None
  unfolding first
  none_first zero f h = refl
  none_first (suc n) f h = rw (none_first n f (λ i l. h i (omega arith)), h n (omega arith))

  pub first_less : (m n : ℕ) (f : ℕ → Option A) → m ≤ n → first n f ≡ None → first m f ≡ None
  first_less m n f h e = none_first m f (λ i l. first_none n f e i (omega arith))

  -- the i at which the first stands
  pub first_some : (n : ℕ) (f : ℕ → Option A) (a : A) → first n f ≡ Some a
      → (i : ℕ) × (i < n) × (f i ≡ Some a) × ((j : ℕ) → j < i → f j ≡ None)
  unfolding first
  first_some zero f a e = absurd (none-ne-some a e)
  first_some (suc n) f a e = go (first n f) refl (first_some n f a) e
    where
      go : (o : Option A) → first n f ≡ o
          → (first n f ≡ Some a → (i : ℕ) × (i < n) × (f i ≡ Some a) × ((j : ℕ) → j < i → f j ≡ None))
          → or_else o (f n) ≡ Some a → (i : ℕ) × (i < suc n) × (f i ≡ Some a) × ((j : ℕ) → j < i → f j ≡ None)
      go None q r k = (n, omega arith, k, first_none n f q)
      go (Some b) q r k = let w = r (q ∙ k) in (w.0, omega arith, w.2, w.3)

-- a table of a list's elements
pub tab_of : (n : ℕ) (f : ℕ → ℕ) (l : List ℕ) → length l ≡ n → ((i : ℕ) → i < n → f i ≡ get_or l i 0) → tab n f ≡ l
tab_of n f l e h =
    ext_get_or 0 (tab n f) l (length_tab n f ∙ sym e)
    (λ i l. let k : i < n = rw length_tab at l in get_d_tab n f i 0 k ∙ h i k)

-- what passes first
pub when_so_some : (b : Bool) (i k : ℕ) → when_so b i ≡ Some k → (b ≡ true) × (i ≡ k)
when_so_some true i k e = (refl, some-injective i k e)
when_so_some false i k e = absurd (none-ne-some k e)

pub when_so_none : (b : Bool) (i : ℕ) → when_so b i ≡ None → b ≡ false
when_so_none true i e = absurd (some-ne-none i e)
when_so_none false i e = refl

pub least_more : (n : ℕ) (t : ℕ → Bool) → least n t ≡ None → t n ≡ false → least (n + 1) t ≡ None
least_more n t e k = first_more n (λ i. when_so (t i) i) e (rw k)

pub some_least : (n i : ℕ) (t : ℕ → Bool) → i < n → least i t ≡ None → t i ≡ true → least n t ≡ Some i
some_least n i t h e k = some_first n i (λ i. when_so (t i) i) i h e (rw k)

pub least_none : (n : ℕ) (t : ℕ → Bool) → least n t ≡ None → (i : ℕ) → i < n → t i ≡ false
least_none n t e i h = when_so_none (t i) i (first_none n (λ i. when_so (t i) i) e i h)

pub none_least : (n : ℕ) (t : ℕ → Bool) → ((i : ℕ) → i < n → t i ≡ false) → least n t ≡ None
none_least n t h = none_first n (λ i. when_so (t i) i) (λ i l. rw (h i l))

pub record Least (n : ℕ) (t : ℕ → Bool) (i : ℕ) : Type 0 where
  pub below : i < n
  pub passes : t i ≡ true
  pub before : (j : ℕ) → j < i → t j ≡ false

pub least_some : (n : ℕ) (t : ℕ → Bool) (i : ℕ) → least n t ≡ Some i ↔ Least n t i
least_some n t i = (there, back)
  where
    there : least n t ≡ Some i → Least n t i
    there e =
        let w = first_some n (λ i. when_so (t i) i) i e in
        let q = when_so_some (t w.0) w.0 i w.2 in
        record {
          below = omega arith;
          passes = rw (← q.1) q.0;
          before = λ j l. when_so_none (t j) j (w.3 j (omega arith));
        }

    back : Least n t i → least n t ≡ Some i
    back l = some_least n i t l.below (none_least i t l.before) l.passes

-- sums and counts
pub sum_more : (n : ℕ) (f : ℕ → ℕ) → sum (n + 1) f ≡ sum n f + f n
unfolding sum
sum_more n f = rw add-one

pub sum_ext : (n : ℕ) (f g : ℕ → ℕ) → ((i : ℕ) → i < n → f i ≡ g i) → sum n f ≡ sum n g
unfolding sum
sum_ext zero f g h = refl
sum_ext (suc n) f g h = rw (h n (omega arith), sum_ext n f g (λ i l. h i (omega arith)))

pub sum_le : (n b : ℕ) (f : ℕ → ℕ) → ((i : ℕ) → i < n → f i ≤ b) → sum n f ≤ n * b
unfolding sum
sum_le zero b f h = omega arith
sum_le (suc n) b f h = rw suc-mul (omega (arith, sum_le n b f (λ i l. h i (omega arith)), h n (omega arith)))

pub count_yes : (n : ℕ) (t : ℕ → Bool) → t n ≡ true → count (n + 1) t ≡ count n t + 1
count_yes n t e = sum_more n (λ i. cond (t i) 1 0) ∙ rw e

pub count_no : (n : ℕ) (t : ℕ → Bool) → t n ≡ false → count (n + 1) t ≡ count n t
count_no n t e = sum_more n (λ i. cond (t i) 1 0) ∙ rw (e, add-zero)

one_or_none : (b : Bool) → cond b 1 0 ≤ 1
one_or_none true = omega arith
one_or_none false = omega arith

pub count_le : (n : ℕ) (t : ℕ → Bool) → count n t ≤ n
count_le n t = omega (arith, sum_le n 1 (λ i. cond (t i) 1 0) (λ i l. one_or_none (t i)))

pub sum_none : (n : ℕ) (f : ℕ → ℕ) → ((i : ℕ) → i < n → f i ≡ 0) → sum n f ≡ 0
unfolding sum
sum_none zero f h = refl
sum_none (suc n) f h = omega (arith, sum_none n f (λ i l. h i (omega arith)), h n (omega arith))

pub sum_zero : (n : ℕ) (f : ℕ → ℕ) → sum n f ≡ 0 → (i : ℕ) → i < n → f i ≡ 0
unfolding sum
sum_zero zero f e i h = absurd (not-suc-le-zero h)
sum_zero (suc n) f e i h =
    elim (eq-or-lt_of_le (le_of_suc-le-suc h)) [
      | inl q ↦ rw q (omega arith)
      | inr l ↦ sum_zero n f (omega arith) i l
    ]

-- what all pass
pub all_at : (n : ℕ) (t : ℕ → Bool) → all n t ≡ true → (i : ℕ) → i < n → t i ≡ true
unfolding all
all_at zero t e i h = absurd (not-suc-le-zero h)
all_at (suc n) t e i h =
    let d = (and-eq-true_iff (all n t) (t n)).0 e in
    elim (eq-or-lt_of_le (le_of_suc-le-suc h)) [ inl q ↦ ap t q ∙ d.1 | inr l ↦ all_at n t d.0 i l ]

pub at_all : (n : ℕ) (t : ℕ → Bool) → ((i : ℕ) → i < n → t i ≡ true) → all n t ≡ true
unfolding all
at_all zero t h = refl
at_all (suc n) t h = rw (at_all n t (λ i l. h i (omega arith)), h n (omega arith))

pub all_more : (n : ℕ) (t : ℕ → Bool) → all n t ≡ true → t n ≡ true → all (n + 1) t ≡ true
unfolding all
all_more n t e k = rw (add-one, all, e, k)

and-false : (b : Bool) → b && false ≡ false
and-false true = refl
and-false false = refl

-- one that fails is enough
pub all_fails : (n : ℕ) (t : ℕ → Bool) (i : ℕ) → i < n → t i ≡ false → all n t ≡ false
unfolding all
all_fails zero t i h e = absurd (not-suc-le-zero h)
all_fails (suc n) t i h e =
    elim (eq-or-lt_of_le (le_of_suc-le-suc h)) [ inl q ↦ rw (← q, e) (and-false (all i t)) | inr l ↦ rw (all_fails n t i l e) ]

-- n values, and m more
pub sum_split : (n m : ℕ) (f : ℕ → ℕ) → sum (n + m) f ≡ sum n f + sum m (λ i. f (n + i))
unfolding sum
sum_split n zero f = rw (add-zero n) (sym (add-zero (sum n f)))
sum_split n (suc m) f = rw (add-suc n m, sum_split n m f) (omega arith)

-- a sum taken k by k
pub sum_runs : (k n : ℕ) (f h : ℕ → ℕ) → ((m : ℕ) → f m ≡ sum k (λ j. h (k * m + j))) → sum n f ≡ sum (k * n) h
unfolding sum
sum_runs k zero f h w = rw (mul-zero k)
sum_runs k (suc n) f h w = rw (mul-suc k n, sum_split (k * n) k h, sum_runs k n f h w, w n)

pub sum_pairs : (n : ℕ) (f h : ℕ → ℕ) → ((m : ℕ) → f m ≡ h (2 * m) + h (2 * m + 1)) → sum n f ≡ sum (2 * n) h
unfolding sum
sum_pairs n f h w = sum_runs 2 n f h (λ m. w m ∙ rw (add-zero (2 * m)) (omega arith))

-- a sum of which each value is at most k times that of another
pub sum_within : (k n : ℕ) (f h : ℕ → ℕ) → ((i : ℕ) → f i ≤ k * h i) → sum n f ≤ k * sum n h
unfolding sum
sum_within k zero f h w = omega arith
sum_within k (suc n) f h w = rw (mul-add k (sum n h) (h n)) (omega (arith, sum_within k n f h w, w n))

-- one value grown by k
pub sum_grown : (n i k : ℕ) (f h : ℕ → ℕ) → i < n → h i ≡ f i + k → ((j : ℕ) → j < n → (j ≡ i → ⊥) → h j ≡ f j)
    → sum n h ≡ sum n f + k
unfolding sum
sum_grown zero i k f h l e w = absurd (not-suc-le-zero l)
sum_grown (suc n) i k f h l e w =
    elim (eq-or-lt_of_le (le_of_suc-le-suc l)) [
      | inl q ↦ rw (← q, e, sum_ext i h f (λ j m. w j (omega arith) (λ z. omega arith))) (omega arith)
      | inr m ↦ rw (sum_grown n i k f h m e (λ j b z. w j (omega arith) z), w n (omega arith) (λ z. omega arith)) (omega arith)
    ]
