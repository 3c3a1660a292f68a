-- The laws of answers and refusals.
use Rattle.std.specs.Prelude.{if◌then◌else◌}
use Prim.Native.Nat.{ℕ, zero, suc}
use mathlib.Core.Path.{◌≡◌, refl, sym, ap, ◌∙◌}
use mathlib.Core.Bool.{Bool, true, false, not, cond, ◌&&◌, ◌||◌, true≢false, and-eq-true_iff}
use mathlib.Core.List.{List, [], ◌∷◌, ◌++◌}
use mathlib.Mathlib.Data.Bool.Basic.{or-eq-false-eq-eq-false-and-eq-false}
use borrow.Author.Tests.{eq-eqb, eqb-true, eqb-false, not-true}
use lib.Dec.{eqb}
use Rattle.base.specs.Answer.{accepted, Refusal, first_number, among}

pub accepted_so {ℓ} : {A : Type ℓ} (n : ℕ) (a b : A) → n ≡ 0 → accepted n a b ≡ a
accepted_so n a b e = ap (λ k. accepted k a b) e

pub accepted_not {ℓ} : {A : Type ℓ} (n : ℕ) (a b : A) → (n ≡ 0 → ⊥) → accepted n a b ≡ b
accepted_not zero a b h = absurd (h refl)
accepted_not (suc n) a b h = refl

-- what holds of both ways holds of either
pub accepted_both {ℓ} : {A : Type ℓ} (P : A → Type 0) (n : ℕ) {a b : A} → P a → P b → P (accepted n a b)
accepted_both P zero h k = h
accepted_both P (suc n) h k = k

-- two values of calls with one number
pub accepted_single {ℓ} : {A : Type ℓ} (m n : ℕ) (a b x y : A) → m ≡ n → x ≡ accepted m a b → y ≡ accepted n a b → x ≡ y
accepted_single m n a b x y e p q = p ∙ ap (λ k. accepted k a b) e ∙ sym q

-- An entry's refusals: the numbers of the list are none of them 0, and no two are equal.

abbrev pub numbers : List Refusal → List ℕ
numbers [] = []
numbers (r ∷ rs) = r.number ∷ numbers rs

abbrev pub distinct : List ℕ → Bool
distinct [] = true
distinct (n ∷ ns) = not (among n ns) && distinct ns

-- what the number n tells: the refusal that has it applies, and none before it; none at all where it is 0
abbrev pub Tells : ℕ → List Refusal → Type 0
Tells n [] = Unit {0}
Tells n (r ∷ rs) = cond (eqb n r.number) (r.applies ≡ true) ((r.applies ≡ false) × Tells n rs)

same : (n : ℕ) → eqb n n ≡ true
same n = eq-eqb n n refl

or_right : (a b : Bool) → b ≡ true → a || b ≡ true
or_right true b e = refl
or_right false b e = e

-- the number is one of the list's, or 0
pub first_listed : (rs : List Refusal) → among (first_number rs) (0 ∷ numbers rs) ≡ true
first_listed [] = refl
first_listed (r ∷ rs) = go r.applies (first_listed rs)
  where
    skip : (a b c : Bool) → a || c ≡ true → a || (b || c) ≡ true
    skip true b c e = refl
    skip false true c e = refl
    skip false false c e = e

    go : (t : Bool) → among (first_number rs) (0 ∷ numbers rs) ≡ true
        → among (if t then r.number else first_number rs) (0 ∷ r.number ∷ numbers rs) ≡ true
    go true e =
        or_right (eqb r.number 0) (eqb r.number r.number || among r.number (numbers rs))
        (rw (same r.number))
    go false e = skip (eqb (first_number rs) 0) (eqb (first_number rs) r.number) (among (first_number rs) (numbers rs)) e

-- of two lists in a row the first comes first: its number, where that is not 0, else that of the second
module _ (qs : List Refusal) where
  first_joined : (rs : List Refusal) → among 0 (numbers rs) ≡ false
      → first_number (rs ++ qs) ≡ accepted (first_number rs) (first_number qs) (first_number rs)
  first_joined [] d = refl
  first_joined (r ∷ rs) d =
      let e = (or-eq-false-eq-eq-false-and-eq-false (eqb 0 r.number) (among 0 (numbers rs))).0 d in
      go r.applies (λ z. eqb-false 0 r.number e.0 (sym z)) (first_joined rs e.1)
    where
      go : (t : Bool) → (r.number ≡ 0 → ⊥) → first_number (rs ++ qs) ≡ accepted (first_number rs) (first_number qs) (first_number rs)
          → (if t then r.number else first_number (rs ++ qs))
          ≡ accepted (if t then r.number else first_number rs) (first_number qs) (if t then r.number else first_number rs)
      go true n later = sym (accepted_not r.number (first_number qs) r.number n)
      go false n later = later

  module _ (rs : List Refusal) (d : among 0 (numbers rs) ≡ false) where
    pub joined_first : (n : ℕ) → n ≡ first_number rs → (n ≡ 0 → ⊥) → first_number (rs ++ qs) ≡ n
    joined_first n e h =
        first_joined rs d ∙ accepted_not (first_number rs) (first_number qs) (first_number rs) (λ z. h (e ∙ z)) ∙ sym e

    pub joined_then : first_number rs ≡ 0 → first_number (rs ++ qs) ≡ first_number qs
    joined_then z = first_joined rs d ∙ accepted_so (first_number rs) (first_number qs) (first_number rs) z

-- it tells which
pub first_tells : (rs : List Refusal) → distinct (0 ∷ numbers rs) ≡ true → Tells (first_number rs) rs
first_tells [] d = tt
first_tells (r ∷ rs) d = go r.applies refl (first_tells rs)
  where
    both : (among 0 (r.number ∷ numbers rs) ≡ false) × (among r.number (numbers rs) ≡ false) × (distinct (numbers rs) ≡ true)
    both =
        let a = (and-eq-true_iff (not (among 0 (r.number ∷ numbers rs))) (distinct (r.number ∷ numbers rs))).0 d in
        let b = (and-eq-true_iff (not (among r.number (numbers rs))) (distinct (numbers rs))).0 a.1 in
        (not-true _ a.0, not-true _ b.0, b.1)

    or_no : (a b : Bool) → a || b ≡ false → (a ≡ false) × (b ≡ false)
    or_no true b e = absurd (true≢false e)
    or_no false b e = (refl, e)

    -- a number among others, of which m is none, is not m
    other : (n m : ℕ) (ns : List ℕ) → among n ns ≡ true → among m ns ≡ false → eqb n m ≡ false
    other n m ns h k = at (eqb n m) refl
      where
        at : (t : Bool) → eqb n m ≡ t → t ≡ false
        at true e = absurd (true≢false (sym h ∙ ap (λ x. among x ns) (eqb-true n m e) ∙ k))
        at false e = refl

    swapped : (n m : ℕ) → eqb n m ≡ false → eqb m n ≡ false
    swapped n m e = at (eqb m n) refl
      where
        at : (t : Bool) → eqb m n ≡ t → t ≡ false
        at true q = absurd (true≢false (sym (eq-eqb n m (sym (eqb-true m n q))) ∙ e))
        at false q = refl

    rest : distinct (0 ∷ numbers rs) ≡ true
    rest = let z = or_no (eqb 0 r.number) (among 0 (numbers rs)) both.0 in rw (z.1, both.2)

    fresh : among r.number (0 ∷ numbers rs) ≡ false
    fresh =
        let z = or_no (eqb 0 r.number) (among 0 (numbers rs)) both.0 in
        rw (swapped 0 r.number z.0, both.1)

    go : (t : Bool) → r.applies ≡ t → (distinct (0 ∷ numbers rs) ≡ true → Tells (first_number rs) rs)
        → Tells (if t then r.number else first_number rs) (r ∷ rs)
    go true e later = rw (same r.number) e
    go false e later = rw (other (first_number rs) r.number (0 ∷ numbers rs) (first_listed rs) fresh) (e, later rest)

-- and what it tells gives it
pub tells_first : (n : ℕ) (rs : List Refusal) → among n (0 ∷ numbers rs) ≡ true → Tells n rs → first_number rs ≡ n
tells_first n [] h t = go (eqb n 0) refl h
  where
    go : (b : Bool) → eqb n 0 ≡ b → b || false ≡ true → 0 ≡ n
    go true e k = sym (eqb-true n 0 e)
    go false e k = absurd (true≢false (sym k))
tells_first n (r ∷ rs) h t = go (eqb n r.number) refl t (tells_first n rs)
  where
    drop : (a b c : Bool) → b ≡ false → a || (b || c) ≡ true → a || c ≡ true
    drop true b c e k = refl
    drop false b c e k = rw e at k

    go : (b : Bool) → eqb n r.number ≡ b → cond b (r.applies ≡ true) ((r.applies ≡ false) × Tells n rs)
        → (among n (0 ∷ numbers rs) ≡ true → Tells n rs → first_number rs ≡ n)
        → (if r.applies then r.number else first_number rs) ≡ n
    go true e k later = rw k (sym (eqb-true n r.number e))
    go false e k later = rw k.0 (later (drop (eqb n 0) (eqb n r.number) (among n (numbers rs)) e h) k.1)
