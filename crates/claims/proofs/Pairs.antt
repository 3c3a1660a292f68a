-- How many pairs of data bits a block has, and how many of them lie a multiple of o apart: those alike modulo o.
use Rattle.std.specs.Prelude.{if◌then◌else◌}
use Prim.Native.Nat.{ℕ, zero, suc, ◌+◌, ◌-◌, ◌*◌, ◌/◌, ◌%◌, ◌<◌}
use mathlib.Core.Path.{◌≡◌, refl, sym, ap, ◌∙◌}
use mathlib.Core.Bool.{Bool, true, false, ◌&&◌, and-true, and-false}
use native.Mathlib.Decide.{ℕ_discrete}
use native.Mathlib.Nat.{add-zero, zero-add, mul-sub, div-add-mod}
use native.Mathlib.Nat.{mod-lt, mod-one, mod-mod, mod-eq_of_lt, add-mod, mul-mod_right, mul-add-mod_self_left}
use native.Mathlib.Numerals.{add-one}
use native.Mathlib.Omega.{arith}
use borrow.Author.Tests.{eq-eqb, ne_eqb}
use lib.Dec.{eqb}
use Rattle.base.specs.Tab.{sum, count}
use Rattle.base.proofs.TabLaws.{sum_ext, sum_none, sum_split, sum_runs, sum_grown}
use Rattle.crc.specs.Share.{distance}
use Rattle.claims.specs.TwoHits.{is_data, data_pairs}

-- two numbers lie a multiple of o apart exactly if they are alike modulo o
alike_apart : (o i j : ℕ) → i < j → eqb (distance i j % o) 0 ≡ eqb (i % o) (j % o)
alike_apart o i j l = elim (ℕ_discrete (i % o) (j % o)) [
  | yes e ↦ eq-eqb _ _ (ap (λ x. x % o) (times e) ∙ mul-mod_right o (j / o - i / o)) ∙ sym (eq-eqb _ _ e)
  | no e ↦ ne_eqb _ _ (λ z. e (equal z)) ∙ sym (ne_eqb _ _ e)
]
  where
    times : i % o ≡ j % o → distance i j ≡ o * (j / o - i / o)
    times e = omega (arith, e, mul-sub o (j / o) (i / o), div-add-mod i o, div-add-mod j o)

    equal : distance i j % o ≡ 0 → i % o ≡ j % o
    equal z =
        let k : i + distance i j ≡ j = omega arith in
        rw (← k, add-mod i (distance i j) o, z, add-zero) (sym (mod-mod i o))

module _ (t : ℕ → Bool) (o : ℕ) where
  -- how many below n pass and are r modulo o, and the pairs they make: c of them make 0 + 1 + .. + (c - 1)
  abbrev alike : ℕ → ℕ → ℕ
  alike n r = count n (λ i. t i && eqb (i % o) r)

  abbrev made : ℕ → ℕ → ℕ
  made n r = sum (alike n r) (λ i. i)

  pairs_made : (n : ℕ) → 0 < o → sum o (made n) ≡ sum n (λ j. count j (λ i. t i && (t j && eqb (distance i j % o) 0)))
  unfolding sum
  pairs_made zero h = sum_none o _ (λ i l. refl)
  pairs_made (suc n) h =
      sum_grown o (n % o) (added (t n)) (made n) (made (suc n)) (mod-lt n h) (grows (t n))
      (λ r l z. rw (ne_eqb (n % o) r (λ y. z (sym y)), and-false (t n), add-zero))
      ∙ ap (λ x. x + added (t n)) (pairs_made n h)
    where
      -- the pairs of n with what is before it, where b says whether n passes
      added : Bool → ℕ
      added b = count n (λ i. t i && (b && eqb (distance i n % o) 0))

      grows : (b : Bool) → sum (alike n (n % o) + (if b && eqb (n % o) (n % o) then 1 else 0)) (λ i. i) ≡ made n (n % o) + added b
      grows true =
          rw (eq-eqb (n % o) (n % o) refl, add-one)
          (ap (λ x. made n (n % o) + x) (sum_ext n _ _ (λ i l. rw (alike_apart o i n l))))
      grows false =
          rw add-zero (sym (ap (λ x. made n (n % o) + x) (sum_none n _ (λ i l. rw (and-false (t i)))) ∙ add-zero _))

  -- the same count by steps of o, which is less to compute
  abbrev stepped : ℕ → ℕ → ℕ
  stepped n r = count (n / o) (λ m. t (o * m + r)) + count (n % o) (λ i. t (o * (n / o) + i) && eqb ((o * (n / o) + i) % o) r)

  alike_stepped : (n r : ℕ) → r < o → alike n r ≡ stepped n r
  alike_stepped n r h =
      ap (λ x. sum x passes) (sym (div-add-mod n o))
      ∙ sum_split (o * (n / o)) (n % o) passes
      ∙ ap (λ x. x + sum (n % o) (λ i. passes (o * (n / o) + i))) (sym (sum_runs o (n / o) _ passes (λ m. sym (one m))))
    where
      passes : ℕ → ℕ
      passes i = if t i && eqb (i % o) r then 1 else 0

      one : (m : ℕ) → sum o (λ j. passes (o * m + j)) ≡ (if t (o * m + r) then 1 else 0)
      one m =
          sum_grown o r (if t (o * m + r) then 1 else 0) (λ j. 0) (λ j. passes (o * m + j)) h
          (rw (mul-add-mod_self_left o m r, mod-eq_of_lt h, eq-eqb r r refl, and-true (t (o * m + r)), zero-add))
          (λ j l z. rw (mul-add-mod_self_left o m j, mod-eq_of_lt l, ne_eqb j r z, and-false (t (o * m + j))))
          ∙ rw (sum_none o (λ j. 0) (λ j l. refl), zero-add)

pairs_apart : (n d o : ℕ) (u : ℕ → Bool) → 0 < o → ((m : ℕ) → u m ≡ eqb (m % o) 0)
    → data_pairs n d u ≡ sum o (λ r. sum (stepped (is_data d) o n r) (λ i. i))
unfolding data_pairs
pairs_apart n d o u h w =
    sum_ext n _ _ (λ j l. sum_ext j _ _ (λ i m. rw (w (distance i j))))
    ∙ sym (pairs_made (is_data d) o n h)
    ∙ sum_ext o _ _ (λ r l. ap (λ x. sum x (λ i. i)) (alike_stepped (is_data d) o n r l))

-- all are a multiple of 1 apart
times_one : (m : ℕ) → true ≡ eqb (m % 1) 0
times_one m = sym (eq-eqb (m % 1) 0 (mod-one m))

pub e1_all : data_pairs 2048 512 (λ m. true) ≡ 2087946
unfolding sum
e1_all = pairs_apart 2048 512 1 _ (omega arith) times_one

pub e1_hidden : data_pairs 2048 512 (λ m. eqb (m % 15) 0) ≡ 138244
unfolding sum
e1_hidden = pairs_apart 2048 512 15 _ (omega arith) (λ m. refl)

pub t1_all : data_pairs 4632 193 (λ m. true) ≡ 10614528
unfolding sum
t1_all = pairs_apart 4632 193 1 _ (omega arith) times_one

pub t1_hidden : data_pairs 4632 193 (λ m. eqb (m % 63) 0) ≡ 166228
unfolding sum
t1_hidden = pairs_apart 4632 193 63 _ (omega arith) (λ m. refl)
