-- Two hits in one block: what holds of E1 and T1 alike.
use Rattle.std.specs.Prelude.{if◌then◌else◌}
use Prim.Native.Nat.{ℕ, suc, ◌+◌, ◌-◌, ◌*◌, ◌%◌, ◌≤◌, ◌<◌}
use mathlib.Core.Path.{◌≡◌, sym, ap, ap₂, ◌∙◌}
use mathlib.Core.Bool.{Bool, true, cond, not}
use mathlib.Core.List.{List}
use mathlib.Core.Logic.{◌≢◌, ◌↔◌}
use native.Mathlib.Nat.{zero-add, add_left_cancel, mul-suc, mul-le-mul_left}
use native.Mathlib.Decide.{ℕ_discrete, dec_lt}
use native.Mathlib.Omega.{arith}
use borrow.Author.Tests.{eq-eqb, ne_eqb}
use lib.Bits.{bit_xor}
use lib.Dec.{eqb}
use Rattle.base.specs.Tab.{count}
use Rattle.base.proofs.TabLaws.{sum_ext, sum_grown}
use Rattle.line.specs.Bit.{bit_at}
use Rattle.line.proofs.BitLaws.{bit_lt}
use Rattle.crc.specs.Remainder.{check}
use Rattle.crc.specs.Striped.{striped}
use Rattle.crc.specs.Share.{share, distance}
use Rattle.crc.proofs.StripedLaws.{striped_agree}
use Rattle.crc.proofs.Order.{Order}
use Rattle.crc.proofs.ShareLaws.{hidden_by, twice_shares}
use Rattle.claims.specs.TwoHits.{is_data, HitTwice}
use Rattle.claims.proofs.Counts.{not_equal}

-- Blocks of n bits, of which each d-th is no data bit and is read as fill; x has the order o by their check of w bits, and
-- the next block carries that in such bits.
pub record Blocks (n d fill w o : ℕ) (carried : List ℕ → ℕ → ℕ) : Type 0 where
  pub fill_bit : fill < 2
  pub wide : 2 ≤ w
  pub order : Order w o
  pub carried_agree : (s t : List ℕ) (q : ℕ) → ((k : ℕ) → k < n → k % d ≡ 0 → bit_at s (q + k) ≡ bit_at t (q + k))
      → carried s q ≡ carried t q

module _ {n d fill w o : ℕ} {carried : List ℕ → ℕ → ℕ} (blocks : Blocks n d fill w o carried) where
  abbrev check_at : List ℕ → ℕ → ℕ
  check_at s q = check w (striped n d fill (λ k. bit_at s (q + k)))

  abbrev AgreesAt : List ℕ → ℕ → Type 0
  AgreesAt s q = check_at s q ≡ carried s (q + n)

  abbrev agrees_at : List ℕ → ℕ → Bool
  agrees_at s q = eqb (check_at s q) (carried s (q + n))

  no_stripe : (i : ℕ) → is_data d i ≡ true → i % d ≢ 0
  no_stripe i = (not_equal (i % d) 0).0

  pub hit_shares : (s t : List ℕ) (q i j : ℕ) → HitTwice n d s t q i j
      → bit_xor (check_at s q) (check_at t q) ≡ bit_xor (share w (n - 1 - i)) (share w (n - 1 - j))
  hit_shares s t q i j h =
      twice_shares w blocks.wide n d fill blocks.fill_bit
      (λ k. bit_at s (q + k)) (λ k. bit_at t (q + k)) (λ k. bit_lt s (q + k)) (λ k. bit_lt t (q + k))
      i j h.two h.i_in h.j_in (no_stripe i h.i_data) (no_stripe j h.j_data) h.i_hit h.j_hit
      (λ k x y. h.others (q + k) (λ e. x (omega arith)) (λ e. y (omega arith)))

  in_order : (c e : ℕ) → c < e → n * c + n ≤ n * e
  in_order c e l = omega (arith, mul-suc n c, mul-le-mul_left n l)

  -- of blocks in a row from place a on, block b is hit
  module _ (s t : List ℕ) (a b i j : ℕ) (h : HitTwice n d s t (a + n * b) i j) where
    -- any other is as it was
    beside : (c k : ℕ) → c ≢ b → k < n → bit_at s (a + n * c + k) ≡ bit_at t (a + n * c + k)
    beside c k ne l = elim (dec_lt c b) [
      | yes m ↦ (let le = in_order c b m in h.others (a + n * c + k) (λ e. omega (arith, h.i_in)) (λ e. omega (arith, h.j_in)))
      | no m ↦ (let le = in_order b c (omega arith) in
          h.others (a + n * c + k) (λ e. omega (arith, h.i_in)) (λ e. omega (arith, h.j_in)))
    ]

    other_check : (c : ℕ) → c ≢ b → check_at s (a + n * c) ≡ check_at t (a + n * c)
    other_check c ne =
        ap (check w)
        (striped_agree d fill n (λ k. bit_at s (a + n * c + k)) (λ k. bit_at t (a + n * c + k)) (λ k l z. beside c k ne l))

    -- and each carries what it carried, block b too, since no data bit carries a check
    carries : (c : ℕ) → carried s (a + n * c) ≡ carried t (a + n * c)
    carries c = blocks.carried_agree s t (a + n * c) (λ k l z. go k l z (ℕ_discrete c b))
      where
        own : (k m : ℕ) → k % d ≡ 0 → m % d ≢ 0 → a + n * b + k ≢ a + n * b + m
        own k m z ne e = ne (rw (add_left_cancel (a + n * b) e) at z)

        go : (k : ℕ) → k < n → k % d ≡ 0 → Dec (c ≡ b) → bit_at s (a + n * c + k) ≡ bit_at t (a + n * c + k)
        go k l z (no ne) = beside c k ne l
        go k l z (yes e) = rw e (h.others (a + n * b + k) (own k i z (no_stripe i h.i_data)) (own k j z (no_stripe j h.j_data)))

    next_carries : (c : ℕ) → carried s (a + n * c + n) ≡ carried t (a + n * c + n)
    next_carries c = let e : a + n * suc c ≡ a + n * c + n = omega (arith, mul-suc n c) in rw e at (carries (suc c))

    other_agrees : (c : ℕ) → c ≢ b → AgreesAt s (a + n * c) ↔ AgreesAt t (a + n * c)
    other_agrees c ne =
        (λ e. sym (other_check c ne) ∙ e ∙ next_carries c, λ e. other_check c ne ∙ e ∙ sym (next_carries c))

    -- block b agrees as it did, exactly where a multiple of o lies between the two
    still_agrees : AgreesAt s (a + n * b) → AgreesAt t (a + n * b) ↔ (distance i j % o ≡ 0)
    still_agrees e =
        let q : ℕ = a + n * b in
        let differ = hit_shares s t q i j h in
        let (there, back) = hidden_by w blocks.wide o blocks.order n (check_at s q) (check_at t q) i j h.i_in h.j_in differ in
        (λ f. there (e ∙ next_carries b ∙ sym f), λ z. sym (back z) ∙ e ∙ next_carries b)

    -- 1 where block c disagrees
    abbrev off : List ℕ → ℕ → ℕ
    off u c = cond (not (agrees_at u (a + n * c))) 1 0

    other_off : (c : ℕ) → c ≢ b → off t c ≡ off s c
    other_off c ne = ap₂ (λ x y. cond (not (eqb x y)) 1 0) (sym (other_check c ne)) (sym (next_carries c))

    -- so one of g blocks disagrees more, or none
    pub one_more_off : (g : ℕ) → b < g → AgreesAt s (a + n * b)
        → count g (λ c. not (agrees_at t (a + n * c)))
        ≡ count g (λ c. not (agrees_at s (a + n * c))) + (if eqb (distance i j % o) 0 then 0 else 1)
    one_more_off g l e =
        sum_grown g b (if eqb (distance i j % o) 0 then 0 else 1) (off s) (off t) l (this (ℕ_discrete (distance i j % o) 0))
        (λ c m. other_off c)
      where
        this : Dec (distance i j % o ≡ 0) → off t b ≡ off s b + (if eqb (distance i j % o) 0 then 0 else 1)
        this (yes z) = rw (eq-eqb _ _ z, eq-eqb _ _ e, eq-eqb _ _ ((still_agrees e).1 z))
        this (no z) = rw (ne_eqb _ _ z, eq-eqb _ _ e, ne_eqb _ _ (λ k. z ((still_agrees e).0 k)))

    -- and as many where block b is none of them
    pub as_many_off : (g : ℕ) → g ≤ b → count g (λ c. not (agrees_at t (a + n * c))) ≡ count g (λ c. not (agrees_at s (a + n * c)))
    as_many_off g l = sum_ext g (off t) (off s) (λ c m. other_off c (λ e. omega arith))

  -- the blocks of an aligned image
  module _ (s t : List ℕ) (b i j : ℕ) (h : HitTwice n d s t (n * b) i j) where
    from_0 : HitTwice n d s t (0 + n * b) i j
    from_0 = rw (zero-add (n * b)) h

    pub disagrees : AgreesAt s (0 + n * b) → (¬ AgreesAt t (0 + n * b)) ↔ (distance i j % o ≢ 0)
    disagrees e =
        let (there, back) = still_agrees s t 0 b i j from_0 e in
        (λ differ z. differ (back z), λ apart f. apart (there f))

    pub others_stay : (c : ℕ) → c ≢ b → AgreesAt s (0 + n * c) ↔ AgreesAt t (0 + n * c)
    others_stay = other_agrees s t 0 b i j from_0
