-- The proof of Demand3.
use Rattle.std.specs.Prelude.{if◌then◌else◌}
use Prim.Native.Nat.{ℕ, zero, suc, ◌+◌, ◌-◌, ◌*◌, ◌/◌, ◌%◌, ◌^◌, ◌≤◌, ◌<◌}
use mathlib.Core.Path.{◌≡◌, refl, sym, ap, ◌∙◌}
use mathlib.Core.Logic.{◌≢◌, ◌⊎◌, inl, inr}
use mathlib.Core.Bool.{Bool, true, false, ◌&&◌, ◌||◌, and-eq-true_iff}
use mathlib.Core.List.{List}
use native.Mathlib.Nat.{zero-add, zero-div}
use native.Mathlib.Decide.{ℕ_discrete, dec_lt}
use native.Mathlib.Omega.{arith}
use borrow.Author.Tests.{eqb-true, leb-true, ltb-true, eq-eqb, ne_eqb}
use lib.Dec.{eqb, leb, ltb, lit≤}
use lib.ListN.{length, get_or, get_or-eq_default}
use Rattle.base.specs.Tab.{all, tab_from}
use Rattle.base.proofs.TabLaws.{length_tab, get_d_tab, all_at}
use Rattle.line.specs.Bit.{bit_at}
use Rattle.line.proofs.BitLaws.{bit_lt}
use Rattle.line.specs.Spelt.{spelt}
use Rattle.line.proofs.SpeltLaws.{spelt_same}
use Rattle.crc.specs.Striped.{read_as, striped}
use Rattle.crc.proofs.StripedLaws.{striped_data}
use Rattle.crc.specs.Remainder.{step, after, check}
use Rattle.e1.specs.Block.{block_bits, block_check, carried}
use Rattle.claims.proofs.Seam.{seen}
use Rattle.claims.proofs.Counts.{counts}
use Rattle.claims.specs.Demand3.{Agreeing, Aligned, CheckOfFirst, DataOfLast, Demand3, OnlyWithin, ReadClean}
use Rattle.claims.specs.Demand3.{Unseen, zeros_but}

pub zero_bit : (m : ℕ) → 0 / m % 2 ≡ 0
zero_bit m = ap (λ x. x % 2) (zero-div m)

-- past the end of an image every bit is 0
pub past : (s : List ℕ) (p n : ℕ) → length s ≡ n → 8 * n ≤ p → bit_at s p ≡ 0
unfolding bit_at
past s p n l h =
    let e : get_or s (p / 8) 0 ≡ 0 = get_or-eq_default s 0 (omega arith) in rw e (zero_bit (2 ^ (7 - p % 8)))

module _ (s t : List ℕ) where
  -- where the check carried is the same, so is each of its bits
  bits_of_carried : (q j : ℕ) → j < 4 → carried s q ≡ carried t q → bit_at s (q + 512 * j) ≡ bit_at t (q + 512 * j)
  unfolding carried
  bits_of_carried q j h e =
      spelt_same 4 (λ i. bit_at s (q + 512 * i)) (λ i. bit_at t (q + 512 * i))
      (λ i. bit_lt s (q + 512 * i)) (λ i. bit_lt t (q + 512 * i)) e j h

  -- where the block is the same, so is each of its data bits
  bits_of_block : (q i : ℕ) → i < 2048 → i % 512 ≢ 0 → block_bits s q ≡ block_bits t q → bit_at s (q + i) ≡ bit_at t (q + i)
  bits_of_block q i h z e = striped_data 512 0 2048 (λ i. bit_at s (q + i)) (λ i. bit_at t (q + i)) e i h z

burst : (n : ℕ) (s t : List ℕ) → Aligned s n → Aligned t n → Agreeing s n → Agreeing t n
    → (a : ℕ) → OnlyWithin 4 a s t → (p : ℕ) → bit_at s p ≢ bit_at t p → CheckOfFirst p ⊎ DataOfLast n p
burst n s t whole-s whole-t agree-s agree-t a only p ne = go (dec_lt p (4096 * n)) (ℕ_discrete (p % 512) 0)
  where
    b : ℕ
    b = p / 2048

    -- a check bit of a later block
    later : 2048 ≤ p → p < 4096 * n → p % 512 ≡ 0 → bit_at s p ≡ bit_at t p
    later h l z =
        let q : ℕ = 2048 * (b - 1) in
        let e : q + 2048 + 512 * (p % 2048 / 512) ≡ p = omega arith in
        let c = (seen s t q a only (agree-s (b - 1) (omega arith)) (agree-t (b - 1) (omega arith))).1 in
        rw e at (bits_of_carried s t (q + 2048) (p % 2048 / 512) (omega arith) c)

    -- a data bit of a block before the last
    sooner : b + 1 < 2 * n → p % 512 ≢ 0 → bit_at s p ≡ bit_at t p
    sooner h z =
        let e : 2048 * b + p % 2048 ≡ p = omega arith in
        let c = (seen s t (2048 * b) a only (agree-s b h) (agree-t b h)).0 in
        rw e at (bits_of_block s t (2048 * b) (p % 2048) (omega arith) (λ w. z (omega arith)) c)

    go : Dec (p < 4096 * n) → Dec (p % 512 ≡ 0) → CheckOfFirst p ⊎ DataOfLast n p
    go (no h) z =
        absurd (ne (past s p (512 * n) whole-s.whole (omega arith) ∙ sym (past t p (512 * n) whole-t.whole (omega arith))))
    go (yes l) (yes z) = elim (dec_lt p 2048) [ yes h ↦ inl (h, z) | no h ↦ absurd (ne (later (omega arith) l z)) ]
    go (yes l) (no z) = elim (dec_lt (b + 1) (2 * n)) [
      | yes h ↦ absurd (ne (sooner h z))
      | no h ↦ inr (omega arith, l, z)
    ]

-- an image without an errored block agrees
agreeing : (s : List ℕ) (n : ℕ) → ReadClean s n → Agreeing s n
agreeing s n c b h =
    let agrees = (counts.none_errored s _ _ c.r _ _ c.reads c.number).0 c.errored in
    rw (c.start, zero-add) at (agrees b (omega arith))

-- What goes unseen

first_agrees : (s : List ℕ) → block_check s 0 ≡ carried s 2048 → Agreeing s 1
first_agrees s e zero h = e
first_agrees s e (suc b) h = absurd (omega arith)

zeros_but_length : (i x : ℕ) → length (zeros_but i x) ≡ 512
zeros_but_length i x = length_tab 512 (λ j. if eqb j i then x else 0)

-- the bits that are 0
zeros_but_bit : (i x p : ℕ) → (p / 8 ≡ i → x / 2 ^ (7 - p % 8) % 2 ≡ 0) → bit_at (zeros_but i x) p ≡ 0
unfolding bit_at
zeros_but_bit i x p z = go (dec_lt p 4096) (ℕ_discrete (p / 8) i)
  where
    at : p < 4096 → get_or (zeros_but i x) (p / 8) 0 ≡ (if eqb (p / 8) i then x else 0)
    at h = get_d_tab 512 (λ j. if eqb j i then x else 0) (p / 8) 0 (omega arith)

    go : Dec (p < 4096) → Dec (p / 8 ≡ i) → bit_at (zeros_but i x) p ≡ 0
    go (no h) d = past (zeros_but i x) p 512 (zeros_but_length i x) (omega arith)
    go (yes h) (yes e) = rw (at h, eq-eqb (p / 8) i e) (z e)
    go (yes h) (no e) = rw (at h, ne_eqb (p / 8) i e) (zero_bit (2 ^ (7 - p % 8)))

zeros_bit : (p : ℕ) → bit_at (zeros_but 0 0) p ≡ 0
zeros_bit p = zeros_but_bit 0 0 p (λ e. zero_bit (2 ^ (7 - p % 8)))

zeros_agree : Agreeing (zeros_but 0 0) 1
unfolding block_check striped read_as carried spelt check after step bit_at tab_from
zeros_agree = first_agrees (zeros_but 0 0) refl

module _ (w a i x : ℕ) where
  inside : ℕ → Bool
  inside p = leb a p && ltb p (a + w)

  -- bit r of x lies among the w bits from a on, or is 0
  fits : ℕ → Bool
  fits r = inside (8 * i + r) || eqb (x / 2 ^ (7 - r) % 2) 0

  within : all 8 fits ≡ true → OnlyWithin w a (zeros_but 0 0) (zeros_but i x)
  unfolding inside fits
  within t p ne = go (inside p) refl
    where
      bit : inside p ≡ false → p / 8 ≡ i → x / 2 ^ (7 - p % 8) % 2 ≡ 0
      bit e k =
          let d : 8 * i + p % 8 ≡ p = omega arith in
          eqb-true _ _ (rw (d, e) at (all_at 8 fits t (p % 8) (omega arith)))

      go : (b : Bool) → inside p ≡ b → (a ≤ p) × (p < a + w)
      go true e = let (l, h) = (and-eq-true_iff (leb a p) (ltb p (a + w))).0 e in (leb-true a p l, ltb-true p (a + w) h)
      go false e = absurd (ne (zeros_bit p ∙ sym (zeros_but_bit i x p (bit e))))

  unseen : all 8 fits ≡ true → block_check (zeros_but i x) 0 ≡ carried (zeros_but i x) 2048 → bit_at (zeros_but i x) a ≡ 1
      → Unseen w a (zeros_but 0 0) (zeros_but i x) a
  unseen t e o =
      record {
        s_aligned = record { some = lit≤ tt; whole = zeros_but_length 0 0 };
        t_aligned = record { some = lit≤ tt; whole = zeros_but_length i x };
        s_agrees = zeros_agree;
        t_agrees = first_agrees (zeros_but i x) e;
        only = within t;
        differs = λ d. omega (arith, zeros_bit a);
      }

pub demand_3 : Demand3
unfolding block_check striped read_as carried spelt check after step bit_at tab_from all inside fits
demand_3 =
    record {
      burst = burst;
      read = λ n s t u v c d. burst n s t u v (agreeing s n c) (agreeing t n d);
      at_check_bit = unseen 4 0 0 128 refl refl refl;
      at_data_bit = unseen 4 4095 511 1 refl refl refl;
      five_can_hide = unseen 5 2043 255 19 refl refl refl;
    }
