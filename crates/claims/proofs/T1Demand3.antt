-- Demand 3 of T1 holds: from the law of a burst alone, since no check bit of a superframe lies within six bits of the
-- superframe whose check it carries.
use Rattle.std.specs.Prelude.{if◌then◌else◌}
use Prim.Native.Nat.{ℕ, zero, suc, ◌+◌, ◌-◌, ◌*◌, ◌/◌, ◌%◌, ◌^◌, ◌≤◌, ◌<◌}
use mathlib.Core.Path.{◌≡◌, refl, sym, ap, ◌∙◌}
use mathlib.Core.Logic.{◌≢◌, ◌⊎◌, inl, inr}
use mathlib.Core.Bool.{Bool, true, false, ◌&&◌, ◌||◌, and-eq-true_iff}
use mathlib.Core.List.{List}
use native.Mathlib.Nat.{zero-add}
use native.Mathlib.Decide.{ℕ_discrete, dec_lt}
use native.Mathlib.Omega.{arith}
use borrow.Author.Tests.{eqb-true, leb-true, ltb-true, eq-eqb, ne_eqb}
use lib.Dec.{eqb, leb, ltb, lit≤, lit<}
use lib.ListN.{length, get_or}
use Rattle.base.specs.Tab.{all, tab_from}
use Rattle.base.proofs.TabLaws.{length_tab, get_d_tab, all_at}
use Rattle.line.specs.Bit.{bit_at}
use Rattle.line.specs.Spelt.{spelt}
use Rattle.line.proofs.BitLaws.{bit_lt}
use Rattle.line.proofs.SpeltLaws.{spelt_agree, spelt_same}
use Rattle.crc.specs.Remainder.{step, after, check}
use Rattle.crc.specs.Striped.{read_as, striped}
use Rattle.crc.proofs.Laws.{same}
use Rattle.crc.proofs.StripedLaws.{striped_burst}
use Rattle.t1.specs.Superframe.{framing_at, carried, check_of, super_check}
use Rattle.t1.proofs.Laws.{check_of_agree}
use Rattle.claims.specs.Demand3.{OnlyWithin}
use Rattle.claims.specs.T1Demand3.{AlignedT1, AgreeingT1, CheckOfFirstT1, DataOfLastT1, OtherFraming, OnlyThereT1}
use Rattle.claims.specs.T1Demand3.{ReadCleanT1, UnseenT1, idle_octet, idle_but, T1Demand3}
use Rattle.claims.proofs.Demand3.{zero_bit, past}
use Rattle.claims.proofs.T1Read.{none_errored}

module _ (s t : List ℕ) where
  -- the checks that two superframes carry
  pub carried_agree : (q : ℕ) → ((i : ℕ) → 193 ≤ i → bit_at s (q + i) ≡ bit_at t (q + i)) → carried s q ≡ carried t q
  unfolding carried
  carried_agree q h =
      spelt_agree 6 (λ i. bit_at s (framing_at q (4 * i + 1))) (λ i. bit_at t (framing_at q (4 * i + 1)))
      (λ i l. h (193 * (4 * i + 1)) (omega arith))

  pub carried_bit_lem : (q j : ℕ) → j < 6 → carried s q ≡ carried t q
      → bit_at s (framing_at q (4 * j + 1)) ≡ bit_at t (framing_at q (4 * j + 1))
  unfolding carried
  carried_bit_lem q j h e =
      spelt_same 6 (λ i. bit_at s (framing_at q (4 * i + 1))) (λ i. bit_at t (framing_at q (4 * i + 1)))
      (λ i. bit_lt s (framing_at q (4 * i + 1))) (λ i. bit_lt t (framing_at q (4 * i + 1))) e j h

  module _ (a : ℕ) (only : OnlyWithin 6 a s t) where
    keeps : (p : ℕ) → ¬ ((a ≤ p) × (p < a + 6)) → bit_at s p ≡ bit_at t p
    keeps p n = same (bit_at s p) (bit_at t p) (λ ne. n (only p ne))

    -- a superframe with one check in both
    burst_data : (q i : ℕ) → i < 4632 → i % 193 ≢ 0 → super_check s q ≡ super_check t q → bit_at s (q + i) ≡ bit_at t (q + i)
    unfolding check_of
    burst_data q i l z e =
        striped_burst 193 1 4632 6 (lit≤ tt) (lit< tt) (λ i. bit_at s (q + i)) (λ i. bit_at t (q + i))
        (λ i. bit_lt s (q + i)) (λ i. bit_lt t (q + i)) (a - q)
        (λ i h. keeps (q + i) (λ w. omega arith)) (λ i h. keeps (q + i) (λ w. omega arith)) e i l z

burst : (n : ℕ) (s t : List ℕ) → AlignedT1 s n → AlignedT1 t n → AgreeingT1 s n → AgreeingT1 t n → OnlyThereT1 n s t
burst n s t whole-s whole-t agree-s agree-t a only p ne =
    go (dec_lt p (4632 * n)) (ℕ_discrete (p % 193) 0) (ℕ_discrete (p % 772) 193)
  where
    b : ℕ
    b = p / 4632

    i : ℕ
    i = p % 4632

    -- a check bit of a later superframe: the one before it is not hit, so its check is the same
    later : 4632 ≤ p → p < 4632 * n → p % 772 ≡ 193 → bit_at s p ≡ bit_at t p
    later h l z =
        let q : ℕ = 4632 * (b - 1) in
        let (x, y) = only p ne in
        let c : super_check s q ≡ super_check t q
        = check_of_agree _ _ (λ i k o. keeps s t a only (q + i) (λ w. omega arith)) in
        let d : carried s (q + 4632) ≡ carried t (q + 4632)
        = sym (agree-s (b - 1) (omega arith)) ∙ c ∙ agree-t (b - 1) (omega arith) in
        let e : framing_at (q + 4632) (4 * (i / 772) + 1) ≡ p = omega arith in
        rw e at (carried_bit_lem s t (q + 4632) (i / 772) (omega arith) d)

    -- a data bit of a superframe before the last: the check bits of the next are not hit, so its check is the same
    sooner : b + 1 < n → p % 193 ≢ 0 → bit_at s p ≡ bit_at t p
    sooner h z =
        let q : ℕ = 4632 * b in
        let (x, y) = only p ne in
        let d : carried s (q + 4632) ≡ carried t (q + 4632)
        = carried_agree s t (q + 4632) (λ i k. keeps s t a only (q + 4632 + i) (λ w. omega arith)) in
        let e : q + i ≡ p = omega arith in
        rw e at (burst_data s t a only q i (omega arith) (λ w. z (omega arith)) (agree-s b h ∙ d ∙ sym (agree-t b h)))

    go : Dec (p < 4632 * n) → Dec (p % 193 ≡ 0) → Dec (p % 772 ≡ 193) → CheckOfFirstT1 p ⊎ (DataOfLastT1 n p ⊎ OtherFraming n p)
    go (no h) z c =
        absurd (ne (past s p (579 * n) whole-s.whole (omega arith) ∙ sym (past t p (579 * n) whole-t.whole (omega arith))))
    go (yes l) (no z) c = elim (dec_lt (b + 1) n) [
      | yes h ↦ absurd (ne (sooner h z))
      | no h ↦ inr (inl (omega arith, l, z))
    ]
    go (yes l) (yes z) (no c) = inr (inr (l, z, c))
    go (yes l) (yes z) (yes c) = elim (dec_lt p 4632) [
      | yes h ↦ inl (h, c)
      | no h ↦ absurd (ne (later (omega arith) l c))
    ]

-- an image without an errored superframe agrees
agreeing : (s : List ℕ) (n : ℕ) → ReadCleanT1 s n → AgreeingT1 s n
agreeing s n c b h =
    let agrees = (none_errored s _ _ c.r _ _ c.reads c.number).0 c.errored in
    rw (c.place, zero-add) at (agrees b (omega (arith, c.whole)))

-- What goes unseen

first_agrees : (s : List ℕ) → super_check s 0 ≡ carried s 4632 → AgreeingT1 s 2
first_agrees s e zero h = e
first_agrees s e (suc b) h = absurd (omega arith)

idle_length : (i x : ℕ) → length (idle_but i x) ≡ 1158
idle_length i x = length_tab 1158 (idle_octet i x)

idle_octet_lem : (i x k : ℕ) → k < 1158 → get_or (idle_but i x) k 0 ≡ idle_octet i x k
idle_octet_lem i x k h = get_d_tab 1158 (idle_octet i x) k 0 h

-- the check of the first superframe, from its octets one by one
abbrev idle_bit : ℕ → ℕ → ℕ → ℕ
idle_bit i x j = idle_octet i x (j / 8) / 2 ^ (7 - j % 8) % 2

idle_check : (i x c : ℕ) → check_of (idle_bit i x) ≡ c → carried (idle_but i x) 4632 ≡ c → AgreeingT1 (idle_but i x) 2
unfolding bit_at
idle_check i x c e f =
    first_agrees (idle_but i x)
    (check_of_agree (λ j. bit_at (idle_but i x) (0 + j)) (idle_bit i x)
    (λ j l z. ap (bit_at (idle_but i x)) (zero-add j) ∙ ap (λ o. o / 2 ^ (7 - j % 8) % 2) (idle_octet_lem i x (j / 8) (omega arith)))
    ∙ e ∙ sym f)

idle_agrees : AgreeingT1 (idle_but 0 0) 2
unfolding check_of striped read_as carried spelt check after step bit_at tab_from
idle_agrees = idle_check 0 0 2 refl refl

-- without the octet i
idle_else : (i x k : ℕ) → k ≢ i → idle_octet i x k ≡ (if eqb k 989 then 64 else 0)
idle_else i x k n = rw (ne_eqb k i n)

idle_base : (k : ℕ) → idle_octet 0 0 k ≡ (if eqb k 989 then 64 else 0)
idle_base k = elim (ℕ_discrete k 0) [ yes e ↦ rw e | no n ↦ idle_else 0 0 k n ]

module _ (w a i x : ℕ) (other : eqb i 989 ≡ false) where
  inside : ℕ → Bool
  inside p = leb a p && ltb p (a + w)

  -- bit r of x lies among the w bits from a on, or is 0
  fits : ℕ → Bool
  fits r = inside (8 * i + r) || eqb (x / 2 ^ (7 - r) % 2) 0

  within : all 8 fits ≡ true → OnlyWithin w a (idle_but 0 0) (idle_but i x)
  unfolding inside fits bit_at
  within t p ne = go (inside p) refl (dec_lt p 9264) (ℕ_discrete (p / 8) i)
    where
      at : (o : ℕ) → ℕ
      at o = o / 2 ^ (7 - p % 8) % 2

      there : (y z : ℕ) → p < 9264 → bit_at (idle_but y z) p ≡ at (idle_octet y z (p / 8))
      there y z h = ap at (idle_octet_lem y z (p / 8) (omega arith))

      go : (b : Bool) → inside p ≡ b → Dec (p < 9264) → Dec (p / 8 ≡ i) → (a ≤ p) × (p < a + w)
      go true e d f = let (l, h) = (and-eq-true_iff (leb a p) (ltb p (a + w))).0 e in (leb-true a p l, ltb-true p (a + w) h)
      go false e (no d) f =
          absurd (ne (past (idle_but 0 0) p 1158 (idle_length 0 0) (omega arith) ∙ sym (past (idle_but i x) p 1158 (idle_length i x) (omega arith))))
      go false e (yes d) (yes f) =
          let k : 8 * i + p % 8 ≡ p = omega arith in
          let z : at x ≡ 0 = eqb-true _ _ (rw (k, e) at (all_at 8 fits t (p % 8) (omega arith))) in
          let o : idle_octet 0 0 (p / 8) ≡ 0 = idle_base (p / 8) ∙ rw (f, other) in
          let n : idle_octet i x (p / 8) ≡ x = rw (eq-eqb (p / 8) i f) in
          absurd (ne (there 0 0 d ∙ ap at o ∙ zero_bit (2 ^ (7 - p % 8)) ∙ sym (there i x d ∙ ap at n ∙ z)))
      go false e (yes d) (no f) =
          absurd (ne (there 0 0 d ∙ ap at (idle_base (p / 8) ∙ sym (idle_else i x (p / 8) f)) ∙ sym (there i x d)))

  unseen : all 8 fits ≡ true → AgreeingT1 (idle_but i x) 2 → bit_at (idle_but 0 0) a ≡ 0 → bit_at (idle_but i x) a ≡ 1
      → UnseenT1 2 w a (idle_but 0 0) (idle_but i x) a
  unseen t e o n =
      record {
        s_aligned = record { some = lit≤ tt; whole = idle_length 0 0 };
        t_aligned = record { some = lit≤ tt; whole = idle_length i x };
        s_agrees = idle_agrees;
        t_agrees = e;
        only = within t;
        differs = λ d. omega arith;
      }

pub t1_demand_3 : T1Demand3
unfolding check_of striped read_as carried spelt check after step bit_at tab_from all inside fits
t1_demand_3 =
    record {
      burst = burst;
      read = λ n s t u v c d. burst n s t u v (agreeing s n c) (agreeing t n d);
      at_check_bit = unseen 6 193 24 64 refl refl (idle_check 24 64 2 refl refl) refl refl;
      at_data_bit = unseen 6 9263 1157 1 refl refl (idle_check 1157 1 2 refl refl) refl refl;
      at_link_bit = unseen 6 0 0 128 refl refl (idle_check 0 128 2 refl refl) refl refl;
      seven_can_hide = unseen 7 4625 578 67 refl refl (idle_check 578 67 2 refl refl) refl refl;
    }
