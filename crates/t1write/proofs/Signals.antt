-- A payload with the last bits of frames 6, 12, 18 and 24 replaced: what is replaced, that all else is kept, and that it
-- can be taken superframe by superframe.
use Prim.Native.Nat.{ℕ, ◌+◌, ◌*◌, ◌/◌, ◌%◌, ◌≤◌, ◌<◌}
use mathlib.Core.Path.{◌≡◌, sym, ap, ◌∙◌}
use mathlib.Core.Logic.{◌≢◌}
use mathlib.Core.List.{List}
use native.Mathlib.Decide.{ℕ_discrete, dec_lt}
use native.Mathlib.Omega.{arith}
use borrow.Author.Tests.{eq-eqb, ne_eqb}
use lib.Dec.{lit<}
use lib.ListN.{length, get_or, get_or-eq_default}
use Rattle.base.proofs.TabLaws.{length_tab, get_d_tab, tab_of}
use Rattle.t1write.specs.Writing.{signalled_octet, with_signals}

pub length_signals : (p g : List ℕ) → length (with_signals p g) ≡ length p
unfolding with_signals
length_signals p g = length_tab (length p) (signalled_octet p g)

module _ (p g : List ℕ) (i : ℕ) (h : i < length p) where
  pub signals_at : get_or (with_signals p g) i 0 ≡ signalled_octet p g i
  unfolding with_signals
  signals_at = get_d_tab (length p) (signalled_octet p g) i 0 h

  replaced_octet : i / 24 % 6 ≡ 5
      → get_or (with_signals p g) i 0 ≡ 2 * (get_or p i 0 / 2) + get_or g (24 * (i / 144) + i % 24) 0
  replaced_octet e = signals_at ∙ rw (eq-eqb (i / 24 % 6) 5 e)

  -- an octet of another frame
  pub kept_octet : i / 24 % 6 ≢ 5 → get_or (with_signals p g) i 0 ≡ get_or p i 0
  kept_octet e = signals_at ∙ rw (ne_eqb (i / 24 % 6) 5 e)

  module _ (bits : (j : ℕ) → get_or g j 0 < 2) where
    -- the bit that is replaced
    pub replaced_bit : i / 24 % 6 ≡ 5 → get_or (with_signals p g) i 0 % 2 ≡ get_or g (24 * (i / 144) + i % 24) 0
    replaced_bit e = omega (arith, replaced_octet e, bits (24 * (i / 144) + i % 24))

    -- the other seven
    pub kept_bits : get_or (with_signals p g) i 0 / 2 ≡ get_or p i 0 / 2
    kept_bits =
        elim (ℕ_discrete (i / 24 % 6) 5) [
          | yes e ↦ omega (arith, replaced_octet e, bits (24 * (i / 144) + i % 24))
          | no e ↦ ap (λ x. x / 2) (kept_octet e)
        ]

-- they stay octets
pub signals_lt : (p g : List ℕ) → ((i : ℕ) → get_or p i 0 < 256) → ((j : ℕ) → get_or g j 0 < 2)
    → (i : ℕ) → get_or (with_signals p g) i 0 < 256
signals_lt p g octets bits i =
    elim (dec_lt i (length p)) [
      | yes h ↦ omega (arith, kept_bits p g i h bits, octets i)
      | no h ↦ rw (get_or-eq_default (with_signals p g) 0 {n = i} (omega (arith, length_signals p g))) (lit< tt)
    ]

-- the octets before e with their bits replaced, the rest as they were
pub record Replacing (p g xs : List ℕ) (e : ℕ) : Type 0 where
  pub long : length xs ≡ length p
  pub done : (i : ℕ) → i < e → get_or xs i 0 ≡ signalled_octet p g i
  pub rest : (i : ℕ) → e ≤ i → get_or xs i 0 ≡ get_or p i 0

pub all_replaced : (p g xs : List ℕ) (e : ℕ) → e ≡ length p → Replacing p g xs e → xs ≡ with_signals p g
unfolding with_signals
all_replaced p g xs e ee r = sym (tab_of (length p) (signalled_octet p g) xs r.long (λ i h. sym (r.done i (omega arith))))
