-- The laws of blocks, over their length, their stripes and the check's width.
use Prim.Native.Nat.{ℕ, ◌+◌, ◌%◌, ◌≤◌, ◌<◌}
use mathlib.Core.Path.{◌≡◌, sym, ap, ◌∙◌}
use mathlib.Core.Logic.{◌≢◌}
use mathlib.Core.Bool.{Bool, true, false, cond}
use native.Mathlib.Decide.{ℕ_discrete, dec_lt}
use native.Mathlib.Omega.{arith}
use borrow.Author.Tests.{eq-eqb, ne_eqb}
use lib.Dec.{eqb}
use lib.ListN.{length, get_or, get_or-eq_default}
use Rattle.base.proofs.TabLaws.{length_tab, get_d_tab, tab_agree}
use Rattle.line.proofs.SpeltLaws.{Binary}
use Rattle.crc.specs.Remainder.{check, Bits}
use Rattle.crc.proofs.Laws.{tab_bits, burst_same}
use Rattle.crc.specs.Striped.{read_as, striped}

module _ (d b : ℕ) where
  pub stripe_bit : (f : ℕ → ℕ) (i : ℕ) → i % d ≡ 0 → read_as d b f i ≡ b
  unfolding read_as
  stripe_bit f i e = rw (eq-eqb (i % d) 0 e)

  pub at_data_bit : (f : ℕ → ℕ) (i : ℕ) → i % d ≢ 0 → read_as d b f i ≡ f i
  unfolding read_as
  at_data_bit f i n = rw (ne_eqb (i % d) 0 n)

  pub read_lt : b < 2 → (f : ℕ → ℕ) → Binary f → Binary (read_as d b f)
  unfolding read_as
  read_lt hb f h i = go (eqb (i % d) 0)
    where
      go : (t : Bool) → cond t b (f i) < 2
      go true = hb
      go false = h i

  module _ (n : ℕ) where
    pub striped_length : (f : ℕ → ℕ) → length (striped n d b f) ≡ n
    unfolding striped
    striped_length f = length_tab n (read_as d b f)

    pub striped_at : (f : ℕ → ℕ) (i : ℕ) → i < n → get_or (striped n d b f) i 0 ≡ read_as d b f i
    unfolding striped
    striped_at f i h = get_d_tab n (read_as d b f) i 0 h

    pub striped_past : (f : ℕ → ℕ) (i : ℕ) → n ≤ i → get_or (striped n d b f) i 0 ≡ 0
    striped_past f i h = get_or-eq_default (striped n d b f) 0 (omega (arith, striped_length f))

    pub striped_bits : b < 2 → (f : ℕ → ℕ) → Binary f → Bits (striped n d b f)
    unfolding striped
    striped_bits hb f h = tab_bits n (read_as d b f) (read_lt hb f h)

    -- where the data bits are the same, so is the block
    pub striped_agree : (f g : ℕ → ℕ) → ((i : ℕ) → i < n → i % d ≢ 0 → f i ≡ g i) → striped n d b f ≡ striped n d b g
    unfolding striped
    striped_agree f g h = tab_agree n (read_as d b f) (read_as d b g) (λ i l. go i (h i l) (ℕ_discrete (i % d) 0))
      where
        go : (i : ℕ) → (i % d ≢ 0 → f i ≡ g i) → Dec (i % d ≡ 0) → read_as d b f i ≡ read_as d b g i
        go i e (yes z) = stripe_bit f i z ∙ sym (stripe_bit g i z)
        go i e (no z) = at_data_bit f i z ∙ e z ∙ sym (at_data_bit g i z)

    -- where the block is the same, so is each data bit
    pub striped_data : (f g : ℕ → ℕ) → striped n d b f ≡ striped n d b g → (i : ℕ) → i < n → i % d ≢ 0 → f i ≡ g i
    striped_data f g e i l z =
        sym (striped_at f i l ∙ at_data_bit f i z) ∙ ap (λ k. get_or k i 0) e ∙ striped_at g i l ∙ at_data_bit g i z

    -- a bit that is the same is the same in the block
    pub striped_same : (f g : ℕ → ℕ) (i : ℕ) → f i ≡ g i → get_or (striped n d b f) i 0 ≡ get_or (striped n d b g) i 0
    unfolding read_as
    striped_same f g i q = go (dec_lt i n)
      where
        go : Dec (i < n) → get_or (striped n d b f) i 0 ≡ get_or (striped n d b g) i 0
        go (yes l) = striped_at f i l ∙ ap (cond (eqb (i % d) 0) b) q ∙ sym (striped_at g i l)
        go (no l) = striped_past f i (omega arith) ∙ sym (striped_past g i (omega arith))

    -- two blocks with one check, whose bits agree but for w places in a row, have the same data bits
    pub striped_burst : (w : ℕ) → 2 ≤ w → b < 2 → (f g : ℕ → ℕ) → Binary f → Binary g → (a : ℕ)
        → ((i : ℕ) → i < a → f i ≡ g i) → ((i : ℕ) → a + w ≤ i → f i ≡ g i)
        → check w (striped n d b f) ≡ check w (striped n d b g) → (i : ℕ) → i < n → i % d ≢ 0 → f i ≡ g i
    striped_burst w wide hb f g hf hg a before later e =
        striped_data f g
        (burst_same w wide (striped n d b f) (striped n d b g) (striped_bits hb f hf) (striped_bits hb g hg)
        (striped_length f ∙ sym (striped_length g)) a (λ i h. striped_same f g i (before i h)) (λ i h. striped_same f g i (later i h)) e)
