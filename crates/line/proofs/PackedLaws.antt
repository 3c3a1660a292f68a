-- The laws of octets that are packed from bits.
use Prim.Native.Nat.{ℕ, ◌+◌, ◌-◌, ◌*◌, ◌/◌, ◌%◌, ◌^◌, ◌<◌}
use mathlib.Core.Path.{◌≡◌, sym, ap, ap₂, ◌∙◌}
use mathlib.Core.List.{◌++◌}
use native.Mathlib.Omega.{arith}
use lib.ListN.{length}
use lib.Pow.{high, low}
use Rattle.base.specs.Tab.{tab}
use Rattle.base.proofs.TabLaws.{length_tab, get_d_tab, tab_split, tab_agree}
use Rattle.line.specs.Spelt.{spelt, packed, spelt_octet}
use Rattle.line.specs.Bit.{bit_at}
use Rattle.line.proofs.SpeltLaws.{Binary, spelt_add, spelt_agree, spelt_lt, digit_spelt}
use Rattle.line.proofs.BitLaws.{bit_in}
use Rattle.line.proofs.WindowLaws.{pow_256}

pub length_packed : (n : ℕ) (f : ℕ → ℕ) → length (packed n f) ≡ n
unfolding packed
length_packed n f = length_tab n (λ i. spelt 8 (λ j. f (8 * i + j)))

-- their bits are those that they were packed from
pub bit_packed : (n : ℕ) (f : ℕ → ℕ) → Binary f → (p : ℕ) → p < 8 * n → bit_at (packed n f) p ≡ f p
unfolding packed
bit_packed n f h p l =
    let q : ℕ = p / 8 in
    let o : ℕ = p % 8 in
    let e : 8 * q + o ≡ p = omega arith in
    ap (bit_at (packed n f)) (sym e) ∙ bit_in (packed n f) q o (omega arith)
    ∙ ap (λ x. x / 2 ^ (7 - o) % 2) (get_d_tab n (λ i. spelt 8 (λ j. f (8 * i + j))) q 0 (omega arith))
    ∙ digit_spelt 8 o (λ j. f (8 * q + j)) (λ j. h (8 * q + j)) (omega arith) ∙ ap f e

-- the same bits pack to the same octets
pub packed_agree : (n : ℕ) (f g : ℕ → ℕ) → ((i : ℕ) → i < 8 * n → f i ≡ g i) → packed n f ≡ packed n g
unfolding packed
packed_agree n f g h =
    tab_agree n (λ i. spelt 8 (λ j. f (8 * i + j))) (λ i. spelt 8 (λ j. g (8 * i + j)))
    (λ i l. spelt_agree 8 (λ j. f (8 * i + j)) (λ j. g (8 * i + j)) (λ j k. h (8 * i + j) (omega arith)))

-- n octets, and m more
pub packed_add : (n m : ℕ) (f : ℕ → ℕ) → packed (n + m) f ≡ packed n f ++ packed m (λ i. f (8 * n + i))
unfolding packed
packed_add n m f =
    tab_split n m (λ i. spelt 8 (λ j. f (8 * i + j)))
    ∙ ap (λ l. packed n f ++ l)
    (tab_agree m (λ i. spelt 8 (λ j. f (8 * (n + i) + j))) (λ i. spelt 8 (λ j. f (8 * n + (8 * i + j))))
    (λ i l. spelt_agree 8 (λ j. f (8 * (n + i) + j)) (λ j. f (8 * n + (8 * i + j))) (λ j k. ap f (omega arith))))

-- of a + n + m bits the n that have m behind them
spelt_within : (a n m : ℕ) (f : ℕ → ℕ) → Binary f → spelt (a + n + m) f / 2 ^ m % 2 ^ n ≡ spelt n (λ i. f (a + i))
spelt_within a n m f h =
    rw (spelt_add (a + n) m f, high (spelt (a + n) f) m (spelt_lt m (λ i. f (a + n + i)) (λ i. h (a + n + i))), spelt_add a n f)
    (low (spelt a f) n (spelt_lt n (λ i. f (a + i)) (λ i. h (a + i))))

-- the eight octets that spell a number are packed from the bits that spell it
pub octets_packed : (f : ℕ → ℕ) → Binary f → tab 8 (spelt_octet (spelt 64 f)) ≡ packed 8 f
unfolding packed
octets_packed f h =
    tab_agree 8 (spelt_octet (spelt 64 f)) (λ j. spelt 8 (λ i. f (8 * j + i)))
    (λ j l.
    let e : 8 * j + 8 + 8 * (7 - j) ≡ 64 = omega arith in
    ap₂ (λ x y. x / y % 256) (ap (λ n. spelt n f) (sym e)) (pow_256 (7 - j)) ∙ spelt_within (8 * j) 8 (8 * (7 - j)) f h)
