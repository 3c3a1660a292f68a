-- Remainders in six words: times a power of x, and added up.
use Prim.Native.Nat.{ℕ, zero, suc, ◌+◌, ◌-◌, ◌/◌, ◌%◌, ◌^◌, ◌<◌}
use mathlib.Core.Path.{◌≡◌, sym, ap, ap₂, ◌∙◌}
use mathlib.Core.List.{List, [], ◌∷◌}
use native.Mathlib.Decide.{dec_lt}
use native.Mathlib.Nat.{zero-div}
use native.Mathlib.Omega.{arith}
use borrow.Author.Tests.{lt-ltb, le-ltb}
use lib.Bits.{bit_xor}
use lib.Dec.{lit<}
use lib.ListN.{get_or}
use Rattle.line.specs.Window.{bit_of}
use Rattle.line.proofs.WindowLaws.{shifted_bit}
use Rattle.crc.specs.Remainder.{zeros, after}
use Rattle.t1sliced.specs.Sliced.{Sliced, Times, PlusLater, BitsLater, later}
use Rattle.t1sliced.proofs.Bitwise.{xor_bits, no_bit}
use Rattle.t1.proofs.Powers.{zeros_lt, zeros_add, zeros_32}
use Rattle.t1sliced.proofs.Powers.{times_x, zero_bits}

pub below_six : (P : ℕ → Type 0) → P 0 → P 1 → P 2 → P 3 → P 4 → P 5 → (t : ℕ) → t < 6 → P t
below_six P a b c d e f zero h = a
below_six P a b c d e f (suc zero) h = b
below_six P a b c d e f (suc (suc zero)) h = c
below_six P a b c d e f (suc (suc (suc zero))) h = d
below_six P a b c d e f (suc (suc (suc (suc zero)))) h = e
below_six P a b c d e f (suc (suc (suc (suc (suc zero))))) h = f
below_six P a b c d e f (suc (suc (suc (suc (suc (suc t)))))) h = absurd (omega arith)

-- remainders that are the same
pub sliced_same : (f g : ℕ → ℕ) (a : List ℕ) → ((o : ℕ) → o < 56 → f o ≡ g o) → Sliced f a → Sliced g a
sliced_same f g a e s o h t l = s o h t l ∙ ap (λ x. bit_of x t) (e o h)

pub times_once : (a : List ℕ)
    → Times 1 a (get_or a 5 0 ∷ bit_xor (get_or a 0 0) (get_or a 5 0) ∷ get_or a 1 0 ∷ get_or a 2 0 ∷ get_or a 3 0 ∷ get_or a 4 0 ∷ [])
unfolding after
times_once a f lt s o h t l =
    let r : List ℕ = get_or a 5 0 ∷ bit_xor (get_or a 0 0) (get_or a 5 0) ∷ get_or a 1 0 ∷ get_or a 2 0 ∷ get_or a 3 0 ∷ get_or a 4 0 ∷ [] in
    below_six (λ t. bit_of (get_or r t 0) (63 - o) ≡ get_or (times_x (f o)) t 0)
    (s o h 5 (lit< tt))
    (xor_bits (get_or a 0 0) (get_or a 5 0) (63 - o) ∙ ap₂ bit_xor (s o h 0 (lit< tt)) (s o h 5 (lit< tt)))
    (s o h 1 (lit< tt))
    (s o h 2 (lit< tt))
    (s o h 3 (lit< tt))
    (s o h 4 (lit< tt))
    t l
    ∙ sym (zero_bits (f o) (lt o) t l)

pub times_both : (m n : ℕ) (a b c : List ℕ) → Times m a b → Times n b c → Times (m + n) a c
times_both m n a b c first second f lt s =
    sliced_same _ _ c (λ o h. zeros_add m n (f o))
    (second (λ o. after 6 (f o) (zeros m)) (λ o. zeros_lt m (f o) (lt o)) (first f lt s))

-- a number of 64 bits moved down
pub bits_later : (a n : ℕ) → a < 2 ^ 64 → BitsLater n a (a / 2 ^ n)
bits_later a n fits o h =
    shifted_bit a (63 - o) n
    ∙ elim (dec_lt o n) [
      | yes l ↦ rw (lt-ltb o n l) (no_bit a 64 (63 - o + n) fits (omega arith))
      | no l ↦ let e : 63 - o + n ≡ 63 - (o - n) = omega arith in rw (le-ltb o n (omega arith)) (ap (bit_of a) e)
    ]

-- word by word, where x has those of b moved down
pub plus_words : (n : ℕ) (a b x : List ℕ) → ((t : ℕ) → t < 6 → BitsLater n (get_or b t 0) (get_or x t 0))
    → PlusLater n a b
    (bit_xor (get_or a 0 0) (get_or x 0 0)
    ∷ bit_xor (get_or a 1 0) (get_or x 1 0)
    ∷ bit_xor (get_or a 2 0) (get_or x 2 0)
    ∷ bit_xor (get_or a 3 0) (get_or x 3 0)
    ∷ bit_xor (get_or a 4 0) (get_or x 4 0)
    ∷ bit_xor (get_or a 5 0) (get_or x 5 0)
    ∷ [])
plus_words n a b x moved f g sa sb o h =
    below_six _ (word 0 (lit< tt)) (word 1 (lit< tt)) (word 2 (lit< tt)) (word 3 (lit< tt)) (word 4 (lit< tt)) (word 5 (lit< tt))
  where
    place : (t : ℕ) → t < 6 → Dec (o < n) → later n (λ o. bit_of (get_or b t 0) (63 - o)) o ≡ bit_of (later n g o) t
    place t l (yes k) = rw (lt-ltb o n k) (sym (ap (λ z. z % 2) (zero-div (2 ^ t))))
    place t l (no k) = rw (le-ltb o n (omega arith)) (sb (o - n) (omega arith) t l)

    word : (t : ℕ) → t < 6 → bit_of (bit_xor (get_or a t 0) (get_or x t 0)) (63 - o) ≡ bit_of (bit_xor (f o) (later n g o)) t
    word t l =
        xor_bits (get_or a t 0) (get_or x t 0) (63 - o) ∙ ap₂ bit_xor (sa o h t l) (moved t l o h ∙ place t l (dec_lt o n))
        ∙ sym (xor_bits (f o) (later n g o) t)

-- a and b of the same place
pub plus_here : (a b r : List ℕ) → PlusLater 0 a b r
    → (f g : ℕ → ℕ) → Sliced f a → Sliced g b → Sliced (λ o. bit_xor (f o) (g o)) r
plus_here a b r p f g sa sb =
    sliced_same _ _ r (λ o h. let z : o - 0 ≡ o = omega arith in rw (le-ltb o 0 (omega arith), z)) (p f g sa sb)

-- x^32 is x^3 + 1
pub times_32 : (a b r : List ℕ) → Times 3 a b → PlusLater 0 b a r → Times 32 a r
times_32 a b r t p f lt s =
    sliced_same _ _ r (λ o h. sym (zeros_32 (f o) (lt o)))
    (plus_here b a r p (λ o. after 6 (f o) (zeros 3)) f (t f lt s) s)
