-- The laws of bits and fields, and of an octet taken by shifts and masks.
use Prim.Native.Nat.{ℕ, zero, suc, ◌+◌, ◌-◌, ◌*◌, ◌/◌, ◌%◌, ◌^◌, ◌<◌}
use mathlib.Core.Path.{◌≡◌, refl, sym, ◌∙◌, ap}
use mathlib.Core.List.{List}
use native.Mathlib.Nat.{add-zero, add_assoc, mod-one, mul-mod_left}
use native.Mathlib.Numerals.{add-one}
use native.Mathlib.Omega.{arith}
use lib.Bits.{bit_and, bit_or, and_mask, or_shifted}
use lib.ListN.{length, get_or}
use lib.Seq.{ext_get_or}
use lib.Pow.{high, low, shr-shr, mod-pow-add, shl-shr, shr_mod, shr_lt}
use Rattle.base.specs.Tab.{tab}
use Rattle.base.proofs.TabLaws.{tab_agree}
use Rattle.line.specs.Spelt.{spelt, digit}
use Rattle.line.specs.Bit.{bit_at, field, octet_at, octet_bits}
use Rattle.line.proofs.SpeltLaws.{spelt_add, spelt_agree, spelt_lt, spelt_same, digit_spelt}

pub bit_lt : (s : List ℕ) (p : ℕ) → bit_at s p < 2
unfolding bit_at
bit_lt s p = omega arith

pub field_lt : (s : List ℕ) (p n : ℕ) → field s p n < 2 ^ n
unfolding field
field_lt s p n = spelt_lt n (λ i. bit_at s (p + i)) (λ i. bit_lt s (p + i))

-- n + m bits: the first n, and then m
pub field_add : (s : List ℕ) (p n m : ℕ) → field s p (n + m) ≡ field s p n * 2 ^ m + field s (p + n) m
unfolding field
field_add s p n m =
    spelt_add n m (λ i. bit_at s (p + i))
    ∙ ap (λ x. field s p n * 2 ^ m + x)
    (spelt_agree m (λ i. bit_at s (p + (n + i))) (λ i. bit_at s (p + n + i)) (λ i l. ap (bit_at s) (sym (add_assoc p n i))))

-- the bit o of the octet q
pub bit_in : (s : List ℕ) (q o : ℕ) → o < 8 → bit_at s (8 * q + o) ≡ get_or s q 0 / 2 ^ (7 - o) % 2
unfolding bit_at
bit_in s q o h =
    let a : (8 * q + o) / 8 ≡ q = omega arith in
    let b : (8 * q + o) % 8 ≡ o = omega arith in
    rw (a, b)

-- n bits within the octet q, of which m follow
pub field_in : (s : List ℕ) (q o n m : ℕ) → o + n + m ≡ 8 → field s (8 * q + o) n ≡ get_or s q 0 / 2 ^ m % 2 ^ n
unfolding field spelt
field_in s q o zero m h = sym (mod-one _)
field_in s q o (suc n) m h =
    let e : 7 - (o + n) ≡ m = omega arith in
    rw (
      field_in s q o n (suc m) (omega arith),
      add_assoc (8 * q) o n,
      bit_in s q (o + n) (omega arith),
      e,
      ← add-one m,
      ← add-one n,
      mod-pow-add (get_or s q 0 / 2 ^ m) n 1,
      shr-shr (get_or s q 0) m 1,
    )
    (omega arith)

-- an octet at place o of the octet q: the low bits of q, and the high bits of the next
pub octet_two : (s : List ℕ) (q o k : ℕ) → o + k ≡ 8 → get_or s (q + 1) 0 < 2 ^ 8
    → octet_at s (8 * q + o) ≡ get_or s q 0 % 2 ^ k * 2 ^ o + get_or s (q + 1) 0 / 2 ^ k
octet_two s q o k e h =
    let z : k + o ≡ 8 = omega arith in
    let next : 8 * q + o + k ≡ 8 * (q + 1) + 0 = omega arith in
    let whole : get_or s q 0 / 2 ^ 0 ≡ get_or s q 0 = omega arith in
    let add : field s (8 * q + o) (k + o) ≡ field s (8 * q + o) k * 2 ^ o + field s (8 * q + o + k) o = field_add s (8 * q + o) k o in
    let lt : get_or s (q + 1) 0 < 2 ^ (o + k) = rw e h in
    ap (field s (8 * q + o)) (sym z) ∙ add
    ∙ rw (next, field_in s q o k 0 (omega arith), field_in s (q + 1) 0 o k (omega arith), whole, shr_mod o k lt)

-- the low bits of x and the high bits of y as one word of k + o bits, by shifts
pub shifts_join : (x y k o : ℕ) → y < 2 ^ (o + k) → bit_or (x * 2 ^ o % 2 ^ (k + o)) (y / 2 ^ k) ≡ x % 2 ^ k * 2 ^ o + y / 2 ^ k
shifts_join x y k o h =
    let low : x * 2 ^ o % 2 ^ (k + o) ≡ x % 2 ^ k * 2 ^ o = mod-pow-add (x * 2 ^ o) k o ∙ rw (shl-shr x o, mul-mod_left x (2 ^ o)) (add-zero _) in
    rw low (or_shifted (x % 2 ^ k) o (y / 2 ^ k) (shr_lt o k h))

-- the same by shifts of octets
pub octet_shifts : (s : List ℕ) (q o k : ℕ) → o + k ≡ 8 → get_or s (q + 1) 0 < 2 ^ 8
    → bit_or (get_or s q 0 * 2 ^ o % 256) (get_or s (q + 1) 0 / 2 ^ k) ≡ octet_at s (8 * q + o)
octet_shifts s q o k e h =
    let z : k + o ≡ 8 = omega arith in
    let lt : get_or s (q + 1) 0 < 2 ^ (o + k) = rw e h in
    ap (λ n. bit_or (get_or s q 0 * 2 ^ o % 2 ^ n) (get_or s (q + 1) 0 / 2 ^ k)) (sym z)
    ∙ shifts_join (get_or s q 0) (get_or s (q + 1) 0) k o lt ∙ sym (octet_two s q o k e h)

-- an octet that lies in one
pub octet_one : (s : List ℕ) (q o : ℕ) → o ≡ 0 → get_or s q 0 < 2 ^ 8 → get_or s q 0 ≡ octet_at s (8 * q + o)
octet_one s q o z h = rw z (omega (arith, field_in s q 0 8 0 refl))

-- a place is a bit of an octet
pub place_in : (p : ℕ) → 8 * (p / 8) + bit_and p 7 ≡ p
place_in p = omega (arith, and_mask p 3)

-- the last seven bits of an octet
pub word_of : (s : List ℕ) (p : ℕ) → bit_and (octet_at s p) 127 ≡ field s (p + 1) 7
unfolding field spelt
word_of s p = and_mask (octet_at s p) 7 ∙ omega (arith, field_add s p 1 7, field_lt s (p + 1) 7)

-- of a + n + m bits the n that have m behind them
pub field_within : (s : List ℕ) (p a n m : ℕ) → field s p (a + n + m) / 2 ^ m % 2 ^ n ≡ field s (p + a) n
field_within s p a n m =
    rw (field_add s p (a + n) m, high (field s p (a + n)) m (field_lt s (p + (a + n)) m), field_add s p a n)
    (low (field s p a) n (field_lt s (p + a) n))

-- one bit of a field
pub bit_of_field : (s : List ℕ) (p n m : ℕ) → field s p (n + 1 + m) / 2 ^ m % 2 ≡ bit_at s (p + n)
unfolding field spelt
bit_of_field s p n m = field_within s p n 1 m ∙ rw add-zero (omega arith)

-- the digits of a field are its bits
pub field_digits : (s : List ℕ) (p n : ℕ) → tab n (digit n (field s p n)) ≡ tab n (λ i. bit_at s (p + i))
unfolding field
field_digits s p n =
    tab_agree n (digit n (field s p n)) (λ i. bit_at s (p + i))
    (λ i h. digit_spelt n i (λ i. bit_at s (p + i)) (λ i. bit_lt s (p + i)) h)

pub octet_bits_lem : (s : List ℕ) (p : ℕ) → octet_bits (octet_at s p) ≡ tab 8 (λ i. bit_at s (p + i))
unfolding octet_bits
octet_bits_lem s p = field_digits s p 8

-- equal fields have equal bits
pub field_same : (s t : List ℕ) (p n : ℕ) → field s p n ≡ field t p n
    → (i : ℕ) → i < n → bit_at s (p + i) ≡ bit_at t (p + i)
unfolding field
field_same s t p n e =
    spelt_same n (λ i. bit_at s (p + i)) (λ i. bit_at t (p + i)) (λ i. bit_lt s (p + i)) (λ i. bit_lt t (p + i)) e

-- an octet is what its bits spell
octet_field : (s : List ℕ) (q : ℕ) → get_or s q 0 < 256 → get_or s q 0 ≡ field s (8 * q) 8
octet_field s q h =
    let z : 8 * q + 0 ≡ 8 * q = omega arith in
    let e : field s (8 * q + 0) 8 ≡ get_or s q 0 / 2 ^ 0 % 2 ^ 8 = field_in s q 0 8 0 refl in
    let w : get_or s q 0 ≡ field s (8 * q + 0) 8 = omega arith in
    w ∙ ap (λ p. field s p 8) z

-- images of octets with equal bits are equal
pub image_same : (s t : List ℕ) → ((i : ℕ) → get_or s i 0 < 256) → ((i : ℕ) → get_or t i 0 < 256)
    → length s ≡ length t → ((i : ℕ) → i < 8 * length s → bit_at s i ≡ bit_at t i) → s ≡ t
unfolding field
image_same s t hs ht e same =
    ext_get_or 0 s t e
    (λ q l. octet_field s q (hs q)
    ∙ spelt_agree 8 (λ j. bit_at s (8 * q + j)) (λ j. bit_at t (8 * q + j)) (λ j k. same (8 * q + j) (omega arith))
    ∙ sym (octet_field t q (ht q)))
