-- Sets of places as numbers: what `&`, `|`, `!` and shifts leave in them, exactly, and their first place.
use Prim.Native.Nat.{ℕ, zero, suc, ◌+◌, ◌-◌, ◌*◌, ◌/◌, ◌%◌, ◌^◌, ◌<◌}
use mathlib.Core.Path.{◌≡◌, refl, sym, ap, ◌∙◌}
use mathlib.Core.List.{List}
use mathlib.Core.Logic.{◌↔◌}
use native.Mathlib.Nat.{pow-suc}
use native.Mathlib.Omega.{arith}
use lib.Bits.{bit_and, bit_or, or_lt, and_shr, and_mod, and_le_l, and_le_r}
use lib.Count.{count_leading_zeros, leading_top, leading_of_zero}
use lib.ListN.{get_or}
use lib.Pow.{high}
use Rattle.line.specs.Bit.{bit_at, field}
use Rattle.line.specs.Signal.{signal}
use Rattle.line.specs.Window.{turned, bit_of, One}
use Rattle.line.proofs.WindowLaws.{and_one, or_zero, leading_one, unturned, turned_at, bit_at_lem, zero_none}
use Rattle.t1.specs.Superframe.{framing_at}
use Rattle.t1sliced.specs.Sliced.{Exactly}
use Rattle.t1sliced.proofs.Bitwise.{or_bits, or_none, not_bit, shl_bit}
use Rattle.t1align.specs.Window.{HalfFramed}

-- what holds exactly if two facts do, with these said otherwise
both_ways : {A B C P Q : Type 0} → A ↔ B × C → B ↔ P → C ↔ Q → A ↔ P × Q
both_ways h p q = (λ a. let b = h.0 a in (p.0 b.0, q.0 b.1), λ w. h.1 (p.1 w.0, q.1 w.1))

-- `&`
one_and : (x y n : ℕ) → One (bit_and x y) n ↔ One x n × One y n
one_and x y n = (there, λ h. and_one x y n h.0 h.1)
  where
    there : One (bit_and x y) n → One x n × One y n
    there e =
        let b : bit_and (bit_of x n) (bit_of y n) ≡ 1
        = sym (ap (λ a. a % 2) (and_shr x y n) ∙ and_mod (x / 2 ^ n) (y / 2 ^ n) 1) ∙ e in
        (omega (arith, and_le_l (bit_of x n) (bit_of y n)), omega (arith, and_le_r (bit_of x n) (bit_of y n)))

-- `!` of `|`
one_neither : (x y n : ℕ) → x < 2 ^ 64 → y < 2 ^ 64 → n < 64
    → One (2 ^ 64 - 1 - bit_or x y) n ↔ (bit_of x n ≡ 0) × (bit_of y n ≡ 0)
one_neither x y n h g l =
    let e = not_bit (bit_or x y) n 64 (or_lt 64 x y h g) l in
    (λ o. or_none (bit_of x n) (bit_of y n) (sym (or_bits x y n) ∙ omega arith), λ z. omega (arith, or_zero x y n z.0 z.1))

-- a bit of the signal, number k of its half e, in the superframe at q
abbrev pub HasBit : ℕ → List ℕ → ℕ → ℕ → Type 0
HasBit e s k q = bit_at s (framing_at q (4 * (2 * k + e) + 3)) ≡ get_or signal (2 * k + e) 0

pub half_of_bits : (e : ℕ) (s : List ℕ) (q : ℕ) → HasBit e s 0 q → HasBit e s 1 q → HasBit e s 2 q → HalfFramed e s q
half_of_bits e s q a b c zero h = a
half_of_bits e s q a b c (suc zero) h = b
half_of_bits e s q a b c (suc (suc zero)) h = c
half_of_bits e s q a b c (suc (suc (suc k))) h = absurd (omega arith)

-- Eight octets as a number, not turned yet, in which the bit of place o lies d bits on.
module _ (d : ℕ) (low : d < 8) where
  -- it is b where P holds, and nowhere else
  abbrev pub Where : ℕ → (ℕ → Type 0) → ℕ → Type 0
  Where b P x = (o : ℕ) → o < 56 → (bit_of x (unturned (63 - (o + d))) ≡ b ↔ P o)

  -- the window at octet j has bit k of a half, of the superframe that is at q o for the place o
  pub where_bit : (s : List ℕ) (e k : ℕ) (q : ℕ → ℕ) (j x : ℕ)
      → ((o : ℕ) → framing_at (q o) (4 * (2 * k + e) + 3) ≡ 8 * j + (o + d)) → turned 8 x ≡ field s (8 * j) 64
      → Where (get_or signal (2 * k + e) 0) (λ o. HasBit e s k (q o)) x
  where_bit s e k q j x at window o h =
      let same : bit_of x (unturned (63 - (o + d))) ≡ bit_at s (framing_at (q o) (4 * (2 * k + e) + 3))
      = sym (turned_at x (63 - (o + d)) (omega arith)) ∙ bit_at_lem s (8 * j) (o + d) (63 - (o + d)) _ window (omega arith)
      ∙ ap (bit_at s) (sym (at o)) in
      (λ w. sym same ∙ w, λ w. same ∙ w)

  pub where_both : (P Q : ℕ → Type 0) (x y : ℕ) → Where 1 P x → Where 1 Q y → Where 1 (λ o. P o × Q o) (bit_and x y)
  where_both P Q x y h g o l = both_ways (one_and x y (unturned (63 - (o + d)))) (h o l) (g o l)

  pub where_neither : (P Q : ℕ → Type 0) (x y : ℕ) → x < 2 ^ 64 → y < 2 ^ 64 → Where 0 P x → Where 0 Q y
      → Where 1 (λ o. P o × Q o) (2 ^ 64 - 1 - bit_or x y)
  where_neither P Q x y fits fits' h g o l =
      both_ways (one_neither x y (unturned (63 - (o + d))) fits fits' (omega arith)) (h o l) (g o l)

  -- turned and moved, it is a set
  pub where_exactly : (P : ℕ → Type 0) (x : ℕ) → Where 1 P x → Exactly P (turned 8 x * 2 ^ d % 2 ^ 64)
  where_exactly P x h o l =
      let z : 63 - o - d ≡ 63 - (o + d) = omega arith in
      let same : bit_of (turned 8 x * 2 ^ d % 2 ^ 64) (63 - o) ≡ bit_of x (unturned (63 - (o + d)))
      = shl_bit (turned 8 x) d (63 - o) (omega arith) (omega arith) ∙ ap (bit_of (turned 8 x)) z
      ∙ turned_at x (63 - (o + d)) (omega arith) in
      (λ e. (h o l).0 (sym same ∙ e), λ w. same ∙ (h o l).1 w)

-- what both sets have
pub both_exactly : (P Q : ℕ → Type 0) (x y : ℕ) → Exactly P x → Exactly Q y → Exactly (λ o. P o × Q o) (bit_and x y)
both_exactly P Q x y h g o l = both_ways (one_and x y (63 - o)) (h o l) (g o l)

-- an empty set has no place
pub none_exactly : (P : ℕ → Type 0) (x : ℕ) → x ≡ 0 → Exactly P x → (o : ℕ) → o < 56 → P o → ⊥
none_exactly P x z h o l w = zero_none (63 - o) (sym (ap (λ a. bit_of a (63 - o)) z) ∙ (h o l).1 w)

-- behind the zeros in front is the first place
module _ (P : ℕ → Type 0) (x : ℕ) (few : x < 2 ^ 64) (h : Exactly P x) where
  pub none_before : (o : ℕ) → o < 56 → o < count_leading_zeros 64 x → P o → ⊥
  none_before o l g w = omega (arith, leading_one 64 x (63 - o) few ((h o l).1 w))

  pub first_has : count_leading_zeros 64 x < 56 → P (count_leading_zeros 64 x)
  first_has l = (h (count_leading_zeros 64 x) l).0 (first_one x few refl)
    where
      first_one : (y : ℕ) → y < 2 ^ 64 → y ≡ x → One x (63 - count_leading_zeros 64 x)
      first_one zero g e = absurd (omega (arith, leading_of_zero 64, ap (count_leading_zeros 64) e))
      first_one (suc y) g e =
          let t = leading_top 64 x (omega arith) few in
          let k : 63 - count_leading_zeros 64 x ≡ t.0 = omega (arith, t.1) in
          let p : 2 ^ suc t.0 ≡ 2 ^ t.0 * 2 = pow-suc 2 t.0 in
          let y : 1 * 2 ^ t.0 + (x - 2 ^ t.0) ≡ x = omega (arith, t.2) in
          let one : x / 2 ^ t.0 ≡ 1 = ap (λ a. a / 2 ^ t.0) (sym y) ∙ high 1 t.0 (omega (arith, t.2, t.3)) in
          rw (k, one)

-- a set of the places with P is one of those with Q
pub as_exactly : (P Q : ℕ → Type 0) → ((o : ℕ) → o < 56 → P o ↔ Q o) → (x : ℕ) → Exactly P x → Exactly Q x
as_exactly P Q e x h o l = (λ w. (e o l).0 ((h o l).0 w), λ w. (h o l).1 ((e o l).1 w))
