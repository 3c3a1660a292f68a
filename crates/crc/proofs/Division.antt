-- The check is the remainder of the division by x^w + x + 1: block times x^w = quotient times generator + check, and
-- nothing else of fewer than w digits is. A polynomial is the number whose binary digits are its coefficients, and the
-- sum of two is their exclusive or.
use mathlib.Core.Path.{◌≡◌, refl, sym, ap, ap₂, ◌∙◌, subst}
use mathlib.Core.List.{List, [], ◌∷◌, ◌++◌}
use Prim.Native.Nat.{ℕ, suc, zero, ◌+◌, ◌-◌, ◌*◌, ◌/◌, ◌%◌, ◌^◌, ◌≤◌, ◌<◌}
use native.Mathlib.Nat.{add-zero, mul-one, zero-mul, one-mul, pow-suc, div-lt_iff_lt-mul, div-eq_of_lt, mul-div_cancel, mul-le-mul_left, mod-lt}
use native.Mathlib.Omega.{arith}
use lib.Bits.{bit_xor, xor_lt, xor_shr, xor_zero_r, xor_self, xor_block, xor_shifted}
use lib.Dec.{lit<}
use lib.Pow.{pow_pos, pow_mono, split}
use Rattle.crc.specs.Polynomial.{poly, times_gen}
use Rattle.crc.specs.Remainder.{zeros, step, after, check, Bits}
use Rattle.crc.proofs.Xor.{xor_assoc, xor4, xor_eq, xor_twice}
use Rattle.crc.proofs.Laws.{zeros_bits, after_lt, check_lt, after_append, step_lt, top}

poly_append : (v : ℕ) (bs cs : List ℕ) → poly v (bs ++ cs) ≡ poly (poly v bs) cs
unfolding poly
poly_append v [] cs = refl
poly_append v (b ∷ bs) cs = poly_append (2 * v + b) bs cs

poly_zeros : (n v : ℕ) → poly v (zeros n) ≡ v * 2 ^ n
unfolding poly
poly_zeros zero v = sym (mul-one v)
poly_zeros (suc n) v =
    poly_zeros n (2 * v + 0) ∙ (let e : (2 * v + 0) * 2 ^ n ≡ v * 2 ^ suc n = rw (pow-suc 2 n) (omega arith) in e)

twice : (a b : ℕ) → 2 * bit_xor a b ≡ bit_xor (2 * a) (2 * b)
twice a b =
    sym (add-zero (2 * bit_xor a b)) ∙ xor_twice a b 0 0 (lit< tt) (lit< tt)
    ∙ ap₂ bit_xor (add-zero (2 * a)) (add-zero (2 * b))

shifted : (w a b : ℕ) → bit_xor a b * 2 ^ w ≡ bit_xor (a * 2 ^ w) (b * 2 ^ w)
shifted w a b =
    sym (add-zero (bit_xor a b * 2 ^ w)) ∙ sym (xor_block w a b 0 0 (pow_pos w) (pow_pos w))
    ∙ ap₂ bit_xor (add-zero (a * 2 ^ w)) (add-zero (b * 2 ^ w))

pub times_gen_linear : (w p q : ℕ) → times_gen w (bit_xor p q) ≡ bit_xor (times_gen w p) (times_gen w q)
unfolding times_gen
times_gen_linear w p q =
    ap₂ (λ x y. bit_xor x (bit_xor y (bit_xor p q))) (shifted w p q) (twice p q)
    ∙ ap (bit_xor (bit_xor (p * 2 ^ w) (q * 2 ^ w))) (xor4 (2 * p) (2 * q) p q)
    ∙ xor4 (p * 2 ^ w) (q * 2 ^ w) (bit_xor (2 * p) p) (bit_xor (2 * q) q)

times_gen_twice : (w q : ℕ) → 2 * times_gen w q ≡ times_gen w (2 * q)
unfolding times_gen
times_gen_twice w q =
    twice (q * 2 ^ w) (bit_xor (2 * q) q)
    ∙ ap₂ bit_xor (let e : 2 * (q * 2 ^ w) ≡ 2 * q * 2 ^ w = omega arith in e) (twice (2 * q) q)

gen_zero : (w : ℕ) → times_gen w 0 ≡ 0
unfolding times_gen
gen_zero w = ap (λ x. bit_xor x 0) (zero-mul (2 ^ w))

three : (h : ℕ) → h < 2 → bit_xor (2 * h) h ≡ 3 * h
three zero l = refl
three (suc zero) l = refl
three (suc (suc h)) l = omega arith

lt_pow : (p : ℕ) → p < 2 ^ p
lt_pow zero = lit< tt
lt_pow (suc p) = omega (arith, lt_pow p)

module _ (w : ℕ) (wide : 2 ≤ w) where
  -- one step of the division
  one_step : (q r b : ℕ) → r < 2 ^ w → b < 2
      → 2 * bit_xor (times_gen w q) r + b ≡ bit_xor (times_gen w (bit_xor (2 * q) ((2 * r + b) / 2 ^ w))) (step w r b)
  unfolding step
  one_step q r b hr hb =
      let t : ℕ = 2 * r + b in
      let h : ℕ = t / 2 ^ w in
      let low : ℕ = t % 2 ^ w in
      let gen-h : times_gen w h ≡ bit_xor (h * 2 ^ w) (3 * h) = unfold times_gen in ap (bit_xor (h * 2 ^ w)) (three h (top w wide r b hr hb)) in
      let parts : bit_xor (times_gen w h) (bit_xor low (3 * h)) ≡ t
      = ap (λ x. bit_xor x (bit_xor low (3 * h))) gen-h ∙ xor4 (h * 2 ^ w) (3 * h) low (3 * h)
      ∙ ap (bit_xor (bit_xor (h * 2 ^ w) low)) (xor_self (3 * h)) ∙ xor_zero_r (bit_xor (h * 2 ^ w) low)
      ∙ xor_shifted h w low (mod-lt t (pow_pos w)) ∙ split t w in
      xor_twice (times_gen w q) r 0 b (lit< tt) hb
      ∙ ap₂ bit_xor (add-zero (2 * times_gen w q) ∙ times_gen_twice w q) (sym parts)
      ∙ sym (xor_assoc (times_gen w (2 * q)) (times_gen w h) (bit_xor low (3 * h)))
      ∙ ap (λ x. bit_xor x (bit_xor low (3 * h))) (sym (times_gen_linear w (2 * q) h))

  -- a step, as long division writes it: where x^w comes out, take the generator away
  pub step_divides : (r b : ℕ) → r < 2 ^ w → b < 2 → step w r b ≡ bit_xor (2 * r + b) ((2 * r + b) / 2 ^ w * (2 ^ w + 3))
  unfolding step
  step_divides r b hr hb =
      let t : ℕ = 2 * r + b in
      let h : ℕ = t / 2 ^ w in
      let hh : h < 2 = top w wide r b hr hb in
      let g : h * (2 ^ w + 3) ≡ h * 2 ^ w + 3 * h = omega arith in
      let four : 4 ≤ 2 ^ w = pow_mono wide in
      sym (ap₂ bit_xor (sym (split t w)) g ∙ xor_block w h h (t % 2 ^ w) (3 * h) (mod-lt t (pow_pos w)) (omega arith)
      ∙ ap (λ x. x * 2 ^ w + bit_xor (t % 2 ^ w) (3 * h)) (xor_self h)
      ∙ (let k : 0 * 2 ^ w + bit_xor (t % 2 ^ w) (3 * h) ≡ bit_xor (t % 2 ^ w) (3 * h) = omega arith in k))

  divided : (q r : ℕ) (bs : List ℕ) → r < 2 ^ w → Bits bs
      → (p : ℕ) × (poly (bit_xor (times_gen w q) r) bs ≡ bit_xor (times_gen w p) (after w r bs))
  unfolding poly after
  divided q r [] hr hb = (q, refl)
  divided q r (b ∷ bs) hr hb =
      let (p, e) = divided (bit_xor (2 * q) ((2 * r + b) / 2 ^ w)) (step w r b) bs (step_lt w wide r b hr (hb 0)) (λ i. hb (suc i)) in
      (p, ap (λ x. poly x bs) (one_step q r b hr (hb 0)) ∙ e)

  -- block times x^w = quotient times generator + check
  pub check_divides : (bs : List ℕ) → Bits bs → (q : ℕ) × (poly 0 bs * 2 ^ w ≡ bit_xor (times_gen w q) (check w bs))
  unfolding check
  check_divides bs hb =
      let (p, e) = divided 0 0 bs (pow_pos w) hb in
      let (q, f) = divided p (after w 0 bs) (zeros w) (after_lt w wide 0 bs (pow_pos w) hb) (zeros_bits w) in (
        q,
        sym (poly_zeros w (poly 0 bs))
            ∙ ap (λ x. poly x (zeros w)) (ap (λ x. poly (bit_xor x 0) bs) (sym (gen_zero w)) ∙ e) ∙ f
            ∙ ap (bit_xor (times_gen w q)) (sym (after_append w 0 bs (zeros w))),
      )

  small : (k p : ℕ) → p < 2 ^ k → times_gen w p < 2 ^ w → p ≡ 0
  unfolding times_gen
  small zero p h g = omega arith
  small (suc k) p h g =
      let t : ℕ = bit_xor (2 * p) p in
      let up : times_gen w p / 2 ^ w ≡ bit_xor p (t / 2 ^ w)
      = xor_shr (p * 2 ^ w) t w ∙ ap (λ x. bit_xor x (t / 2 ^ w)) (mul-div_cancel p (pow_pos w)) in
      let e : p ≡ t / 2 ^ w = xor_eq p (t / 2 ^ w) (sym up ∙ div-eq_of_lt g) in
      let ht : t < 2 ^ suc (suc k) = xor_lt (suc (suc k)) (2 * p) p (omega arith) (omega arith) in
      let four : 4 ≤ 2 ^ w = pow_mono wide in
      let hp : t / 2 ^ w < 2 ^ k = (div-lt_iff_lt-mul (pow_pos w)).1 (omega (arith, mul-le-mul_left (2 ^ k) four)) in
      small k p (omega arith) g

  pub remainder_unique : (p q r s : ℕ) → r < 2 ^ w → s < 2 ^ w → bit_xor (times_gen w p) r ≡ bit_xor (times_gen w q) s
      → r ≡ s
  remainder_unique p q r s hr hs e =
      let gd : times_gen w (bit_xor p q) ≡ bit_xor r s
      = times_gen_linear w p q
      ∙ xor_eq (bit_xor (times_gen w p) (times_gen w q)) (bit_xor r s)
      (xor4 (times_gen w p) (times_gen w q) r s ∙ ap (λ x. bit_xor x (bit_xor (times_gen w q) s)) e ∙ xor_self (bit_xor (times_gen w q) s)) in
      let none : bit_xor p q ≡ 0 = small (bit_xor p q) (bit_xor p q) (lt_pow (bit_xor p q)) (subst (λ x. x < 2 ^ w) (sym gd) (xor_lt w r s hr hs)) in
      xor_eq r s (sym gd ∙ ap (times_gen w) none ∙ gen_zero w)

  pub check_unique : (bs : List ℕ) (q r : ℕ) → Bits bs → r < 2 ^ w → poly 0 bs * 2 ^ w ≡ bit_xor (times_gen w q) r
      → r ≡ check w bs
  check_unique bs q r hb hr e =
      remainder_unique q (check_divides bs hb).0 r (check w bs) hr (check_lt w wide bs hb) (sym e ∙ (check_divides bs hb).1)

-- ---- the same by the general product, coefficient by coefficient

-- acc x^n + p q, for the n coefficients of p, the highest first
unfoldable pub product : ℕ → ℕ → List ℕ → ℕ
product q acc [] = acc
product q acc (b ∷ bs) = product q (bit_xor (2 * acc) (b * q)) bs

-- x^w + x + 1: 10011 for w 4, 1000011 for w 6
unfoldable pub generator : ℕ → List ℕ
generator w = 1 ∷ (zeros (w - 2) ++ 1 ∷ 1 ∷ [])

product_zeros : (q acc n : ℕ) (bs : List ℕ) → product q acc (zeros n ++ bs) ≡ product q (acc * 2 ^ n) bs
unfolding product
product_zeros q acc zero bs = ap (λ x. product q x bs) (sym (mul-one acc))
product_zeros q acc (suc n) bs =
    let e : 2 * acc * 2 ^ n ≡ acc * 2 ^ suc n = rw (pow-suc 2 n) (omega arith) in
    ap (λ x. product q x (zeros n ++ bs)) (ap (bit_xor (2 * acc)) (zero-mul q) ∙ xor_zero_r (2 * acc))
    ∙ product_zeros q (2 * acc) n bs ∙ ap (λ x. product q x bs) e

pub product_generator : (w q : ℕ) → 2 ≤ w → product q 0 (generator w) ≡ times_gen w q
unfolding product generator times_gen
product_generator w q wide =
    let v : suc (suc (w - 2)) ≡ w = omega arith in
    let up : 2 * (2 * (q * 2 ^ (w - 2))) ≡ q * 2 ^ w
    = (let k : 2 * (2 * (q * 2 ^ (w - 2))) ≡ q * (2 * (2 * 2 ^ (w - 2))) = omega arith in k)
    ∙ ap (λ x. q * x) (let k : 2 * (2 * 2 ^ (w - 2)) ≡ 2 ^ suc (suc (w - 2)) = omega arith in k) ∙ ap (λ x. q * 2 ^ x) v in
    ap (λ x. product q x (zeros (w - 2) ++ 1 ∷ 1 ∷ [])) (one-mul q)
    ∙ product_zeros q q (w - 2) (1 ∷ 1 ∷ [])
    ∙ ap (λ x. bit_xor (2 * bit_xor (2 * (q * 2 ^ (w - 2))) x) x) (one-mul q)
    ∙ ap (λ x. bit_xor x q) (twice (2 * (q * 2 ^ (w - 2))) q)
    ∙ xor_assoc (2 * (2 * (q * 2 ^ (w - 2)))) (2 * q) q ∙ ap (λ x. bit_xor x (bit_xor (2 * q) q)) up

generator_4 : generator 4 ≡ 1 ∷ 0 ∷ 0 ∷ 1 ∷ 1 ∷ []
unfolding generator
generator_4 = refl
