-- The laws of the check, over its width w from 2 on: remainders stay below 2^w, the check is linear in the bits, it
-- sees every burst of at most w bits, and no hits near a block's end look like one on the first bit of the check that
-- follows.
use mathlib.Core.Path.{◌≡◌, refl, sym, ap, ap₂, ◌∙◌, subst}
use mathlib.Core.Logic.{◌≢◌, ◌↔◌}
use mathlib.Core.List.{List, [], ◌∷◌, ◌++◌}
use Prim.Native.Nat.{ℕ, suc, zero, ◌+◌, ◌-◌, ◌*◌, ◌/◌, ◌%◌, ◌^◌, ◌≤◌, ◌<◌, zero-le, suc-le-suc}
use native.Mathlib.Nat.{mod-lt, div-lt_iff_lt-mul, mod-eq_of_lt, div-eq_of_lt, suc_inj, suc-ne-zero, le_dest, zero-lt-suc, zero-add, add-zero, mul-one, pow-suc, le-mul_of_pos_right, le_of_eq, one-mul}
use lib.Dec.{lit<}
use native.Mathlib.Decide.{ℕ_discrete, dec_lt}
use lib.Seq.{ext_get_or, get_or-append_seam}
use native.Mathlib.Omega.{arith}
use lib.Bits.{bit_xor, xor_lt, xor_shr, xor_mod, xor_zero_r, xor_self}
use lib.ListN.{length, get_or, length-append, get_or-append, get_or-eq_default}
use lib.Pow.{pow_pos, pow_mono, pow-add, pow-lt, split}
use Rattle.base.specs.Tab.{tab}
use Rattle.base.proofs.TabLaws.{length_tab, get_d_tab}
use Rattle.line.proofs.SpeltLaws.{Binary}
use Rattle.crc.specs.Remainder.{Bits, zeros, step, after, check}
use Rattle.crc.proofs.Xor.{xor4, xor_eq, xor_twice, xor_three, xor_bit, xor_differ}

-- the sum of two polynomials
unfoldable pub plus : List ℕ → List ℕ → List ℕ
plus [] cs = []
plus (b ∷ bs) [] = []
plus (b ∷ bs) (c ∷ cs) = bit_xor b c ∷ plus bs cs

pub after_append : (w r : ℕ) (bs cs : List ℕ) → after w r (bs ++ cs) ≡ after w (after w r bs) cs
unfolding after
after_append w r [] cs = refl
after_append w r (b ∷ bs) cs = after_append w (step w r b) bs cs

plus_zeros : (n : ℕ) → plus (zeros n) (zeros n) ≡ zeros n
unfolding plus
plus_zeros zero = refl
plus_zeros (suc n) = ap (λ (l : List ℕ). 0 ∷ l) (plus_zeros n)

pub zeros_zero : (n i : ℕ) → get_or (zeros n) i 0 ≡ 0
zeros_zero zero i = refl
zeros_zero (suc n) zero = refl
zeros_zero (suc n) (suc i) = zeros_zero n i

pub zeros_bits : (n : ℕ) → Bits (zeros n)
zeros_bits n i = omega (arith, zeros_zero n i)

pub tab_bits : (n : ℕ) (f : ℕ → ℕ) → Binary f → Bits (tab n f)
tab_bits n f h i = go (dec_lt i n)
  where
    go : Dec (i < n) → get_or (tab n f) i 0 < 2
    go (yes l) = subst (λ x. x < 2) (sym (get_d_tab n f i 0 l)) (h i)
    go (no l) =
        let past : get_or (tab n f) i 0 ≡ 0 = get_or-eq_default (tab n f) 0 (omega (arith, length_tab n f)) in omega arith

cons_zero : (b : ℕ) (bs : List ℕ) → b ≡ 0 → ((i : ℕ) → get_or bs i 0 ≡ 0) → (i : ℕ) → get_or (b ∷ bs) i 0 ≡ 0
cons_zero b bs e h zero = e
cons_zero b bs e h (suc i) = h i

get_d_plus : (bs cs : List ℕ) → length bs ≡ length cs → (i : ℕ)
    → get_or (plus bs cs) i 0 ≡ bit_xor (get_or bs i 0) (get_or cs i 0)
unfolding plus
get_d_plus [] [] l i = refl
get_d_plus [] (c ∷ cs) l i = absurd (suc-ne-zero (length cs) (sym l))
get_d_plus (b ∷ bs) [] l i = absurd (suc-ne-zero (length bs) l)
get_d_plus (b ∷ bs) (c ∷ cs) l zero = refl
get_d_plus (b ∷ bs) (c ∷ cs) l (suc i) = get_d_plus bs cs (suc_inj l) i

pub length_plus : (bs cs : List ℕ) → length bs ≡ length cs → length (plus bs cs) ≡ length bs
unfolding plus
length_plus [] cs l = refl
length_plus (b ∷ bs) [] l = sym l
length_plus (b ∷ bs) (c ∷ cs) l = ap suc (length_plus bs cs (suc_inj l))

snoc_bits : (d : List ℕ) → Bits d → Bits (d ++ 1 ∷ [])
snoc_bits [] h zero = lit< tt
snoc_bits [] h (suc i) = lit< tt
snoc_bits (x ∷ xs) h zero = h 0
snoc_bits (x ∷ xs) h (suc i) = snoc_bits xs (λ k. h (suc k)) i

pub same : (x y : ℕ) → ¬ (x ≢ y) → x ≡ y
same x y h = go (ℕ_discrete x y)
  where
    go : Dec (x ≡ y) → x ≡ y
    go (yes e) = e
    go (no n) = absurd (h n)

module _ (w : ℕ) (wide : 2 ≤ w) where
  four : 4 ≤ 2 ^ w
  four = pow_mono wide

  -- what comes out at the top is a bit
  pub top : (r b : ℕ) → r < 2 ^ w → b < 2 → (2 * r + b) / 2 ^ w < 2
  top r b hr hb = (div-lt_iff_lt-mul (pow_pos w)).1 (omega arith)

  pub step_lt : (r b : ℕ) → r < 2 ^ w → b < 2 → step w r b < 2 ^ w
  unfolding step
  step_lt r b hr hb =
      xor_lt w ((2 * r + b) % 2 ^ w) (3 * ((2 * r + b) / 2 ^ w)) (mod-lt (2 * r + b) (pow_pos w))
      (omega (arith, top r b hr hb, four))

  pub step_linear : (r s b c : ℕ) → r < 2 ^ w → s < 2 ^ w → b < 2 → c < 2
      → step w (bit_xor r s) (bit_xor b c) ≡ bit_xor (step w r b) (step w s c)
  unfolding step
  step_linear r s b c hr hs hb hc =
      rw (xor_twice r s b c hb hc, xor_mod (2 * r + b) (2 * s + c) w, xor_shr (2 * r + b) (2 * s + c) w)
      (ap (bit_xor (bit_xor ((2 * r + b) % 2 ^ w) ((2 * s + c) % 2 ^ w)))
      (xor_three ((2 * r + b) / 2 ^ w) ((2 * s + c) / 2 ^ w) (top r b hr hb) (top s c hs hc))
      ∙ xor4 ((2 * r + b) % 2 ^ w) ((2 * s + c) % 2 ^ w) (3 * ((2 * r + b) / 2 ^ w)) (3 * ((2 * s + c) / 2 ^ w)))

  pub after_lt : (r : ℕ) (bs : List ℕ) → r < 2 ^ w → Bits bs → after w r bs < 2 ^ w
  unfolding after
  after_lt r [] hr hb = hr
  after_lt r (b ∷ bs) hr hb = after_lt (step w r b) bs (step_lt r b hr (hb 0)) (λ i. hb (suc i))

  pub after_linear : (r s : ℕ) (bs cs : List ℕ) → r < 2 ^ w → s < 2 ^ w → Bits bs → Bits cs → length bs ≡ length cs
      → after w (bit_xor r s) (plus bs cs) ≡ bit_xor (after w r bs) (after w s cs)
  unfolding after plus
  after_linear r s [] [] hr hs hb hc e = refl
  after_linear r s [] (c ∷ cs) hr hs hb hc e = absurd (suc-ne-zero (length cs) (sym e))
  after_linear r s (b ∷ bs) [] hr hs hb hc e = absurd (suc-ne-zero (length bs) e)
  after_linear r s (b ∷ bs) (c ∷ cs) hr hs hb hc e =
      ap (λ x. after w x (plus bs cs)) (step_linear r s b c hr hs (hb 0) (hc 0))
      ∙ after_linear (step w r b) (step w s c) bs cs (step_lt r b hr (hb 0)) (step_lt s c hs (hc 0)) (λ i. hb (suc i))
      (λ i. hc (suc i)) (suc_inj e)

  pub zeros_linear : (n r s : ℕ) → r < 2 ^ w → s < 2 ^ w
      → after w (bit_xor r s) (zeros n) ≡ bit_xor (after w r (zeros n)) (after w s (zeros n))
  zeros_linear n r s hr hs =
      ap (after w (bit_xor r s)) (sym (plus_zeros n))
      ∙ after_linear r s (zeros n) (zeros n) hr hs (zeros_bits n) (zeros_bits n) refl

  pub check_linear : (bs cs : List ℕ) → Bits bs → Bits cs → length bs ≡ length cs
      → check w (plus bs cs) ≡ bit_xor (check w bs) (check w cs)
  unfolding check
  check_linear bs cs hb hc e =
      after_append w 0 (plus bs cs) (zeros w)
      ∙ ap (λ x. after w x (zeros w)) (after_linear 0 0 bs cs (pow_pos w) (pow_pos w) hb hc e)
      ∙ zeros_linear w (after w 0 bs) (after w 0 cs) (after_lt 0 bs (pow_pos w) hb) (after_lt 0 cs (pow_pos w) hc)
      ∙ sym (ap₂ bit_xor (after_append w 0 bs (zeros w)) (after_append w 0 cs (zeros w)))

  pub check_lt : (bs : List ℕ) → Bits bs → check w bs < 2 ^ w
  unfolding check
  check_lt bs hb =
      rw (after_append w 0 bs (zeros w))
      (after_lt (after w 0 bs) (zeros w) (after_lt 0 bs (pow_pos w) hb) (zeros_bits w))

  -- no bit comes out: the register only shifts
  pub step_shift : (r b : ℕ) → 2 * r + b < 2 ^ w → step w r b ≡ 2 * r + b
  unfolding step
  step_shift r b h = rw (mod-eq_of_lt h, div-eq_of_lt h) (xor_zero_r (2 * r + b))

  pub step_zero : step w 0 0 ≡ 0
  step_zero = step_shift 0 0 (pow_pos w)

  even : (m : ℕ) × (2 ^ w ≡ 2 * m)
  even = let (k, e) = le_dest wide in (2 * 2 ^ k, ap (λ x. 2 ^ x) (sym e) ∙ pow-add 2 2 k ∙ omega arith)

  -- x divides no multiple of the generator but x times one: no register but 0 goes to 0
  pub step_zero_injective : (r : ℕ) → r < 2 ^ w → step w r 0 ≡ 0 → r ≡ 0
  unfolding step
  step_zero_injective r hr e =
      go ((2 * r + 0) / 2 ^ w) (top r 0 hr (zero-lt-suc 1)) (split (2 * r + 0) w) (xor_eq ((2 * r + 0) % 2 ^ w) (3 * ((2 * r + 0) / 2 ^ w)) e)
    where
      go : (h : ℕ) → h < 2 → h * 2 ^ w + (2 * r + 0) % 2 ^ w ≡ 2 * r + 0 → (2 * r + 0) % 2 ^ w ≡ 3 * h → r ≡ 0
      go zero hh s l = omega arith
      go (suc zero) hh s l = let (m, p) = even in omega arith
      go (suc (suc h)) hh s l = omega arith

  -- A register of k digits, then n = w - k bits, then zeros: nothing comes out while the bits come in, and no zero that
  -- follows takes a register to 0.
  held : (n k r : ℕ) (d : List ℕ) → k + n ≡ w → r < 2 ^ k → Bits d → ((i : ℕ) → n ≤ i → get_or d i 0 ≡ 0)
      → after w r d ≡ 0
      → (r ≡ 0) × ((i : ℕ) → get_or d i 0 ≡ 0)
  unfolding after
  held n k r [] e hr hd z a = (a, λ i. refl)
  held zero k r (b ∷ bs) e hr hd z a =
      let kw : k ≡ w = omega arith in
      let hr' : r < 2 ^ w = subst (λ x. r < 2 ^ x) kw hr in
      let hs : step w r b < 2 ^ k = subst (λ x. step w r b < 2 ^ x) (sym kw) (step_lt r b hr' (hd 0)) in
      let rest = held zero k (step w r b) bs e hs (λ i. hd (suc i)) (λ i h. z (suc i) zero-le) a in
      (step_zero_injective r hr' (subst (λ x. step w r x ≡ 0) (z 0 zero-le) rest.0), cons_zero b bs (z 0 zero-le) rest.1)
  held (suc n) k r (b ∷ bs) e hr hd z a =
      let hb : b < 2 = hd 0 in
      let le : 2 ^ suc k ≤ 2 ^ w = pow_mono (omega arith) in
      let sh : step w r b ≡ 2 * r + b = step_shift r b (omega arith) in
      let rest = held n (suc k) (step w r b) bs (omega arith) (omega arith) (λ i. hd (suc i)) (λ i h. z (suc i) (suc-le-suc h)) a in
      (omega (arith, rest.0), cons_zero b bs (omega (arith, rest.0)) rest.1)

  -- bits in w places from place a on, and no others: the remainder is not 0 unless they all are
  pub burst_zero : (a : ℕ) (d : List ℕ) → Bits d → ((i : ℕ) → i < a → get_or d i 0 ≡ 0)
      → ((i : ℕ) → a + w ≤ i → get_or d i 0 ≡ 0)
      → after w 0 d ≡ 0 → (i : ℕ) → get_or d i 0 ≡ 0
  unfolding after
  burst_zero zero d hd before later e = (held w 0 0 d (zero-add w) (pow_pos 0) hd (λ i h. later i (omega arith)) e).1
  burst_zero (suc a) [] hd before later e = λ i. refl
  burst_zero (suc a) (b ∷ bs) hd before later e =
      let b0 : b ≡ 0 = before 0 (zero-lt-suc a) in
      cons_zero b bs b0
      (burst_zero a bs (λ i. hd (suc i)) (λ i h. before (suc i) (suc-le-suc h)) (λ i h. later (suc i) (omega arith))
      (subst (λ x. after w x bs ≡ 0) (ap (step w 0) b0 ∙ step_zero) e))

  -- a register that zeros take to 0 is 0
  pub zeros_kept : (r : ℕ) (d : List ℕ) → r < 2 ^ w → ((i : ℕ) → get_or d i 0 ≡ 0) → after w r d ≡ 0 → r ≡ 0
  zeros_kept r d hr z e = (held zero w r d (add-zero w) hr (λ i. omega (arith, z i)) (λ i h. z i) e).0

  pub zeros_of_zero : (d : List ℕ) → ((i : ℕ) → get_or d i 0 ≡ 0) → after w 0 d ≡ 0
  unfolding after
  zeros_of_zero [] z = refl
  zeros_of_zero (b ∷ bs) z =
      ap (λ x. after w x bs) (ap (step w 0) (z 0) ∙ step_zero) ∙ zeros_of_zero bs (λ i. z (suc i))

  pub zeros_injective : (n r s : ℕ) → r < 2 ^ w → s < 2 ^ w → after w r (zeros n) ≡ after w s (zeros n) → r ≡ s
  zeros_injective n r s hr hs e =
      xor_eq r s (zeros_kept (bit_xor r s) (zeros n) (xor_lt w r s hr hs) (zeros_zero n)
      (zeros_linear n r s hr hs ∙ ap (λ x. bit_xor x (after w s (zeros n))) e ∙ xor_self (after w s (zeros n))))

  -- plus 1
  pub step_one : (r : ℕ) → r < 2 ^ w → step w r 1 ≡ bit_xor (step w r 0) 1
  step_one r hr =
      ap (λ x. step w x 1) (sym (xor_zero_r r)) ∙ step_linear r 0 0 1 hr (pow_pos w) (lit< tt) (lit< tt)
      ∙ ap (bit_xor (step w r 0)) (step_shift 0 1 (omega (arith, four)))

  -- n zeros multiply by x ^ n
  pub zeros_shift : (n r : ℕ) → r * 2 ^ n < 2 ^ w → after w r (zeros n) ≡ r * 2 ^ n
  unfolding after
  zeros_shift zero r h = sym (mul-one r)
  zeros_shift (suc n) r h =
      let e : (2 * r) * 2 ^ n ≡ r * 2 ^ suc n = rw (pow-suc 2 n) (omega arith) in
      let le : 2 * r ≤ (2 * r) * 2 ^ n = le-mul_of_pos_right (2 * r) (pow_pos n) in
      let s : step w r 0 ≡ 2 * r = step_shift r 0 (omega arith) ∙ add-zero (2 * r) in
      ap (λ x. after w x (zeros n)) s ∙ zeros_shift n (2 * r) (omega arith) ∙ e

  -- two blocks of one length
  module _ (bs cs : List ℕ) (hb : Bits bs) (hc : Bits cs) (l : length bs ≡ length cs) where
    pub plus_bits : Bits (plus bs cs)
    plus_bits i = subst (λ x. x < 2) (sym (get_d_plus bs cs l i)) (xor_bit (get_or bs i 0) (get_or cs i 0) (hb i) (hc i))

    pub plus_same : (i : ℕ) → get_or bs i 0 ≡ get_or cs i 0 → get_or (plus bs cs) i 0 ≡ 0
    plus_same i e = get_d_plus bs cs l i ∙ ap (λ x. bit_xor x (get_or cs i 0)) e ∙ xor_self (get_or cs i 0)

    pub plus_differ : (i : ℕ) → get_or bs i 0 ≢ get_or cs i 0 → get_or (plus bs cs) i 0 ≡ 1
    plus_differ i n = get_d_plus bs cs l i ∙ xor_differ (get_or bs i 0) (get_or cs i 0) (hb i) (hc i) n

    -- the checks are one where the difference is a multiple of the generator
    pub check_same : (check w bs ≡ check w cs) ↔ (after w 0 (plus bs cs) ≡ 0)
    unfolding check
    check_same = (
      λ e. zeros_kept (after w 0 (plus bs cs)) (zeros w) (after_lt 0 (plus bs cs) (pow_pos w) plus_bits) (zeros_zero w)
          (sym (after_append w 0 (plus bs cs) (zeros w)) ∙ check_linear bs cs hb hc l ∙ ap (λ x. bit_xor x (check w cs)) e ∙ xor_self (check w cs)),
      λ e. xor_eq (check w bs) (check w cs)
          (sym (check_linear bs cs hb hc l) ∙ after_append w 0 (plus bs cs) (zeros w) ∙ ap (λ x. after w x (zeros w)) e
          ∙ zeros_of_zero (zeros w) (zeros_zero w)),
    )

    -- two blocks with one check that agree but for w places in a row are one block
    pub burst_same : (a : ℕ) → ((i : ℕ) → i < a → get_or bs i 0 ≡ get_or cs i 0)
        → ((i : ℕ) → a + w ≤ i → get_or bs i 0 ≡ get_or cs i 0)
        → check w bs ≡ check w cs → bs ≡ cs
    burst_same a before later e =
        ext_get_or 0 bs cs l
        (λ i h. xor_eq (get_or bs i 0) (get_or cs i 0)
        (sym (get_d_plus bs cs l i)
        ∙ burst_zero a (plus bs cs) plus_bits (λ i h. plus_same i (before i h)) (λ i h. plus_same i (later i h)) (check_same.0 e) i))

    -- a burst of at most w bits is always seen
    pub burst : bs ≢ cs → (a : ℕ) → ((i : ℕ) → get_or bs i 0 ≢ get_or cs i 0 → (a ≤ i) × (i < a + w))
        → check w bs ≢ check w cs
    burst ne a within e =
        ne (burst_same a (λ i h. same (get_or bs i 0) (get_or cs i 0) (λ n. omega (arith, within i n)))
        (λ i h. same (get_or bs i 0) (get_or cs i 0) (λ n. omega (arith, within i n))) e)

    -- hits in the last w - 1 bits of a block never look like a hit on the first bit of its check, which follows them on
    -- the line
    pub near_end : ((i : ℕ) → i + w ≤ length bs → get_or bs i 0 ≡ get_or cs i 0)
        → bit_xor (check w bs) (check w cs) ≢ 2 ^ (w - 1)
    unfolding after check
    near_end agree e =
        let d : List ℕ = plus bs cs in
        let R : ℕ = after w 0 d in
        let hR : R < 2 ^ w = after_lt 0 d (pow_pos w) plus_bits in
        let v : suc (w - 1) ≡ w = omega arith in
        let less : 2 ^ (w - 1) < 2 ^ w = pow-lt {i = w - 1} {j = w} (le_of_eq v) in
        let back : after w 1 (zeros (w - 1)) ≡ 2 ^ (w - 1) = zeros_shift (w - 1) 1 (omega arith) ∙ one-mul (2 ^ (w - 1)) in
        let out : after w (step w R 0) (zeros (w - 1)) ≡ after w 1 (zeros (w - 1))
        = ap (λ x. after w R (zeros x)) v ∙ sym (after_append w 0 d (zeros w)) ∙ check_linear bs cs hb hc l ∙ e ∙ sym back in
        let one : step w R 0 ≡ 1 = zeros_injective (w - 1) (step w R 0) 1 (step_lt R 0 hR (lit< tt)) (omega (arith, four)) out in
        let none : after w 0 (d ++ 1 ∷ []) ≡ 0 = after_append w 0 d (1 ∷ []) ∙ step_one R hR ∙ ap (λ x. bit_xor x 1) one in
        let long : length d ≡ length bs = length_plus bs cs l in
        let last = burst_zero (length d + 1 - w) (d ++ 1 ∷ []) (snoc_bits d plus_bits)
        (λ i h. get_or-append d (1 ∷ []) 0 i (omega arith) ∙ plus_same i (agree i (omega arith)))
        (λ i h. get_or-eq_default (d ++ 1 ∷ []) 0 (omega (arith, length-append d (1 ∷ [])))) none (length d) in
        let contra : ◌≡◌ {A = ℕ} 1 0 = sym (get_or-append_seam d 1 [] 0) ∙ last in
        omega arith
