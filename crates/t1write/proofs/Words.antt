-- Words of 64 bits that spell eight frames: the bits of the octets o, with a framing bit, a digit of b, before each 192.
use Prim.Native.Nat.{ℕ, ◌+◌, ◌-◌, ◌*◌, ◌/◌, ◌%◌, ◌^◌, ◌≤◌, ◌<◌}
use mathlib.Core.Path.{◌≡◌, refl, sym, ap, ap₂, ◌∙◌}
use mathlib.Core.Logic.{◌≢◌}
use mathlib.Core.List.{List}
use native.Mathlib.Omega.{arith}
use borrow.Author.Tests.{eq-eqb, ne_eqb}
use borrow.Rule.Slice.PartMut.{put_mid}
use lib.Bits.{bit_or, or_shifted}
use lib.Dec.{eqb}
use lib.ListN.{length, get_or, take}
use lib.Pow.{high, low, mod-pow-add, mod-mod-pow}
use Rattle.base.specs.Tab.{tab}
use Rattle.base.proofs.ChoiceLaws.{if_both}
use Rattle.base.proofs.PartLaws.{part_more}
use Rattle.base.proofs.TabLaws.{tab_agree}
use Rattle.line.specs.Bit.{bit_at, field}
use Rattle.line.specs.Spelt.{spelt, digit, packed, spelt_octet}
use Rattle.line.proofs.BitLaws.{field_add, field_lt, octet_one}
use Rattle.line.proofs.SpeltLaws.{Binary, spelt_add, spelt_more, spelt_agree}
use Rattle.line.proofs.PackedLaws.{octets_packed}
use Rattle.t1.specs.Payload.{data_bit}
use Rattle.t1write.specs.Inputs.{frames_bit}
use Rattle.t1.proofs.Laws.{data_lt}

-- the first n bits of a field, and the last
field_first : (s : List ℕ) (p n m w : ℕ) → n + m ≡ w → field s p w / 2 ^ m ≡ field s p n
field_first s p n m w e =
    ap (λ k. field s p k / 2 ^ m) (sym e) ∙ ap (λ x. x / 2 ^ m) (field_add s p n m) ∙ high (field s p n) m (field_lt s (p + n) m)

pub field_last : (s : List ℕ) (p a n w : ℕ) → a + n ≡ w → field s p w % 2 ^ n ≡ field s (p + a) n
field_last s p a n w e =
    ap (λ k. field s p k % 2 ^ n) (sym e) ∙ ap (λ x. x % 2 ^ n) (field_add s p a n) ∙ low (field s p a) n (field_lt s (p + a) n)

-- the last g bits of b, and one more
last_more : (b x g : ℕ) → x < 2 → g < 8 → bit_or (b * 2 % 2 ^ 64) x % 2 ^ (g + 1) ≡ 2 * (b % 2 ^ g) + x
last_more b x g h k =
    let y : ℕ = b % 2 ^ 63 in
    let n : ℕ = y * 2 ^ 1 + x in
    let shift : b * 2 % 2 ^ 64 ≡ y * 2 ^ 1 = omega arith in
    let up : n / 2 ^ 1 ≡ y = omega arith in
    let down : n % 2 ^ 1 ≡ x = omega arith in
    let d : 63 - g + g ≡ 63 = omega arith in
    let few : y % 2 ^ g ≡ b % 2 ^ g = ap (λ j. b % 2 ^ j % 2 ^ g) (sym d) ∙ mod-mod-pow b (63 - g) g in
    ap (λ z. z % 2 ^ (g + 1)) (ap (λ z. bit_or z x) shift ∙ or_shifted y 1 x (omega arith)) ∙ mod-pow-add n g 1
    ∙ ap₂ (λ u v. u % 2 ^ g * 2 ^ 1 + v) up down ∙ omega arith

module _ (o : List ℕ) (b : ℕ) where
  pub frames_framing : (x g : ℕ) → x ≡ 193 * g → frames_bit o b x ≡ digit 8 b g
  unfolding frames_bit
  frames_framing x g e =
      let z : x % 193 ≡ 0 = omega arith in
      let d : x / 193 ≡ g = omega arith in
      rw (eq-eqb (x % 193) 0 z, d)

  pub frames_other : (x : ℕ) → x % 193 ≢ 0 → frames_bit o b x ≡ data_bit o x
  unfolding frames_bit
  frames_other x z = rw (ne_eqb (x % 193) 0 z)

  frames_data : (x g y : ℕ) → 193 * g < x → x < 193 * (g + 1) → y + g + 1 ≡ x → frames_bit o b x ≡ bit_at o y
  unfolding data_bit
  frames_data x g y h m e =
      let d : x / 193 ≡ g = omega arith in
      let r : x % 193 ≡ x - 193 * g = omega arith in
      let z : x % 193 ≢ 0 = λ q. omega arith in
      frames_other x z ∙ ap (bit_at o) (omega (arith, d, r))

  frames_lt : Binary (frames_bit o b)
  unfolding frames_bit
  frames_lt i = if_both (λ x. x < 2) (eqb (i % 193) 0) (omega arith) (data_lt o i)

  module _ (g : ℕ) (hg : g < 8) where
    -- the last g + 1 bits of one word, and then as many of the next as make 64
    joined_spelt : (x y q : ℕ) → x % 2 ^ (g + 1) ≡ spelt (g + 1) (λ t. frames_bit o b (q + t))
        → y / 2 ^ (g + 1) ≡ spelt (63 - g) (λ t. frames_bit o b (q + (g + 1 + t)))
        → x % 2 ^ (g + 1) * 2 ^ (63 - g) + y / 2 ^ (g + 1) ≡ spelt 64 (λ t. frames_bit o b (q + t))
    joined_spelt x y q ex ey =
        let n : g + 1 + (63 - g) ≡ 64 = omega arith in
        let bit : ℕ → ℕ = λ t. frames_bit o b (q + t) in
        ap₂ (λ u v. u * 2 ^ (63 - g) + v) ex ey ∙ sym (spelt_add (g + 1) (63 - g) bit) ∙ ap (λ n. spelt n bit) n

    -- the first word of frame g: the last g bits of the frame before, the framing bit, and 63 - g bits
    pub first_word : (v y q : ℕ) → v % 2 ^ g ≡ field o (191 * g) g → q ≡ 192 * g → y ≡ field o q 64
        → (let w = bit_or (v * 2 % 2 ^ 64) (digit 8 b g) in w % 2 ^ (g + 1) * 2 ^ (63 - g) + y / 2 ^ (g + 1))
        ≡ spelt 64 (λ t. frames_bit o b (q + t))
    unfolding field
    first_word v y q ev eq ey =
        let bit : ℕ → ℕ = λ t. frames_bit o b (q + t) in
        joined_spelt (bit_or (v * 2 % 2 ^ 64) (digit 8 b g)) y q
        (last_more v (digit 8 b g) g (omega arith) hg
        ∙ ap₂ (λ x y. 2 * x + y)
        (ev ∙ spelt_agree g (λ t. bit_at o (191 * g + t)) bit (λ t h. sym (before t h)))
        (sym (frames_framing (q + g) g (omega arith)))
        ∙ sym (spelt_more g bit))
        (ap (λ z. z / 2 ^ (g + 1)) ey ∙ field_first o q (63 - g) (g + 1) 64 (omega arith)
        ∙ spelt_agree (63 - g) (λ t. bit_at o (q + t)) (λ t. bit (g + 1 + t))
        (λ t h. sym (frames_data (q + (g + 1 + t)) g (q + t) (omega arith) (omega arith) (omega arith))))
      where
        -- some frame is before
        before : (t : ℕ) → t < g → frames_bit o b (q + t) ≡ bit_at o (191 * g + t)
        before t h = frames_data (q + t) (g - 1) (191 * g + t) (omega arith) (omega arith) (omega arith)

    -- the others: bits of the frame alone
    pub next_word : (x y q r : ℕ) → x ≡ field o q 64 → y ≡ field o r 64 → r ≡ q + 64 → 192 * g ≤ q → q ≤ 192 * g + 64
        → x % 2 ^ (g + 1) * 2 ^ (63 - g) + y / 2 ^ (g + 1) ≡ spelt 64 (λ t. frames_bit o b (r + t))
    unfolding field
    next_word x y q r ex ey er h h' =
        joined_spelt x y r
        (ap (λ z. z % 2 ^ (g + 1)) ex ∙ field_last o q (63 - g) (g + 1) 64 (omega arith)
        ∙ spelt_agree (g + 1) (λ t. bit_at o (q + (63 - g) + t)) (λ t. frames_bit o b (r + t))
        (λ t m. sym (frames_data (r + t) g (q + (63 - g) + t) (omega arith) (omega arith) (omega arith))))
        (ap (λ z. z / 2 ^ (g + 1)) ey ∙ field_first o r (63 - g) (g + 1) 64 (omega arith)
        ∙ spelt_agree (63 - g) (λ t. bit_at o (r + t)) (λ t. frames_bit o b (r + (g + 1 + t)))
        (λ t m. sym (frames_data (r + (g + 1 + t)) g (r + t) (omega arith) (omega arith) (omega arith))))

  -- octet i of them
  abbrev pub frames_octet : ℕ → ℕ
  frames_octet i = spelt 8 (λ j. frames_bit o b (8 * i + j))

  module _ (a e w q : ℕ) (xs ys : List ℕ) (ee : e ≡ a + 8) (eq : q ≡ 8 * a)
      (ew : w ≡ spelt 64 (λ t. frames_bit o b (q + t))) (ey : ys ≡ tab 8 (spelt_octet w)) where
    -- the eight octets of a word, from octet a on
    word_octets : ys ≡ tab (e - a) (λ i. frames_octet (a + i))
    unfolding packed
    word_octets =
        let bit : ℕ → ℕ = λ t. frames_bit o b (q + t) in
        let n : e - a ≡ 8 = omega arith in
        ey ∙ ap (λ w. tab 8 (spelt_octet w)) ew ∙ octets_packed bit (λ t. frames_lt (q + t))
        ∙ tab_agree 8 (λ i. spelt 8 (λ j. bit (8 * i + j))) (λ i. frames_octet (a + i))
        (λ i h. spelt_agree 8 (λ j. bit (8 * i + j)) (λ j. frames_bit o b (8 * (a + i) + j))
        (λ j m. ap (frames_bit o b) (omega arith)))
        ∙ ap (λ n. tab n (λ i. frames_octet (a + i))) (sym n)

    -- one word more
    pub word_more : e ≤ length xs → take a xs ≡ tab a frames_octet → take e (put_mid a (e - a) xs ys) ≡ tab e frames_octet
    word_more h t = part_more frames_octet a e xs ys (omega arith) h word_octets t

  -- the last octet of eight frames has no framing bit
  pub last_octet : get_or o 191 0 < 256 → get_or o 191 0 ≡ frames_octet 192
  unfolding field
  last_octet h =
      octet_one o 191 0 refl h
      ∙ spelt_agree 8 (λ j. bit_at o (8 * 191 + 0 + j)) (λ j. frames_bit o b (8 * 192 + j))
      (λ j m. sym (frames_data (8 * 192 + j) 7 (8 * 191 + 0 + j) (omega arith) (omega arith) (omega arith)))
