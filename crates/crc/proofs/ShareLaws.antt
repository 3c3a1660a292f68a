-- The laws of shares, over the width: two hits change a check by the shares of both, and two bits have one share where a
-- multiple of the order of x lies between them, and nowhere else.
use Prim.Native.Nat.{ℕ, zero, suc, ◌+◌, ◌-◌, ◌%◌, ◌^◌, ◌≤◌, ◌<◌}
use mathlib.Core.Path.{◌≡◌, refl, sym, ap, ap₂, ◌∙◌}
use mathlib.Core.Logic.Iff
use mathlib.Core.Logic.{◌≢◌, ◌↔◌}
use mathlib.Core.List.{List, [], ◌∷◌, ◌++◌}
use native.Mathlib.Nat.{suc_inj, suc-ne-zero, zero-add, suc-add, add_assoc, add_comm}
use native.Mathlib.Decide.{dec_lt}
use native.Mathlib.Omega.{arith}
use lib.Bits.{bit_xor, xor_comm, xor_self}
use lib.Dec.{lit<}
use lib.ListN.{length, get_or, length-replicate, replicate-append-replicate}
use lib.Pow.{pow_mono}
use lib.Seq.{ext_get_or}
use Rattle.line.proofs.SpeltLaws.{Binary}
use Rattle.crc.specs.Remainder.{Bits, zeros, after, check}
use Rattle.crc.specs.Striped.{striped}
use Rattle.crc.specs.Share.{share, distance}
use Rattle.crc.proofs.Xor.{xor_eq}
use Rattle.crc.proofs.Laws.{plus, length_plus, zeros_zero, zeros_bits, after_append, after_lt, check_linear, step_shift, step_zero}
use Rattle.crc.proofs.Laws.{zeros_injective, plus_bits, plus_same, plus_differ}
use Rattle.crc.proofs.StripedLaws.{at_data_bit, striped_length, striped_at, striped_same, striped_bits}
use Rattle.crc.proofs.Order.{Order, plus_none}

none_set : (bs : List ℕ) → ((k : ℕ) → get_or bs k 0 ≡ 0) → bs ≡ zeros (length bs)
none_set bs z = ext_get_or 0 bs (zeros (length bs)) (sym (length-replicate (length bs) 0)) (λ k h. z k ∙ sym (zeros_zero (length bs) k))

-- two bits lie as far apart counted from the end
from_the_end : (a c i j : ℕ) → a + i ≡ c + j → distance a c ≡ distance i j
from_the_end a c i j e = omega arith

module _ (w : ℕ) (wide : 2 ≤ w) where
  one_lt : 1 < 2 ^ w
  one_lt = omega (arith, pow_mono {i = 2} {j = w} wide)

  pub share_after : (k : ℕ) → share w k ≡ after w 1 (zeros (k + w))
  unfolding share check after
  share_after k =
      ap (λ x. after w x (zeros k ++ zeros w)) (step_shift w wide 0 1 one_lt) ∙ ap (after w 1) (replicate-append-replicate k w 0)

  -- a 0 in front changes nothing
  zero_first : (bs : List ℕ) → check w (0 ∷ bs) ≡ check w bs
  unfolding check after
  zero_first bs = ap (λ x. after w x (bs ++ zeros w)) (step_zero w wide)

  -- bits of which one alone is 1, with a bits behind it
  one_set : (d : List ℕ) (i a : ℕ) → length d ≡ suc (i + a) → get_or d i 0 ≡ 1 → ((k : ℕ) → k ≢ i → get_or d k 0 ≡ 0)
      → check w d ≡ share w a
  unfolding share
  one_set [] i a l one none = absurd (suc-ne-zero 0 (sym one))
  one_set (b ∷ bs) zero a l one none =
      let rest : bs ≡ zeros a = none_set bs (λ k. none (suc k) (suc-ne-zero k)) ∙ ap zeros (suc_inj l ∙ zero-add a) in
      ap₂ (λ (x : ℕ) (l : List ℕ). check w (x ∷ l)) one rest
  one_set (b ∷ bs) (suc i) a l one none =
      ap (λ x. check w (x ∷ bs)) (none 0 (λ e. suc-ne-zero i (sym e))) ∙ zero_first bs
      ∙ one_set bs i a (suc_inj l ∙ suc-add i a) one (λ k n. none (suc k) (λ e. n (suc_inj e)))

  -- the first bit, with a bits behind it, and one more, with c behind it
  first_set : (b : ℕ) (bs : List ℕ) (i a c : ℕ) → length bs ≡ a → length bs ≡ suc (i + c) → Bits (b ∷ bs)
      → b ≡ 1 → get_or bs i 0 ≡ 1 → ((k : ℕ) → k ≢ i → get_or bs k 0 ≡ 0)
      → check w (b ∷ bs) ≡ bit_xor (share w a) (share w c)
  unfolding share plus
  first_set b bs i a c la lc hd first one none =
      let cons : ℕ → List ℕ → List ℕ = λ x l. x ∷ l in
      let sum : b ∷ bs ≡ plus (1 ∷ zeros a) (0 ∷ bs) = ap₂ cons first (sym (ap (λ n. plus (zeros n) bs) (sym la) ∙ plus_none bs)) in
      ap (check w) sum
      ∙ check_linear w wide (1 ∷ zeros a) (0 ∷ bs) front behind (ap suc (length-replicate a 0 ∙ sym la))
      ∙ ap (bit_xor (share w a)) (zero_first bs ∙ one_set bs i c lc one none)
    where
      front : Bits (1 ∷ zeros a)
      front zero = lit< tt
      front (suc k) = zeros_bits a k

      behind : Bits (0 ∷ bs)
      behind zero = lit< tt
      behind (suc k) = hd (suc k)

  -- bits of which two alone are 1
  two_set : (d : List ℕ) (i j a c : ℕ) → length d ≡ suc (i + a) → length d ≡ suc (j + c) → Bits d → i ≢ j
      → get_or d i 0 ≡ 1 → get_or d j 0 ≡ 1 → ((k : ℕ) → k ≢ i → k ≢ j → get_or d k 0 ≡ 0)
      → check w d ≡ bit_xor (share w a) (share w c)
  two_set [] i j a c la lc hd ne one other none = absurd (suc-ne-zero 0 (sym one))
  two_set (b ∷ bs) zero zero a c la lc hd ne one other none = absurd (ne refl)
  two_set (b ∷ bs) zero (suc j) a c la lc hd ne one other none =
      first_set b bs j a c (suc_inj la ∙ zero-add a) (suc_inj lc ∙ suc-add j c) hd one other
      (λ k n. none (suc k) (suc-ne-zero k) (λ e. n (suc_inj e)))
  two_set (b ∷ bs) (suc i) zero a c la lc hd ne one other none =
      first_set b bs i c a (suc_inj lc ∙ zero-add c) (suc_inj la ∙ suc-add i a) hd other one
      (λ k n. none (suc k) (λ e. n (suc_inj e)) (suc-ne-zero k))
      ∙ xor_comm (share w c) (share w a)
  two_set (b ∷ bs) (suc i) (suc j) a c la lc hd ne one other none =
      ap (λ x. check w (x ∷ bs)) (none 0 (λ e. suc-ne-zero i (sym e)) (λ e. suc-ne-zero j (sym e))) ∙ zero_first bs
      ∙ two_set bs i j a c (suc_inj la ∙ suc-add i a) (suc_inj lc ∙ suc-add j c) (λ k. hd (suc k)) (λ e. ne (ap suc e)) one other
      (λ k n m. none (suc k) (λ e. n (suc_inj e)) (λ e. m (suc_inj e)))

  -- m bits further from the end
  further : (m k : ℕ) → (share w (m + k) ≡ share w k) ↔ (after w 1 (zeros m) ≡ 1)
  further m k =
      let far : share w (m + k) ≡ after w (after w 1 (zeros m)) (zeros (k + w)) = share_after (m + k)
      ∙ ap (λ x. after w 1 (zeros x)) (add_assoc m k w) ∙ ap (after w 1) (sym (replicate-append-replicate m (k + w) 0))
      ∙ after_append w 1 (zeros m) (zeros (k + w)) in (
        λ e. zeros_injective w wide (k + w) (after w 1 (zeros m)) 1 (after_lt w wide 1 (zeros m) one_lt (zeros_bits m)) one_lt
            (sym far ∙ e ∙ share_after k),
        λ e. far ∙ ap (λ x. after w x (zeros (k + w))) e ∙ sym (share_after k),
      )

  -- two bits have one share where a multiple of the order lies between them
  one_share : (o : ℕ) → Order w o → (a c : ℕ) → (share w a ≡ share w c) ↔ (distance a c % o ≡ 0)
  one_share o order a c = elim (dec_lt a c) [
    | yes l ↦ (let (there, back) = go c a (omega arith) in
        let d : distance c a ≡ distance a c = add_comm (c - a) (a - c) in
        (λ e. rw d at (there (sym e)), λ e. sym (back (rw (← d) at e))))
    | no l ↦ go a c (omega arith)
  ]
    where
      go : (a c : ℕ) → c ≤ a → (share w a ≡ share w c) ↔ (distance a c % o ≡ 0)
      go a c l =
          let e : a - c + c ≡ a = omega arith in
          let d : a - c ≡ distance a c = omega arith in
          rw (e, d) at (Iff.trans (further (a - c) c) (order (a - c)))

  -- the same of bits i and j of n
  pub same_share : (o : ℕ) → Order w o → (n i j : ℕ) → i < n → j < n
      → (share w (n - 1 - i) ≡ share w (n - 1 - j)) ↔ (distance i j % o ≡ 0)
  same_share o order n i j hi hj =
      rw (from_the_end (n - 1 - i) (n - 1 - j) i j (omega arith)) at (one_share o order (n - 1 - i) (n - 1 - j))

  -- so two checks that differ by the shares of both are one there
  pub hidden_by : (o : ℕ) → Order w o → (n x y i j : ℕ) → i < n → j < n → bit_xor x y ≡ bit_xor (share w (n - 1 - i)) (share w (n - 1 - j))
      → (x ≡ y) ↔ (distance i j % o ≡ 0)
  hidden_by o order n x y i j hi hj e =
      let a : ℕ = share w (n - 1 - i) in
      let c : ℕ = share w (n - 1 - j) in
      let (there, back) = same_share o order n i j hi hj in (
        λ q. there (xor_eq a c (sym e ∙ ap (λ z. bit_xor z y) q ∙ xor_self y)),
        λ q. xor_eq x y (e ∙ ap (λ z. bit_xor z c) (back q) ∙ xor_self c),
      )

  -- blocks of n bits, of which each d-th is read as b, that differ in two data bits
  module _ (n d b : ℕ) (hb : b < 2) (f g : ℕ → ℕ) (hf : Binary f) (hg : Binary g) (i j : ℕ) (ne : i ≢ j)
      (i_in : i < n) (j_in : j < n) (i_data : i % d ≢ 0) (j_data : j % d ≢ 0) (i_hit : f i ≢ g i) (j_hit : f j ≢ g j)
      (others : (k : ℕ) → k ≢ i → k ≢ j → f k ≡ g k) where
    abbrev bs : List ℕ
    bs = striped n d b f

    abbrev cs : List ℕ
    cs = striped n d b g

    one_length : length bs ≡ length cs
    one_length = striped_length d b n f ∙ sym (striped_length d b n g)

    f_bits : Bits bs
    f_bits = striped_bits d b n hb f hf

    g_bits : Bits cs
    g_bits = striped_bits d b n hb g hg

    differs : (k : ℕ) → k < n → k % d ≢ 0 → f k ≢ g k → get_or bs k 0 ≢ get_or cs k 0
    differs k l z h e =
        h (sym (striped_at d b n f k l ∙ at_data_bit d b f k z) ∙ e ∙ striped_at d b n g k l ∙ at_data_bit d b g k z)

    pub twice_shares : bit_xor (check w bs) (check w cs) ≡ bit_xor (share w (n - 1 - i)) (share w (n - 1 - j))
    twice_shares =
        let long : length (plus bs cs) ≡ n = length_plus bs cs one_length ∙ striped_length d b n f in
        sym (check_linear w wide bs cs f_bits g_bits one_length)
        ∙ two_set (plus bs cs) i j (n - 1 - i) (n - 1 - j) (omega arith) (omega arith) (plus_bits w wide bs cs f_bits g_bits one_length) ne
        (plus_differ w wide bs cs f_bits g_bits one_length i (differs i i_in i_data i_hit))
        (plus_differ w wide bs cs f_bits g_bits one_length j (differs j j_in j_data j_hit))
        (λ k x y. plus_same w wide bs cs f_bits g_bits one_length k (striped_same d b n f g k (others k x y)))
