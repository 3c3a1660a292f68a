-- What framing bits lack, of 56 places at once, frame by frame.
use Prim.Native.Nat.{ℕ, suc, ◌+◌, ◌-◌, ◌*◌, ◌%◌, ◌^◌, ◌≤◌, ◌<◌}
use mathlib.Core.Path.{◌≡◌, sym, ap, ap₂, ◌∙◌}
use mathlib.Core.List.{List, [], ◌∷◌}
use native.Mathlib.Nat.{div-one, zero-div}
use native.Mathlib.Omega.{arith}
use lib.Bits.{bit_xor, xor_zero_r}
use lib.Dec.{lit<, lit≤}
use lib.ListN.{get_or}
use Rattle.line.specs.Bit.{bit_at}
use Rattle.line.specs.Window.{bit_of}
use Rattle.crc.specs.Remainder.{zeros, after}
use Rattle.t1.specs.Raw.{lacking_by}
use Rattle.t1.proofs.Lacking.{by_lt}
use Rattle.t1sliced.specs.Sliced.{Sliced, Times, BitsFrom, Complement, WithFrame}
use Rattle.t1sliced.proofs.Bitwise.{xor_bits, no_bit}
use Rattle.t1sliced.proofs.Words.{below_six, sliced_same}

-- the words of a frame more
pub frame_words : (bits x : ℕ) (a b : List ℕ) → Times 4 a b → Complement bits x
    → WithFrame bits a
    (bit_xor (get_or b 0 0) x ∷ get_or b 1 0 ∷ get_or b 2 0 ∷ get_or b 3 0 ∷ get_or b 4 0 ∷ get_or b 5 0 ∷ [])
frame_words bits x a b times over f lt s o h =
    below_six _
    (xor_bits (get_or b 0 0) x (63 - o)
    ∙ ap₂ bit_xor (word 0 (lit< tt)) (over (63 - o) (omega arith) ∙ low (1 - bit_of bits (63 - o)) (omega arith))
    ∙ sym (xor_bits (after 6 (f o) (zeros 4)) (1 - bit_of bits (63 - o)) 0))
    (others 1 (lit< tt) (lit≤ tt)) (others 2 (lit< tt) (lit≤ tt)) (others 3 (lit< tt) (lit≤ tt)) (others 4 (lit< tt) (lit≤ tt))
    (others 5 (lit< tt) (lit≤ tt))
  where
    low : (c : ℕ) → c < 2 → c ≡ bit_of c 0
    low c l = rw (div-one c) (omega arith)

    word : (t : ℕ) → t < 6 → bit_of (get_or b t 0) (63 - o) ≡ bit_of (after 6 (f o) (zeros 4)) t
    word = times f lt s o h

    others : (t : ℕ) → t < 6 → 1 ≤ t
        → bit_of (get_or b t 0) (63 - o) ≡ bit_of (bit_xor (after 6 (f o) (zeros 4)) (1 - bit_of bits (63 - o))) t
    others t l k =
        let c : ℕ = 1 - bit_of bits (63 - o) in
        word t l
        ∙ sym (xor_bits (after 6 (f o) (zeros 4)) c t ∙ ap (bit_xor (bit_of (after 6 (f o) (zeros 4)) t)) (no_bit c 1 t (omega arith) k)
        ∙ xor_zero_r (bit_of (after 6 (f o) (zeros 4)) t))

-- a frame more
module _ (s : List ℕ) (n m q bits : ℕ) (here : q ≡ 193 * n) (one : m ≡ n + 1) (framing : BitsFrom s q bits) where
  by_more : (o : ℕ) → o < 56 → bit_xor (after 6 (lacking_by s o n) (zeros 4)) (1 - bit_of bits (63 - o)) ≡ lacking_by s o m
  unfolding lacking_by
  by_more o h =
      let e : suc n ≡ m = omega arith in
      ap (λ b. bit_xor (after 6 (lacking_by s o n) (zeros 4)) (1 - b)) (framing o h ∙ ap (λ k. bit_at s (o + k)) here)
      ∙ ap (lacking_by s o) e

  pub frame_on : (a r : List ℕ) → WithFrame bits a r → Sliced (λ o. lacking_by s o n) a → Sliced (λ o. lacking_by s o m) r
  frame_on a r frame h = sliced_same _ _ r by_more (frame (λ o. lacking_by s o n) (λ o. by_lt s o n) h)

-- before the first
pub none_lacking : (s : List ℕ) → Sliced (λ o. lacking_by s o 0) (0 ∷ 0 ∷ 0 ∷ 0 ∷ 0 ∷ 0 ∷ [])
unfolding lacking_by
none_lacking s o h = below_six _ (same 0) (same 1) (same 2) (same 3) (same 4) (same 5)
  where
    same : (t : ℕ) → bit_of 0 (63 - o) ≡ bit_of 0 t
    same t = ap (λ x. x % 2) (zero-div (2 ^ (63 - o)) ∙ sym (zero-div (2 ^ t)))
