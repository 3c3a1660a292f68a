-- The remainder of n bits, k bits on: k come in, and those that are gone count for x^n.
use Prim.Native.Nat.{ℕ, ◌+◌, ◌*◌, ◌≤◌, ◌<◌}
use mathlib.Core.Path.{◌≡◌, sym, ap, ◌∙◌}
use mathlib.Core.List.{List}
use native.Mathlib.Nat.{add_comm, add_assoc}
use native.Mathlib.Omega.{arith}
use lib.Bits.{bit_xor, xor_zero_r, xor_comm}
use lib.Dec.{lit<, lit≤}
use lib.ListN.{length-replicate, take, drop}
use Rattle.base.specs.Tab.{tab}
use Rattle.base.proofs.TabLaws.{tab_split, tab_agree, tab_of}
use Rattle.line.specs.Bit.{bit_at}
use Rattle.line.proofs.BitLaws.{bit_lt}
use Rattle.line.proofs.SpeltLaws.{Binary}
use Rattle.crc.specs.Remainder.{zeros, after}
use Rattle.crc.proofs.Xor.{xor_cancel}
use Rattle.crc.proofs.Laws.{zeros_zero, tab_bits, after_append, after_lt}
use Rattle.crc.proofs.Digits.{tabs_linear}
use Rattle.t1.specs.Raw.{raw}
use Rattle.t1.proofs.Laws.{bit_part}
use Rattle.t1.proofs.Powers.{zeros_round}

pub tab_lt : (n : ℕ) (f : ℕ → ℕ) → Binary f → after 6 0 (tab n f) < 64
tab_lt n f h = after_lt 6 (lit≤ tt) 0 (tab n f) (lit< tt) (tab_bits n f h)

tab_none : (n : ℕ) → tab n (λ i. 0) ≡ zeros n
tab_none n = tab_of n (λ i. 0) (zeros n) (length-replicate n 0) (λ i h. sym (zeros_zero n i))

-- bits behind a remainder are added to it times a power of x
after_parts : (r n : ℕ) (f : ℕ → ℕ) → r < 64 → Binary f
    → after 6 r (tab n f) ≡ bit_xor (after 6 r (zeros n)) (after 6 0 (tab n f))
after_parts r n f h hf =
    ap (λ x. after 6 x (tab n f)) (sym (xor_zero_r r))
    ∙ tabs_linear 6 (lit≤ tt) r 0 n (λ i. 0) f h (lit< tt) (λ i. lit< tt) hf
    ∙ ap (λ l. bit_xor (after 6 r l) (after 6 0 (tab n f))) (tab_none n)

module _ (k n : ℕ) (f : ℕ → ℕ) (h : Binary f) where
  both_ways : after 6 (after 6 0 (tab k f)) (tab n (λ i. f (k + i))) ≡ after 6 (after 6 0 (tab n f)) (tab k (λ i. f (n + i)))
  both_ways =
      sym (ap (after 6 0) (tab_split k n f) ∙ after_append 6 0 (tab k f) (tab n (λ i. f (k + i))))
      ∙ ap (λ m. after 6 0 (tab m f)) (add_comm k n)
      ∙ ap (after 6 0) (tab_split n k f) ∙ after_append 6 0 (tab n f) (tab k (λ i. f (n + i)))

  pub slides : after 6 0 (tab n (λ i. f (k + i)))
      ≡ bit_xor (after 6 (after 6 0 (tab n f)) (tab k (λ i. f (n + i)))) (after 6 (after 6 0 (tab k f)) (zeros n))
  slides =
      let gone : ℕ = after 6 0 (tab k f) in
      let rest : ℕ = after 6 0 (tab n (λ i. f (k + i))) in
      let out : ℕ = after 6 gone (zeros n) in
      sym (xor_cancel out rest)
      ∙ ap (bit_xor out) (sym (after_parts gone n (λ i. f (k + i)) (tab_lt k f h) (λ i. h (k + i))) ∙ both_ways)
      ∙ xor_comm out (after 6 (after 6 0 (tab n f)) (tab k (λ i. f (n + i))))

-- of a part: x^4632 is x^33
pub raw_slides : (s : List ℕ) (p k : ℕ)
    → raw s (p + k)
    ≡ bit_xor (after 6 (raw s p) (tab k (λ i. bit_at s (p + (4632 + i))))) (after 6 (after 6 0 (tab k (λ i. bit_at s (p + i)))) (zeros 33))
unfolding raw
raw_slides s p k =
    let f : ℕ → ℕ = λ i. bit_at s (p + i) in
    let hf : Binary f = λ i. bit_lt s (p + i) in
    ap (after 6 0) (tab_agree 4632 (λ i. bit_at s (p + k + i)) (λ i. f (k + i)) (λ i h. ap (bit_at s) (add_assoc p k i)))
    ∙ slides k 4632 f hf
    ∙ ap (bit_xor (after 6 (after 6 0 (tab 4632 f)) (tab k (λ i. f (4632 + i))))) (zeros_round 4632 (after 6 0 (tab k f)) (tab_lt k f hf))

pub raw_lt : (s : List ℕ) (p : ℕ) → raw s p < 64
unfolding raw
raw_lt s p = tab_lt 4632 (λ i. bit_at s (p + i)) (λ i. bit_lt s (p + i))

-- of n octets of an image, from octet i on, at place o of these
pub raw_part : (s : List ℕ) (i n o q : ℕ) → q ≡ 8 * i + o → o + 4632 ≤ 8 * n → raw (take n (drop i s)) o ≡ raw s q
unfolding raw
raw_part s i n o q e h =
    ap (after 6 0)
    (tab_agree 4632 (λ k. bit_at (take n (drop i s)) (o + k)) (λ k. bit_at s (q + k))
    (λ k l. bit_part s i n (o + k) (omega arith) ∙ ap (bit_at s) (omega arith)))
