-- A burst of at most 4 hits on the line is seen by every block that it touches, in its own bits or in its check,
-- across the seam too.
use mathlib.Core.Path.{◌≡◌, sym, ap, ap₂, ◌∙◌}
use mathlib.Core.Logic.{◌≢◌}
use mathlib.Core.List.{List}
use Prim.Native.Nat.{ℕ, ◌+◌, ◌-◌, ◌*◌, ◌≤◌, ◌<◌}
use native.Mathlib.Decide.{ℕ_discrete, dec_le}
use native.Mathlib.Omega.{arith}
use lib.Bits.{bit_xor, xor_block, xor_self}
use lib.Dec.{lit≤}
use lib.ListN.{length, get_or}
use lib.Seq.{ext_get_or}
use Rattle.line.specs.Bit.{bit_at}
use Rattle.crc.specs.Remainder.{check}
use Rattle.crc.proofs.Xor.{xor_differ}
use Rattle.crc.proofs.Laws.{burst_same, near_end, same}
use Rattle.line.proofs.BitLaws.{bit_lt}
use Rattle.e1.specs.Block.{block_bits, block_check, carried}
use Rattle.e1.proofs.Laws.{block_length, block_bits_lem, block_same, carried_four}

-- C2, C3 and C4
low : List ℕ → ℕ → ℕ
low s p = 4 * bit_at s (p + 512) + 2 * bit_at s (p + 1024) + bit_at s (p + 1536)

carried_parts : (s : List ℕ) (p : ℕ) → carried s p ≡ bit_at s p * 8 + low s p
unfolding low
carried_parts s p = omega (arith, carried_four s p)

low_lt : (s : List ℕ) (p : ℕ) → low s p < 8
unfolding low
low_lt s p = omega (arith, bit_lt s (p + 512), bit_lt s (p + 1024), bit_lt s (p + 1536))

module _ (s t : List ℕ) (q a : ℕ) (only : (p : ℕ) → bit_at s p ≢ bit_at t p → (a ≤ p) × (p < a + 4)) where
  keeps : (p : ℕ) → ¬ ((a ≤ p) × (p < a + 4)) → bit_at s p ≡ bit_at t p
  keeps p n = same (bit_at s p) (bit_at t p) (λ ne. n (only p ne))

  -- a burst up to C1 at p leaves the others
  low_same : (p : ℕ) → a ≤ p → low s p ≡ low t p
  unfolding low
  low_same p h =
      omega (
        arith,
        keeps (p + 512) (λ w. omega arith),
        keeps (p + 1024) (λ w. omega arith),
        keeps (p + 1536) (λ w. omega arith),
      )

  -- the block at q agrees with the check after it in both images: then they have that block and that check in common
  pub seen : block_check s q ≡ carried s (q + 2048) → block_check t q ≡ carried t (q + 2048)
      → (block_bits s q ≡ block_bits t q) × (carried s (q + 2048) ≡ carried t (q + 2048))
  unfolding block_check
  seen cu cv = go (ℕ_discrete (bit_at s c1) (bit_at t c1)) (dec_le a c1)
    where
      c1 : ℕ
      c1 = q + 2048

      bs : List ℕ
      bs = block_bits s q

      cs : List ℕ
      cs = block_bits t q

      l : length bs ≡ length cs
      l = block_length s q ∙ sym (block_length t q)

      at : (i : ℕ) → ¬ ((a ≤ q + i) × (q + i < a + 4)) → get_or bs i 0 ≡ get_or cs i 0
      at i n = block_same s t q i (keeps (q + i) n)

      go : Dec (bit_at s c1 ≡ bit_at t c1) → Dec (a ≤ c1) → (bs ≡ cs) × (carried s c1 ≡ carried t c1)
      go (yes e) (no n) =
          -- the burst is past the block
          let b : bs ≡ cs = ext_get_or 0 bs cs l (λ i h. at i (λ w. omega (arith, block_length s q))) in
          (b, sym cu ∙ ap (check 4) b ∙ cv)
      go (yes e) (yes h) =
          let c : carried s c1 ≡ carried t c1
          = carried_parts s c1 ∙ ap₂ (λ x y. x * 8 + y) e (low_same c1 h) ∙ sym (carried_parts t c1) in
          let b : bs ≡ cs
          = burst_same 4 (lit≤ tt) bs cs (block_bits_lem s q) (block_bits_lem t q) l (a - q)
          (λ i k. at i (λ w. omega arith)) (λ i k. at i (λ w. omega arith)) (cu ∙ c ∙ sym cv) in
          (b, c)
      go (no n) d =
          -- the first bit of the check is hit, so of the block only its last three can be
          let (h, h') = only c1 n in
          let c : bit_xor (check 4 bs) (check 4 cs) ≡ 8
          = ap₂ bit_xor (cu ∙ carried_parts s c1) (cv ∙ carried_parts t c1)
          ∙ xor_block 3 (bit_at s c1) (bit_at t c1) (low s c1) (low t c1) (low_lt s c1) (low_lt t c1)
          ∙ ap₂ (λ x y. x * 8 + y) (xor_differ (bit_at s c1) (bit_at t c1) (bit_lt s c1) (bit_lt t c1) n)
          (ap (bit_xor (low s c1)) (sym (low_same c1 h)) ∙ xor_self (low s c1)) in
          absurd (near_end 4 (lit≤ tt) bs cs (block_bits_lem s q) (block_bits_lem t q) l
          (λ i k. at i (λ w. omega (arith, block_length s q))) c)
