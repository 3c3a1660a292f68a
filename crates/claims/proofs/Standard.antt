-- G.704's table leaves no bit open. It gives every bit but the check bits; a block's check is made of no check bits, so
-- it is the same in two lines that meet the table, and so are the bits that carry it.
use Prim.Native.Nat.{ℕ, zero, suc, ◌+◌, ◌-◌, ◌*◌, ◌/◌, ◌%◌, ◌≤◌, ◌<◌}
use mathlib.Core.Path.{◌≡◌, sym, ap, ◌∙◌}
use mathlib.Core.Logic.{◌≢◌}
use mathlib.Core.List.{List}
use native.Mathlib.Decide.{ℕ_discrete, dec_lt}
use native.Mathlib.Nat.{add-zero}
use native.Mathlib.Numerals.{add-one}
use native.Mathlib.Omega.{arith}
use lib.ListN.{get_or}
use Rattle.line.specs.Bit.{bit_at, field}
use Rattle.line.proofs.BitLaws.{bit_lt, field_same, image_same}
use Rattle.line.proofs.SpeltLaws.{spelt_same}
use Rattle.crc.specs.Remainder.{check}
use Rattle.crc.proofs.StripedLaws.{striped_agree}
use Rattle.e1.specs.Frame.{frame_at, slot_at}
use Rattle.e1.specs.Block.{block_check, carried}
use Rattle.claims.specs.Demand2.{Standard}

module _ {s t p o : List ℕ} {c k k' n : ℕ} (h : Standard s p o c k n) (g : Standard t p o c k' n) where
  abbrev Same : ℕ → Type 0
  Same i = bit_at s i ≡ bit_at t i

  -- place i is among m that spell x in both
  in_field : (q m x i : ℕ) → field s q m ≡ x → field t q m ≡ x → q ≤ i → i < q + m → Same i
  in_field q m x i a b least most =
      let e : q + (i - q) ≡ i = omega arith in
      ap (bit_at s) (sym e) ∙ field_same s t q m (a ∙ sym b) (i - q) (omega arith) ∙ ap (bit_at t) e

  -- bit r of slot 0 of the odd frame 2i + 1
  odd_bit : (i r : ℕ) → i < 8 * n → r < 8 → Same (frame_at 0 (2 * i + 1) + r)
  odd_bit i zero l a =
      rw add-zero
      (elim (dec_lt (i % 8) 6) [
        | yes b ↦ h.signals i l b ∙ sym (g.signals i l b)
        | no b ↦ h.e_bit i l (omega arith) ∙ sym (g.e_bit i l (omega arith))
      ])
  odd_bit i (suc zero) l a = h.bit_2 i l ∙ sym (g.bit_2 i l)
  odd_bit i (suc (suc r)) l a =
      in_field (frame_at 0 (2 * i + 1) + 2) 6 _ _ (h.spare i l) (g.spare i l) (omega arith) (omega arith)

  -- a bit that is no check bit: of slots 1 to 31, of the word, or of slot 0 of an odd frame
  at_data_bit : (i : ℕ) → i < 4096 * n → i % 512 ≢ 0 → Same i
  at_data_bit i l d =
      let f = i / 256 in
      let j = i % 256 / 8 in
      let m = i / 512 in
      elim (dec_lt (i % 256) 8) [
        | no a ↦
            in_field (slot_at 0 f j) 8 _ i
            (h.payload f j (omega arith) (omega arith) (omega arith))
            (g.payload f j (omega arith) (omega arith) (omega arith))
            (omega arith) (omega arith)
        | yes a ↦
            elim (dec_lt (i % 512) 8) [
              | yes b ↦
                  in_field (frame_at 0 (2 * m) + 1) 7 27 i
                  (h.word m (omega arith)) (g.word m (omega arith)) (omega arith) (omega arith)
              | no b ↦
                  let e : frame_at 0 (2 * m + 1) + i % 256 ≡ i = omega arith in
                  rw e at (odd_bit m (i % 256) (omega arith) a)
            ]
      ]

  -- so their blocks have equal checks
  check_same : (b : ℕ) → b < 2 * n → block_check s (2048 * b) ≡ block_check t (2048 * b)
  unfolding block_check
  check_same b l =
      ap (check 4)
      (striped_agree 512 0 2048 (λ i. bit_at s (2048 * b + i)) (λ i. bit_at t (2048 * b + i))
      (λ i a d. at_data_bit (2048 * b + i) (omega arith) (λ z. d (omega arith))))

  -- and carry equal checks
  carried_same : (b : ℕ) → b < 2 * n → carried s (2048 * b) ≡ carried t (2048 * b)
  carried_same zero l = h.first_check ∙ sym g.first_check
  carried_same (suc b) l =
      rw (← add-one b)
      (h.check b (omega arith) ∙ check_same b (omega arith) ∙ sym (g.check b (omega arith)))

  at_check_bit : (b j : ℕ) → b < 2 * n → j < 4 → Same (2048 * b + 512 * j)
  unfolding carried
  at_check_bit b j l a =
      spelt_same 4 (λ j. bit_at s (2048 * b + 512 * j)) (λ j. bit_at t (2048 * b + 512 * j))
      (λ j. bit_lt s (2048 * b + 512 * j)) (λ j. bit_lt t (2048 * b + 512 * j)) (carried_same b l) j a

  all_same : (i : ℕ) → i < 4096 * n → Same i
  all_same i l =
      elim (ℕ_discrete (i % 512) 0) [
        | yes z ↦
            let e : 2048 * (i / 2048) + 512 * (i % 2048 / 512) ≡ i = omega arith in
            rw e at (at_check_bit (i / 2048) (i % 2048 / 512) (omega arith) (omega arith))
        | no d ↦ at_data_bit i l d
      ]

pub standard_single : (line line' p o : List ℕ) (c k k' n : ℕ)
    → ((i : ℕ) → get_or line i 0 < 256) → ((i : ℕ) → get_or line' i 0 < 256)
    → Standard line p o c k n → Standard line' p o c k' n → (line ≡ line') × (1 ≤ n → k ≡ k')
standard_single line line' p o c k k' n octets octets' h g = (
  image_same line line' octets octets' (h.long ∙ sym g.long) (λ i l. all_same h g i (omega (arith, h.long))),
  λ a. sym h.last_check ∙ check_same h g (2 * n - 1) (omega arith) ∙ g.last_check,
)
