-- G.704's table of T1 leaves no bit open.
use Prim.Native.Nat.{ℕ, zero, suc, ◌+◌, ◌-◌, ◌*◌, ◌/◌, ◌%◌, ◌≤◌, ◌<◌}
use mathlib.Core.Path.{◌≡◌, sym, ◌∙◌}
use mathlib.Core.Logic.{◌≢◌}
use mathlib.Core.List.{List}
use native.Mathlib.Decide.{ℕ_discrete}
use native.Mathlib.Omega.{arith}
use lib.ListN.{get_or}
use Rattle.line.specs.Bit.{bit_at}
use Rattle.line.proofs.BitLaws.{field_same, image_same}
use Rattle.t1.specs.Superframe.{framing_at, octet_place, carried, super_check}
use Rattle.t1.proofs.Laws.{check_of_agree}
use Rattle.claims.specs.T1Demand2.{FramingT1, StandardT1}
use Rattle.claims.proofs.T1Demand3.{carried_bit_lem}

-- two lines with one table of framing bits, and the same data bits
module _ {line line' l : List ℕ} {c k k' n : ℕ} (h : FramingT1 line l c k n) (g : FramingT1 line' l c k' n)
    (sent : (i : ℕ) → i < 4632 * n → i % 193 ≢ 0 → bit_at line i ≡ bit_at line' i) where
  check_same : (b : ℕ) → b < n → super_check line (4632 * b) ≡ super_check line' (4632 * b)
  check_same b l = check_of_agree _ _ (λ i m z. sent (4632 * b + i) (omega arith) (λ e. z (omega arith)))

  carried_same : (b : ℕ) → b < n → carried line (4632 * b) ≡ carried line' (4632 * b)
  carried_same zero l = h.first_check ∙ sym g.first_check
  carried_same (suc b) l =
      let e : 4632 * suc b ≡ 4632 * (b + 1) = omega arith in
      rw e (h.check b (omega arith) ∙ check_same b (omega arith) ∙ sym (g.check b (omega arith)))

  -- frame r of superframe b
  framing_same : (b r : ℕ) → b < n → r < 24 → bit_at line (framing_at (4632 * b) r) ≡ bit_at line' (framing_at (4632 * b) r)
  framing_same b r l m = go (ℕ_discrete (r % 2) 0) (ℕ_discrete (r % 4) 1)
    where
      go : Dec (r % 2 ≡ 0) → Dec (r % 4 ≡ 1) → bit_at line (framing_at (4632 * b) r) ≡ bit_at line' (framing_at (4632 * b) r)
      go (yes z) d =
          let e : framing_at 0 (2 * (12 * b + r / 2)) ≡ framing_at (4632 * b) r = omega arith in
          rw e at (h.link (12 * b + r / 2) (omega arith) ∙ sym (g.link (12 * b + r / 2) (omega arith)))
      go (no z) (yes d) =
          let e : 4 * (r / 4) + 1 ≡ r = omega arith in
          rw e at (carried_bit_lem line line' (4632 * b) (r / 4) (omega arith) (carried_same b l))
      go (no z) (no d) =
          let e : 4 * (r / 4) + 3 ≡ r = omega arith in
          rw e at (h.signals b (r / 4) l (omega arith) ∙ sym (g.signals b (r / 4) l (omega arith)))

  all_same : (i : ℕ) → i < 4632 * n → bit_at line i ≡ bit_at line' i
  all_same i l = elim (ℕ_discrete (i % 193) 0) [
    | yes z ↦ (
        let e : framing_at (4632 * (i / 4632)) (i % 4632 / 193) ≡ i = omega arith in
        rw e at (framing_same (i / 4632) (i % 4632 / 193) (omega arith) (omega arith)))
    | no z ↦ sent i l z
  ]

  last_same : 1 ≤ n → k ≡ k'
  last_same l = sym h.last_check ∙ check_same (n - 1) (omega arith) ∙ g.last_check

pub standard_single : (line line' p l : List ℕ) (c k k' n : ℕ)
    → ((i : ℕ) → get_or line i 0 < 256) → ((i : ℕ) → get_or line' i 0 < 256)
    → StandardT1 line p l c k n → StandardT1 line' p l c k' n → (line ≡ line') × (1 ≤ n → k ≡ k')
standard_single line line' p l c k k' n octets octets' h g = (
  image_same line line' octets octets' (h.framing.long ∙ sym g.framing.long)
      (λ i m. all_same h.framing g.framing sent i (omega (arith, h.framing.long))),
  last_same h.framing g.framing sent,
)
  where
    octet_bit : (f d : ℕ) → f < 24 * n → d < 192 → bit_at line (framing_at 0 f + 1 + d) ≡ bit_at line' (framing_at 0 f + 1 + d)
    octet_bit f d l m =
        let e : octet_place 0 f (d / 8) + d % 8 ≡ framing_at 0 f + 1 + d = omega arith in
        rw e at (field_same line line' (octet_place 0 f (d / 8)) 8
        (h.payload f (d / 8) l (omega arith) ∙ sym (g.payload f (d / 8) l (omega arith))) (d % 8) (omega arith))

    sent : (i : ℕ) → i < 4632 * n → i % 193 ≢ 0 → bit_at line i ≡ bit_at line' i
    sent i l z =
        let e : framing_at 0 (i / 193) + 1 + (i % 193 - 1) ≡ i = omega arith in
        rw e at (octet_bit (i / 193) (i % 193 - 1) (omega arith) (omega arith))
