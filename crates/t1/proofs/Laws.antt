-- The laws of superframes and of their check that the crates above cite.
use Prim.Native.Nat.{ℕ, ◌+◌, ◌-◌, ◌*◌, ◌/◌, ◌%◌, ◌<◌}
use mathlib.Core.Path.{◌≡◌, ap, ◌∙◌}
use mathlib.Core.Logic.{◌≢◌}
use mathlib.Core.List.{List}
use native.Mathlib.Omega.{arith}
use lib.Dec.{lit≤, lit<}
use lib.ListN.{take, drop}
use lib.Seq.{get_or-take, get_or-drop}
use Rattle.line.specs.Bit.{bit_at}
use Rattle.line.proofs.BitLaws.{bit_lt}
use Rattle.line.proofs.SpeltLaws.{Binary}
use Rattle.crc.specs.Remainder.{check}
use Rattle.crc.proofs.Laws.{check_lt}
use Rattle.crc.proofs.StripedLaws.{striped_agree, striped_bits}
use Rattle.t1.specs.Superframe.{check_of}
use Rattle.t1.specs.Payload.{data_bit}

pub data_lt : (p : List ℕ) → Binary (data_bit p)
unfolding data_bit
data_lt p i = bit_lt p _

-- two superframes with the same data bits have the same check
pub check_of_agree : (f g : ℕ → ℕ) → ((i : ℕ) → i < 4632 → i % 193 ≢ 0 → f i ≡ g i) → check_of f ≡ check_of g
unfolding check_of
check_of_agree f g h = ap (check 6) (striped_agree _ _ _ f g h)

pub check_of_lt : (f : ℕ → ℕ) → Binary f → check_of f < 64
unfolding check_of
check_of_lt f h = check_lt 6 (lit≤ tt) _ (striped_bits _ _ _ (lit< tt) f h)

-- the bits of n octets from octet i on
pub bit_part : (s : List ℕ) (i n b : ℕ) → b < 8 * n → bit_at (take n (drop i s)) b ≡ bit_at s (8 * i + b)
unfolding bit_at
bit_part s i n b h =
    let d : (8 * i + b) / 8 ≡ i + b / 8 = omega arith in
    let r : (8 * i + b) % 8 ≡ b % 8 = omega arith in
    rw (get_or-take n (drop i s) (b / 8) 0 (omega arith), get_or-drop i s (b / 8) 0, d, r)

-- the data bits that n frames from frame f on take of a payload
pub data_part : (p : List ℕ) (f n i : ℕ) → i < 193 * n
    → data_bit (take (24 * n) (drop (24 * f) p)) i ≡ data_bit p (193 * f + i)
unfolding data_bit
data_part p f n i h =
    let d : (193 * f + i) / 193 ≡ f + i / 193 = omega arith in
    let r : (193 * f + i) % 193 ≡ i % 193 = omega arith in
    let e : 8 * (24 * f) + (192 * (i / 193) + (i % 193 - 1)) ≡ 192 * ((193 * f + i) / 193) + ((193 * f + i) % 193 - 1) = omega arith in
    bit_part p (24 * f) (24 * n) (192 * (i / 193) + (i % 193 - 1)) (omega arith) ∙ ap (bit_at p) e
