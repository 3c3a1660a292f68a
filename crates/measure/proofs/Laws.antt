-- The laws of reading that the crates above cite.
use Prim.Native.Nat.{ℕ, ◌+◌, ◌*◌, ◌≤◌, ◌<◌}
use mathlib.Core.Path.{◌≡◌, ap₂, ◌∙◌}
use mathlib.Core.List.{List}
use native.Mathlib.Omega.{arith}
use lib.ListN.{length, get_or}
use Rattle.line.specs.Bit.{octet_at}
use Rattle.base.proofs.TabLaws.{length_tab, get_d_tab}
use Rattle.e1.specs.Frame.{slot_at}
use Rattle.e1.specs.Payload.{index_of, frame_of, slot_of}
use Rattle.e1.proofs.Laws.{frame_of_index, slot_of_index}
use Rattle.measure.specs.Reading.{whole, slots, slots0, payload_of, slot0_of}

-- slot j of frame f stands where the payload's order says
pub slot_of_lem : (s : List ℕ) (q n f j : ℕ) → f < n → 1 ≤ j → j ≤ 31
    → get_or (slots s q n) (index_of f j) 0 ≡ octet_at s (slot_at q f j)
unfolding slots
slot_of_lem s q n f j h h₁ h₂ =
    get_d_tab (31 * n) (λ i. octet_at s (slot_at q (frame_of i) (slot_of i))) (index_of f j) 0 (omega arith)
    ∙ ap₂ (λ a b. octet_at s (slot_at q a b)) (frame_of_index f j h₁ h₂) (slot_of_index f j h₁ h₂)

pub slot0_of_lem : (s : List ℕ) (q n f : ℕ) → f < n → get_or (slots0 s q n) f 0 ≡ octet_at s (slot_at q f 0)
unfolding slots0
slot0_of_lem s q n f h = get_d_tab n (λ f. octet_at s (slot_at q f 0)) f 0 h

pub slots_length : (s : List ℕ) (q n : ℕ) → length (slots s q n) ≡ 31 * n
unfolding slots
slots_length s q n = length_tab (31 * n) (λ i. octet_at s (slot_at q (frame_of i) (slot_of i)))

pub slots0_length : (s : List ℕ) (q n : ℕ) → length (slots0 s q n) ≡ n
unfolding slots0
slots0_length s q n = length_tab n (λ f. octet_at s (slot_at q f 0))

pub payload_length : (s : List ℕ) (q g : ℕ) → length (payload_of s q g) ≡ 496 * g
payload_length s q g = slots_length s q (16 * g) ∙ omega arith

pub slot0_length : (s : List ℕ) (q g : ℕ) → length (slot0_of s q g) ≡ 16 * g
slot0_length s q g = slots0_length s q (16 * g)

-- the whole multiframes lie in the image
pub whole_fits : (s : List ℕ) (q : ℕ) → q ≤ 8 * length s → q + 4096 * whole s q ≤ 8 * length s
unfolding whole
whole_fits s q h = omega arith
