-- The framing bits of a superframe as one number, the first the highest.
use Prim.Native.Nat.{ℕ, ◌+◌, ◌-◌, ◌*◌, ◌/◌, ◌%◌, ◌^◌, ◌<◌}
use mathlib.Core.Path.{◌≡◌, refl, sym, ap, ◌∙◌}
use mathlib.Core.List.{List}
use native.Mathlib.Omega.{arith}
use borrow.Author.Tests.{eqb-true}
use lib.Dec.{eqb}
use lib.ListN.{get_or}
use Rattle.base.specs.Tab.{all}
use Rattle.base.proofs.TabLaws.{all_at}
use Rattle.line.specs.Signal.{signal}
use Rattle.line.specs.Spelt.{spelt, digit}
use Rattle.line.specs.Window.{bit_of}
use Rattle.line.proofs.SpeltLaws.{Binary, spelt_add, digit_spelt}
use Rattle.line.proofs.WindowLaws.{shifted_bit, low_bit}
use Rattle.t1write.specs.Writing.{framing_bit}
use Rattle.t1write.proofs.Laws.{link_frame, check_frame, signal_frame}

-- the signal as a number
signal_digit : (j : ℕ) → j < 6 → digit 6 0b001011 j ≡ get_or signal j 0
unfolding all
signal_digit j h = eqb-true _ _ (all_at 6 (λ j. eqb (digit 6 0b001011 j) (get_or signal j 0)) refl j h)

module _ (l : List ℕ) (k : ℕ) where
  -- of four frames more: the data link, the check, the data link and the signal
  pub four_more : (b j : ℕ) → j < 6 → b ≡ spelt (4 * j) (framing_bit l k)
      → 16 * b + 8 * get_or l (2 * j) 0 + 4 * digit 6 k j + 2 * get_or l (2 * j + 1) 0 + digit 6 0b001011 j
      ≡ spelt (4 * (j + 1)) (framing_bit l k)
  unfolding spelt
  four_more b j h eb =
      let f : ℕ → ℕ = framing_bit l k in
      let e : 4 * (j + 1) ≡ 4 * j + 4 = omega arith in
      let d₀ : (4 * j + 0) / 2 ≡ 2 * j = omega arith in
      let d₁ : (4 * j + 1) / 4 % 6 ≡ j = omega arith in
      let d₂ : (4 * j + 2) / 2 ≡ 2 * j + 1 = omega arith in
      let d₃ : (4 * j + 3) / 4 % 6 ≡ j = omega arith in
      let b₀ = link_frame l k (4 * j + 0) (omega arith) ∙ ap (λ i. get_or l i 0) d₀ in
      let b₁ = check_frame l k (4 * j + 1) (omega arith) ∙ ap (digit 6 k) d₁ in
      let b₂ = link_frame l k (4 * j + 2) (omega arith) ∙ ap (λ i. get_or l i 0) d₂ in
      let b₃ = signal_frame l k (4 * j + 3) (omega arith) ∙ ap (λ i. get_or signal i 0) d₃ ∙ sym (signal_digit j h) in
      sym (ap (λ n. spelt n f) e ∙ spelt_add (4 * j) 4 f ∙ rw (b₀, b₁, b₂, b₃) (omega arith))

  -- those of eight frames
  pub eight_framing : Binary (framing_bit l k) → (a g : ℕ) → a < 3 → g < 8
      → digit 8 (spelt 24 (framing_bit l k) / 2 ^ (16 - 8 * a) % 256) g ≡ framing_bit l k (8 * a + g)
  eight_framing bits a g h m =
      let n : ℕ = spelt 24 (framing_bit l k) in
      let e : g + 1 + (7 - g) ≡ 8 = omega arith in
      let d : 7 - g + (16 - 8 * a) ≡ 24 - 1 - (8 * a + g) = omega arith in
      ap (λ w. bit_of (n / 2 ^ (16 - 8 * a) % 2 ^ w) (7 - g)) (sym e) ∙ sym (low_bit (n / 2 ^ (16 - 8 * a)) g (7 - g))
      ∙ shifted_bit n (7 - g) (16 - 8 * a) ∙ ap (bit_of n) d ∙ digit_spelt 24 (8 * a + g) (framing_bit l k) bits (omega arith)
