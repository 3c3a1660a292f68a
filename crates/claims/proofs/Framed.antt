-- What is read from a line that stands whole: every word, every bit 2, every signal and every check in its place.
use Prim.Native.Nat.{ℕ, ◌+◌, ◌*◌, ◌≤◌, ◌<◌}
use mathlib.Core.Path.{◌≡◌, refl, ap, ap₂, ◌∙◌}
use mathlib.Core.Bool.{Bool, true, false, ◌&&◌, not, cond}
use mathlib.Core.List.{List}
use Rattle.std.specs.Prelude.{Option, None, Some}
use native.Mathlib.Nat.{zero-add}
use native.Mathlib.Omega.{arith}
use borrow.Author.Tests.{eqb-true, eq-eqb, le-leb}
use lib.Dec.{eqb, leb, lit<}
use lib.ListN.{length, get_or}
use Rattle.line.specs.Bit.{bit_at}
use Rattle.base.specs.Tab.{first, least}
use Rattle.base.proofs.TabLaws.{some_first, some_least, at_all, sum_none}
use Rattle.line.specs.Signal.{signal}
use Rattle.e1.specs.Frame.{frame_at, word_at}
use Rattle.e1.specs.Block.{agrees}
use Rattle.align.specs.Place.{basic, mark, signal_at, pair_at, with_place, standing, first_standing}
use Rattle.measure.specs.Reading.{whole, wrong_bits_of, wrong, wrong_bit2, word_loss, bit2_loss, earlier, loss, word_errors}
use Rattle.measure.specs.Reading.{word_bits, compared, agrees_in, errored}
use Rattle.measure.proofs.LossLaws.{right_bit_2}
use Rattle.measure.proofs.Runs.{never_third}

-- a line of n multiframes, its first bit that of a frame 0
pub record Framed (s : List ℕ) (n : ℕ) : Type 0 where
  pub long : length s ≡ 512 * n
  pub word : (f : ℕ) → f < 8 * n → word_at s (frame_at 0 (2 * f)) ≡ true
  pub bit_2 : (f : ℕ) → f < 8 * n → bit_at s (frame_at 0 (2 * f + 1) + 1) ≡ 1
  pub signals : (m i : ℕ) → m < n → i < 6 → bit_at s (frame_at 0 (16 * m + (2 * i + 1))) ≡ get_or signal i 0
  pub agree : (b : ℕ) → b + 1 < 2 * n → agrees s (2048 * b) ≡ true

all_three : (a b c : Bool) → a ≡ true → b ≡ true → c ≡ true → a && (b && c) ≡ true
all_three a b c p q r = rw (p, q, r)

stood : (a b : Bool) (o : Option ℕ) → a ≡ true → b ≡ true → o ≡ Some 0 → cond (a && b) (with_place 0 o) None ≡ Some (record {
  place =
      0;
  k = 0;
})
stood a b o p q r = rw (p, q, r)

module _ (s : List ℕ) (n : ℕ) (h : Framed s n) where
  signal_at_lem : (m : ℕ) → m < n → signal_at s 0 (8 * m) ≡ true
  unfolding signal_at
  signal_at_lem m l =
      at_all 6 (λ i. eqb (mark s 0 (8 * m + i)) (get_or signal i 0))
      (λ i k.
      let p : 0 + 256 + 512 * (8 * m + i) ≡ frame_at 0 (16 * m + (2 * i + 1)) = omega arith in
      eq-eqb (mark s 0 (8 * m + i)) (get_or signal i 0) (ap (bit_at s) p ∙ h.signals m i l k))

  pair_at_lem : 4 ≤ n → pair_at s 0 0 ≡ true
  unfolding pair_at
  pair_at_lem four =
      let a : signal_at s 0 0 ≡ true = signal_at_lem 0 (omega arith) in
      let b : signal_at s 0 8 ≡ true = signal_at_lem 1 (omega arith) in
      rw (a, b)

  aligned : 4 ≤ n → basic s 0 ≡ true
  unfolding basic
  aligned four =
      all_three (word_at s 0) (eqb (bit_at s 257) 1) (word_at s 512)
      (h.word 0 (omega arith)) (eq-eqb (bit_at s 257) 1 (h.bit_2 0 (omega arith))) (h.word 1 (omega arith))

  -- place 0 stands, with k 0
  pub stands_at_once : 4 ≤ n → first_standing s ≡ Some (record { place = 0; k = 0 })
  unfolding first_standing standing first
  stands_at_once four =
      let l = h.long in
      some_first (8 * length s) 0 (standing s) (record { place = 0; k = 0 }) (omega arith) refl
      (stood (leb 16384 (8 * length s)) (basic s 0) (least 32 (pair_at s 0))
      (le-leb 16384 (8 * length s) (omega arith)) (aligned four) (some_least 32 0 (pair_at s 0) (lit< tt) refl (pair_at_lem four)))

  pub all_whole : whole s 0 ≡ n
  unfolding whole
  all_whole = let l = h.long in omega arith

  never_wrong : (i : ℕ) → i < 8 * n → wrong s 0 i ≡ false
  unfolding wrong
  never_wrong i l = ap not (h.word i l)

  pub never_lost : loss s 0 n ≡ None
  unfolding loss word_loss bit2_loss
  never_lost =
      ap₂ earlier
      (never_third (wrong s 0) (λ i. 2 * i) (8 * n) never_wrong)
      (never_third (wrong_bit2 s 0) (λ i. 2 * i + 1) (8 * n) (λ i l. right_bit_2 s 0 i (h.bit_2 i l)))

  pub no_word_errors : word_errors s 0 n ≡ 0
  unfolding word_errors
  no_word_errors = sum_none (8 * n) (λ i. cond (wrong s 0 i) 1 0) (λ i l. ap (λ b. cond b 1 0) (never_wrong i l))

  pub no_word_bits : word_bits s 0 n ≡ 0
  unfolding word_bits
  no_word_bits = sum_none (8 * n) (wrong_bits_of s 0) (λ i l. eqb-true _ _ (h.word i l))

  each_clean : (b : ℕ) → b < compared n → agrees_in s 0 b ≡ true
  each_clean b l = ap (agrees s) (zero-add (2048 * b)) ∙ h.agree b (omega arith)

  pub none_errored : errored s 0 n ≡ 0
  unfolding errored
  none_errored =
      sum_none (compared n) (λ b. cond (not (agrees_in s 0 b)) 1 0) (λ b l. ap (λ c. cond (not c) 1 0) (each_clean b l))
