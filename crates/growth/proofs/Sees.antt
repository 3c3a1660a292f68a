-- What a part of a line shows of it: bits, fields, words, places that stand. A longer line keeps these, and octets before
-- it shift them by 8 places each.
use Rattle.std.specs.Prelude.{if◌then◌else◌}
use Prim.Native.Nat.{ℕ, ◌+◌, ◌*◌, ◌/◌, ◌%◌, ◌≤◌, ◌<◌}
use mathlib.Core.Path.{◌≡◌, sym, ap, ◌∙◌}
use mathlib.Core.Bool.{not}
use mathlib.Core.List.{List, ◌++◌}
use mathlib.Core.Logic.{◌↔◌}
use native.Mathlib.Omega.{arith}
use lib.Dec.{eqb}
use lib.ListN.{length, get_or, drop, get_or-append}
use lib.Seq.{get_or-drop}
use Rattle.base.proofs.TabLaws.{sum_ext}
use Rattle.line.specs.Bit.{bit_at, field}
use Rattle.line.proofs.SpeltLaws.{spelt_agree}
use Rattle.e1.specs.Frame.{alignment, wrong_bit, wrong_bits}
use Rattle.align.specs.Place.{mark}
use Rattle.align.specs.Stands.{Basic, Signal, Pair, Stands}

-- t shows n bits of s, those from place d on
abbrev pub Sees : List ℕ → List ℕ → ℕ → ℕ → Type 0
Sees s t d n = (p : ℕ) → p < n → bit_at s (d + p) ≡ bit_at t p

-- a line's front shows it
pub front_sees : (s t : List ℕ) → Sees (s ++ t) s 0 (8 * length s)
unfolding bit_at
front_sees s t p h =
    let e : 0 + p ≡ p = omega arith in
    rw (e, get_or-append s t 0 (p / 8) (omega arith))

-- a line without its first octets shows it, 8 places to each of them
pub back_sees : (s : List ℕ) (c n : ℕ) → Sees s (drop c s) (8 * c) n
unfolding bit_at
back_sees s c n p h =
    let a : (8 * c + p) / 8 ≡ c + p / 8 = omega arith in
    let b : (8 * c + p) % 8 ≡ p % 8 = omega arith in
    rw (a, b, get_or-drop c s (p / 8) 0)

module _ (s t : List ℕ) (d n : ℕ) (h : Sees s t d n) where
  pub bit_seen : (a p : ℕ) → a ≡ d + p → p < n → bit_at s a ≡ bit_at t p
  bit_seen a p e l = ap (bit_at s) e ∙ h p l

  pub field_seen : (a p k : ℕ) → a ≡ d + p → p + k ≤ n → field s a k ≡ field t p k
  unfolding field
  field_seen a p k e l =
      spelt_agree k (λ i. bit_at s (a + i)) (λ i. bit_at t (p + i)) (λ i j. bit_seen (a + i) (p + i) (omega arith) (omega arith))

  -- the word of a frame, judged
  pub word_seen : (a p : ℕ) → a ≡ d + p → p + 8 ≤ n → wrong_bits s a ≡ wrong_bits t p
  unfolding wrong_bits
  word_seen a p e l =
      sum_ext 7 (λ i. if wrong_bit s a i then 1 else 0) (λ i. if wrong_bit t p i then 1 else 0)
      (λ i j. ap (λ b. if not (eqb b (get_or alignment i 0)) then 1 else 0) (bit_seen (a + 1 + i) (p + 1 + i) (omega arith) (omega arith)))

  pub basic_seen : (a p : ℕ) → a ≡ d + p → p + 520 ≤ n → Basic s a ↔ Basic t p
  basic_seen a p e l =
      let u = field_seen (a + 1) (p + 1) 7 (omega arith) (omega arith) in
      let v = bit_seen (a + 257) (p + 257) (omega arith) (omega arith) in
      let w = field_seen (a + 513) (p + 513) 7 (omega arith) (omega arith) in (
        λ b. record { word = sym u ∙ b.word; bit_2 = sym v ∙ b.bit_2; word_again = sym w ∙ b.word_again },
        λ b. record { word = u ∙ b.word; bit_2 = v ∙ b.bit_2; word_again = w ∙ b.word_again },
      )

  pub signal_seen : (a p k : ℕ) → a ≡ d + p → p + 16384 ≤ n → k + 5 ≤ 31 → Signal s a k ↔ Signal t p k
  signal_seen a p k e l g =
      let m : (i : ℕ) → i < 6 → mark s a (k + i) ≡ mark t p (k + i) =
      λ i j. bit_seen (a + 256 + 512 * (k + i)) (p + 256 + 512 * (k + i)) (omega arith) (omega arith) in
      (λ b i j. sym (m i j) ∙ b i j, λ b i j. m i j ∙ b i j)

  pub pair_seen : (a p k : ℕ) → a ≡ d + p → p + 16384 ≤ n → Pair s a k ↔ Pair t p k
  pair_seen a p k e l = (
    λ b. record {
      here = (signal_seen a p k e l (omega (arith, b.within))).0 b.here;
      j = b.j;
      least_j = b.least_j;
      most_j = b.most_j;
      within = b.within;
      again = (signal_seen a p (k + 8 * b.j) e l b.within).0 b.again;
    },
    λ b. record {
      here = (signal_seen a p k e l (omega (arith, b.within))).1 b.here;
      j = b.j;
      least_j = b.least_j;
      most_j = b.most_j;
      within = b.within;
      again = (signal_seen a p (k + 8 * b.j) e l b.within).1 b.again;
    },
  )

  -- a place that has its 16,384 bits in both stands in both, with the same least k
  pub stands_seen : (a p k : ℕ) → a ≡ d + p → p + 16384 ≤ n → p + 16384 ≤ 8 * length t → a + 16384 ≤ 8 * length s
      → Stands s a k ↔ Stands t p k
  stands_seen a p k e l g f = (
    λ b. record {
      room = g;
      basic = (basic_seen a p e (omega arith)).0 b.basic;
      pair = (pair_seen a p k e l).0 b.pair;
      least = λ j i c. b.least j i ((pair_seen a p j e l).1 c);
    },
    λ b. record {
      room = f;
      basic = (basic_seen a p e (omega arith)).1 b.basic;
      pair = (pair_seen a p k e l).1 b.pair;
      least = λ j i c. b.least j i ((pair_seen a p j e l).0 c);
    },
  )
