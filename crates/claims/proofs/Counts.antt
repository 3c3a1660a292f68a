-- The proof of Counts.
use Rattle.std.specs.Prelude.{if◌then◌else◌}
use Prim.Native.Nat.{ℕ, zero, suc, ◌+◌, ◌-◌, ◌*◌, ◌/◌, ◌%◌, ◌≤◌, ◌<◌}
use mathlib.Core.Path.{◌≡◌, refl, sym, ap, ap₂, ◌∙◌}
use mathlib.Core.Bool.{Bool, true, false, cond, not, true≢false}
use mathlib.Core.List.{List}
use mathlib.Core.Logic.{◌↔◌, ◌≢◌}
use native.Mathlib.Decide.{ℕ_discrete, dec_lt}
use native.Mathlib.Nat.{add-zero}
use native.Mathlib.Omega.{arith}
use borrow.Author.Tests.{lt-ltb, le-ltb, eqb-true, eq-eqb, ne_eqb}
use lib.Dec.{eqb, ltb}
use Rattle.base.specs.Tab.{sum, count}
use Rattle.base.proofs.TabLaws.{sum_pairs}
use Rattle.line.specs.Bit.{bit_at}
use Rattle.line.proofs.BitLaws.{bit_lt}
use Rattle.crc.proofs.Laws.{same}
use Rattle.e1.specs.Frame.{frame_at}
use Rattle.e1.specs.Block.{agrees}
use Rattle.read.specs.Entry.{accept, start_in, used_in, Read}
use Rattle.measure.specs.Reading.{wrong, word_errors, word_bits, compared, agrees_in, errored, zeros_e, far_end}
use Rattle.read.specs.Answer.{Reading}
use Rattle.measure.proofs.LossLaws.{wrong_word}
use Rattle.read.proofs.EntryLaws.{read_accepted, read_either}
use Rattle.claims.specs.Counts.{Counted, Agrees, WrongWord, WrongBit, bit_e_at, FarError, Counts}
use Rattle.claims.proofs.WordBits.{wrong_in, bits_counted, bits_least, bits_most, one_more_bit}

-- What is counted

module _ {n k : ℕ} {P : ℕ → Type 0} (c : Counted n k P) where
  -- n has it too: it is the last
  one_more : P n → Counted (suc n) (k + 1) P
  one_more p = record { at = at; rising = rising; each = each; all = all }
    where
      at : ℕ → ℕ
      at i = if ltb i k then c.at i else n

      before : (i : ℕ) → i < k → at i ≡ c.at i
      before i h = rw (lt-ltb i k h)

      last : (i : ℕ) → k ≤ i → at i ≡ n
      last i h = rw (le-ltb i k h)

      rising : (i : ℕ) → i + 1 < k + 1 → at i < at (i + 1)
      rising i h = let b = before i (omega arith) in elim (dec_lt (i + 1) k) [
        | yes l ↦ omega (arith, before (i + 1) l, c.rising i l)
        | no l ↦ omega (arith, last (i + 1) (omega arith), (c.each i (omega arith)).0)
      ]

      each : (i : ℕ) → i < k + 1 → (at i < suc n) × P (at i)
      each i h = elim (dec_lt i k) [
        | yes l ↦ (let (m, q) = c.each i l in rw (before i l) (omega arith, q))
        | no l ↦ rw (last i (omega arith)) (omega arith, p)
      ]

      all : (b : ℕ) → b < suc n → P b → (i : ℕ) × (i < k + 1) × (at i ≡ b)
      all b h q = elim (dec_lt b n) [
        | yes l ↦ (let (i, m, e) = c.all b l q in (i, omega arith, before i m ∙ e))
        | no l ↦ (k, omega arith, last k (omega arith) ∙ omega arith)
      ]

  -- n does not have it
  no_more : (P n → ⊥) → Counted (suc n) k P
  no_more lacks = record { at = c.at; rising = c.rising; each = each; all = all }
    where
      each : (i : ℕ) → i < k → (c.at i < suc n) × P (c.at i)
      each i h = let (l, p) = c.each i h in (omega arith, p)

      all : (b : ℕ) → b < suc n → P b → (i : ℕ) × (i < k) × (c.at i ≡ b)
      all b h p = elim (ℕ_discrete b n) [ yes e ↦ absurd (lacks (rw e at p)) | no e ↦ c.all b (omega arith) p ]

  -- the same by another name
  pub named : {Q : ℕ → Type 0} → ((i : ℕ) → P i ↔ Q i) → Counted n k Q
  named w =
      record {
        at = c.at;
        rising = c.rising;
        each = λ i h. let (l, p) = c.each i h in (l, (w (c.at i)).0 p);
        all = λ b h q. c.all b h ((w b).1 q);
      }

  -- it counts to 0 exactly where none has it
  pub none_has : k ≡ 0 ↔ ((b : ℕ) → b < n → P b → ⊥)
  none_has = (λ z b h p. let (i, l, e) = c.all b h p in omega arith, λ none. go none (ℕ_discrete k 0))
    where
      go : ((b : ℕ) → b < n → P b → ⊥) → Dec (k ≡ 0) → k ≡ 0
      go none (yes z) = z
      go none (no z) = let (l, p) = c.each 0 (omega arith) in absurd (none (c.at 0) l p)

-- what passes a test
pub counted : (n : ℕ) (t : ℕ → Bool) → Counted n (count n t) (λ i. t i ≡ true)
unfolding sum
counted zero t =
    record {
      at = λ i. i;
      rising = λ i h. absurd (omega arith);
      each = λ i h. absurd (omega arith);
      all = λ b h. absurd (omega arith);
    }
counted (suc n) t = go (counted n t) (t n) refl
  where
    go : {k : ℕ} → Counted n k (λ i. t i ≡ true) → (b : Bool) → t n ≡ b
        → Counted (suc n) (k + cond b 1 0) (λ i. t i ≡ true)
    go c true e = one_more c e
    go c false e = rw add-zero (no_more c (λ k. true≢false (sym k ∙ e)))

-- The counts of g multiframes from q on

pub not_equal : (a b : ℕ) → not (eqb a b) ≡ true ↔ (a ≢ b)
not_equal a b = (λ e z. true≢false (sym e ∙ ap not (eq-eqb a b z)), λ n. ap not (ne_eqb a b n))

-- one zero where the bit is 0, none where it is 1
is_zero : (x : ℕ) → x < 2 → 1 - x ≡ cond (eqb x 0) 1 0
is_zero zero h = refl
is_zero (suc zero) h = refl
is_zero (suc (suc x)) h = absurd (omega arith)

module _ (s : List ℕ) (q g : ℕ) where
  wrong_words : Counted (8 * g) (word_errors s q g) (WrongWord s q)
  unfolding word_errors
  wrong_words = named (counted (8 * g) (wrong s q)) (wrong_word s q)

  wrong_bits_lem : Counted (7 * (8 * g)) (word_bits s q g) (λ b. WrongBit s q (b / 7) (b % 7))
  wrong_bits_lem =
      rw (bits_counted s q g)
      (named (counted (7 * (8 * g)) (λ b. wrong_in s q (b / 7) (b % 7))) (λ b. not_equal _ _))

  differing : Counted (compared g) (errored s q g) (λ b. Agrees s q b → ⊥)
  unfolding errored agrees
  differing = named (counted (compared g) (λ b. not (agrees_in s q b))) (λ b. not_equal _ _)

  pub none_differs : errored s q g ≡ 0 ↔ ((b : ℕ) → b + 1 < 2 * g → Agrees s q b)
  none_differs = (
    λ e b h. same _ _ ((none_has differing).0 e b (omega arith)),
    λ a. (none_has differing).1 (λ b h n. n (a b (omega arith))),
  )

  -- E bit e is 0
  abbrev zero_e : ℕ → Bool
  zero_e e = eqb (bit_at s (bit_e_at q e)) 0

  far_error : (e : ℕ) → zero_e e ≡ true ↔ FarError s q e
  far_error e = (eqb-true (bit_at s (bit_e_at q e)) 0, eq-eqb (bit_at s (bit_e_at q e)) 0)

  -- those of one multiframe
  two_zeros : (m : ℕ) → zeros_e s q m ≡ cond (zero_e (2 * m)) 1 0 + cond (zero_e (2 * m + 1)) 1 0
  two_zeros m =
      let a : bit_e_at q (2 * m) ≡ frame_at q (16 * m + 13) = omega arith in
      let b : bit_e_at q (2 * m + 1) ≡ frame_at q (16 * m + 15) = omega arith in
      rw (a, b) (ap₂ (λ x y. x + y) (is_zero _ (bit_lt s _)) (is_zero _ (bit_lt s _)))

  far_errors : Counted (2 * g) (far_end s q g) (FarError s q)
  unfolding far_end
  far_errors =
      rw (sum_pairs g (zeros_e s q) (λ e. cond (zero_e e) 1 0) two_zeros)
      (named (counted (2 * g) zero_e) far_error)

-- the words and their bits, of any answer
module _ (s payload slot0 : List ℕ) where
  least_bits : (r : Reading) (p o : List ℕ) → Read s payload slot0 r p o → r.words ≤ r.wordbits
  unfolding accept
  least_bits =
      read_either s payload slot0 (λ r. r.words ≤ r.wordbits) (bits_least s (start_in s) (used_in s)) (λ n. omega arith)

  most_bits : (r : Reading) (p o : List ℕ) → Read s payload slot0 r p o → r.wordbits ≤ 7 * r.words
  unfolding accept
  most_bits =
      read_either s payload slot0 (λ r. r.wordbits ≤ 7 * r.words) (bits_most s (start_in s) (used_in s)) (λ n. omega arith)

bits_of : (s payload slot0 : List ℕ) (r : Reading) (p o : List ℕ) → Read s payload slot0 r p o → r.number ≡ 0
    → r.wordbits ≡ word_bits s r.start r.used
unfolding accept
bits_of s a b r p o h z = rw (read_accepted s a b r p o h z) refl

pub counts : Counts
unfolding accept
counts =
    record {
      words = λ s a b r p o h z. rw (read_accepted s a b r p o h z) (wrong_words s (start_in s) (used_in s));
      wrong_word = wrong_word;
      wordbits = λ s a b r p o h z. rw (read_accepted s a b r p o h z) (wrong_bits_lem s (start_in s) (used_in s));
      least_bits = least_bits;
      most_bits = most_bits;
      no_bits = λ s a b r p o h.
          let l = least_bits s a b r p o h in
          let m = most_bits s a b r p o h in
          (λ e. omega arith, λ e. omega arith);
      one_hit = λ s a b r p o h z t a' b' r' p' o' h' z' same_start same-used i j l hit.
          bits_of t a' b' r' p' o' h' z' ∙ ap₂ (word_bits t) same_start same-used
          ∙ one_more_bit hit r.used l ∙ ap (λ x. x + 1) (sym (bits_of s a b r p o h z));
      errored = λ s a b r p o h z. rw (read_accepted s a b r p o h z) (differing s (start_in s) (used_in s));
      farend = λ s a b r p o h z. rw (read_accepted s a b r p o h z) (far_errors s (start_in s) (used_in s));
      none_errored = λ s a b r p o h z. rw (read_accepted s a b r p o h z) (none_differs s (start_in s) (used_in s));
    }
