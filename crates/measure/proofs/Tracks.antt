-- The words of even frames and the bits 2 of odd ones, as one pass goes by them.
use Rattle.std.specs.Prelude.{if◌then◌else◌}
use Prim.Native.Nat.{ℕ, ◌+◌, ◌-◌, ◌*◌, ◌≤◌, ◌<◌, min}
use mathlib.Core.Path.{◌≡◌, refl, sym, ap, ap₂, ◌∙◌}
use mathlib.Core.Bool.{Bool, true, false, not}
use mathlib.Core.List.{List}
use Rattle.std.specs.Prelude.{None, Some}
use native.Mathlib.Omega.{arith}
use lib.Dec.{eqb}
use Rattle.base.specs.Tab.{sum, count}
use Rattle.base.proofs.TabLaws.{sum_more, sum_le, count_le}
use Rattle.line.specs.Bit.{bit_at}
use Rattle.e1.specs.Frame.{frame_at}
use Rattle.e1.proofs.WordLaws.{wrong_most}
use Rattle.measure.specs.Reading.{wrong_bits_of, wrong, wrong_bit2, earlier, loss_from, word_errors, word_bits}
use Rattle.measure.specs.Track.{Runs, run_of}
use Rattle.measure.specs.declared.Tracking.{Tracking}
use Rattle.measure.proofs.FromLaws.{wrong_bits_later, wrong_later, earlier_first, earlier_second}
use Rattle.measure.proofs.Runs.{Run, loss_in, run_more_of, run_on, run_lost, none_lost, lost_later}

-- what is kept of the runs, and no count yet, when the frames from 2a on of i words and j bits 2 have gone by
pub record Told (s : List ℕ) (q a i j : ℕ) (t : Tracking) : Type 0 where
  pub words_run : t.wordrun ≡ min (i - a) (run_of (wrong s q) i)
  pub bits2_run : t.bit2run ≡ min (j - a) (run_of (wrong_bit2 s q) j)
  pub no_words : t.words ≡ 0
  pub no_bits : t.wordbits ≡ 0

pub none_told : (s : List ℕ) (q a : ℕ) → Told s q a a a (record { wordrun = 0; bit2run = 0; words = 0; wordbits = 0 })
none_told s q a = record { words_run = omega arith; bits2_run = omega arith; no_words = refl; no_bits = refl }

-- two of each kind tell as much as more
pub told_short : {s : List ℕ} {q a i j : ℕ} {t : Tracking} → Told s q a i j t → i ≤ a + 2 → j ≤ a + 2
    → (t.wordrun < 3) × (t.bit2run < 3)
told_short {s} {q} {a} {i} {j} {t} p k l = (go i t.wordrun _ k p.words_run, go j t.bit2run _ l p.bits2_run)
  where
    go : (i x r : ℕ) → i ≤ a + 2 → x ≡ min (i - a) r → x < 3
    go i x r l e = omega arith

pub told_runs : {s : List ℕ} {q h a i : ℕ} {t : Tracking} → Told s q a i i t → i ≡ 8 * h → i ≡ a + 2 → Runs s q h t
told_runs {s} {q} {h} {a} {i} {t} p e k =
    let two : i - a ≡ 2 = omega arith in
    record {
      wordrun = p.words_run ∙ ap₂ (λ d n. min d (run_of (wrong s q) n)) two e;
      bit2run = p.bits2_run ∙ ap₂ (λ d n. min d (run_of (wrong_bit2 s q) n)) two e;
      words = p.no_words;
      wordbits = p.no_bits;
    }

module _ {s : List ℕ} {q a i : ℕ} {t t' : Tracking} (l : a ≤ i) where
  pub word_told : Told s q a i i t → t'.wordrun ≡ (if wrong s q i then t.wordrun + 1 else 0) → t'.bit2run ≡ t.bit2run
      → t'.words ≡ t.words → t'.wordbits ≡ t.wordbits → Told s q a (i + 1) i t'
  word_told p e₀ e₁ e₂ e₃ =
      let n : i - a + 1 ≡ i + 1 - a = omega arith in
      record {
        words_run =
            run_more_of (wrong s q) i (i - a) t.wordrun t'.wordrun p.words_run e₀
            ∙ ap (λ d. min d (run_of (wrong s q) (i + 1))) n;
        bits2_run = e₁ ∙ p.bits2_run;
        no_words = e₂ ∙ p.no_words;
        no_bits = e₃ ∙ p.no_bits;
      }

  pub bit2_told : Told s q a (i + 1) i t → t'.wordrun ≡ t.wordrun → t'.bit2run ≡ (if wrong_bit2 s q i then t.bit2run + 1 else 0)
      → t'.words ≡ t.words → t'.wordbits ≡ t.wordbits → Told s q a (i + 1) (i + 1) t'
  bit2_told p e₀ e₁ e₂ e₃ =
      let n : i - a + 1 ≡ i + 1 - a = omega arith in
      record {
        words_run = e₀ ∙ p.words_run;
        bits2_run =
            run_more_of (wrong_bit2 s q) i (i - a) t.bit2run t'.bit2run p.bits2_run e₁
            ∙ ap (λ d. min d (run_of (wrong_bit2 s q) (i + 1))) n;
        no_words = e₂ ∙ p.no_words;
        no_bits = e₃ ∙ p.no_bits;
      }

-- what is kept when i words and j bits 2 have gone by, tracked from multiframe h on
pub record Passed (s : List ℕ) (q h i j : ℕ) (t : Tracking) : Type 0 where
  pub from : 8 * h ≤ i
  pub words_run : Run (wrong s q) (8 * h) i t.wordrun
  pub bits2_run : Run (wrong_bit2 s q) (8 * h) j t.bit2run
  pub its_count : t.words ≡ count (i - 8 * h) (wrong s (q + 4096 * h))
  pub its_bits : t.wordbits ≡ sum (i - 8 * h) (wrong_bits_of s (q + 4096 * h))

-- h multiframes have gone by, and nothing is counted
pub none_passed : (s : List ℕ) (q h : ℕ) (t : Tracking) → Runs s q h t → Passed s q h (8 * h) (8 * h) t
unfolding sum
none_passed s q h t r =
    let z : 8 * h - 8 * h ≡ 0 = omega arith in
    record {
      from = omega arith;
      words_run = record { its = r.wordrun; no_loss = λ k a b. absurd (omega arith) };
      bits2_run = record { its = r.bit2run; no_loss = λ k a b. absurd (omega arith) };
      its_count = r.words ∙ sym (ap (λ n. count n (wrong s (q + 4096 * h))) z);
      its_bits = r.wordbits ∙ sym (ap (λ n. sum n (wrong_bits_of s (q + 4096 * h))) z);
    }

module _ {s : List ℕ} {q h i j : ℕ} {t : Tracking} (p : Passed s q h i j t) where
  pub count_below : t.words ≤ i
  count_below = omega (arith, count_le (i - 8 * h) (wrong s (q + 4096 * h)), p.its_count)

  pub bits_below : t.wordbits ≤ 7 * i
  bits_below =
      let r = q + 4096 * h in
      omega (arith, sum_le (i - 8 * h) 7 (wrong_bits_of s r) (λ k l. wrong_most s (frame_at r (2 * k))), p.its_bits)

  -- g multiframes have gone by: what is counted is of those from h on
  pub multiframes_passed : (g : ℕ) → i ≡ 8 * g
      → (t.words ≡ word_errors s (q + 4096 * h) (g - h)) × (t.wordbits ≡ word_bits s (q + 4096 * h) (g - h))
  unfolding word_errors word_bits
  multiframes_passed g e =
      let n : i - 8 * h ≡ 8 * (g - h) = omega arith in (
        p.its_count ∙ ap (λ x. count x (wrong s (q + 4096 * h))) n,
        p.its_bits ∙ ap (λ x. sum x (wrong_bits_of s (q + 4096 * h))) n,
      )

  pub none_yet : (m : ℕ) → h ≤ m → 8 * m ≤ i → 8 * m ≤ j → loss_from s q h m ≡ None
  unfolding loss_from
  none_yet m a k l =
      ap₂ earlier
      (none_lost p.words_run (λ k. 2 * k) (8 * (m - h)) (omega arith))
      (none_lost p.bits2_run (λ k. 2 * k + 1) (8 * (m - h)) (omega arith))

if_not : {A : Type 0} (b : Bool) (x y : A) → (if b then x else y) ≡ (if not b then y else x)
if_not true x y = refl
if_not false x y = refl

-- the word of frame 2i goes by, with w wrong bits
module _ {s : List ℕ} {q h i : ℕ} {t : Tracking} (p : Passed s q h i i t) {w : ℕ} (e : w ≡ wrong_bits_of s q i) {t' : Tracking}
    (r : (t'.wordrun ≡ (if eqb w 0 then 0 else t.wordrun + 1)) × (t'.bit2run ≡ t.bit2run)
    × (t'.words ≡ t.words + (if eqb w 0 then 0 else 1)) × (t'.wordbits ≡ t.wordbits + w)) where
  judged : not (eqb w 0) ≡ wrong s q i
  unfolding wrong
  judged = ap (λ x. not (eqb x 0)) e

  chosen : (x : ℕ) → (if eqb w 0 then 0 else x) ≡ (if wrong s q i then x else 0)
  chosen x = if_not (eqb w 0) 0 x ∙ ap (λ b. if b then x else 0) judged

  word_run : t'.wordrun ≡ (if wrong s q i then t.wordrun + 1 else 0)
  word_run = r.0 ∙ chosen (t.wordrun + 1)

  pub lost_by_word : t'.wordrun ≡ 3 → (m : ℕ) → i < 8 * m → loss_from s q h m ≡ Some (2 * i)
  unfolding loss_from
  lost_by_word z m l =
      let n = 8 * (m - h) in
      let a = p.from in
      let other = loss_in (wrong_bit2 s q) (λ k. 2 * k + 1) (8 * h) n in
      ap (λ o. earlier o other) (run_lost p.words_run word_run z a (λ k. 2 * k) n (omega arith))
      ∙ earlier_first (2 * i) other (λ g k. let l = lost_later p.bits2_run (λ k. 2 * k + 1) n g k in omega arith)

  pub word_passed : (t'.wordrun ≡ 3 → ⊥) → Passed s q h (i + 1) i t'
  word_passed z =
      let a = p.from in
      let u = q + 4096 * h in
      let k = i - 8 * h in
      let is : 8 * h + k ≡ i = omega arith in
      let one : i + 1 - 8 * h ≡ k + 1 = omega arith in
      let same : wrong s q i ≡ wrong s u k = ap (wrong s q) (sym is) ∙ wrong_later s q h k in
      let counted : ◌≡◌ {A = ℕ} (if eqb w 0 then 0 else 1) (if wrong s u k then 1 else 0) = chosen 1 ∙ ap (λ b. if b then 1 else 0) same in
      let bits : w ≡ wrong_bits_of s u k = e ∙ ap (wrong_bits_of s q) (sym is) ∙ wrong_bits_later s q h k in
      record {
        from = omega arith;
        words_run = run_on p.words_run word_run z;
        bits2_run = rw r.1 p.bits2_run;
        its_count = r.2 ∙ ap₂ ◌+◌ p.its_count counted ∙ sym (sum_more k (λ j. if wrong s u j then 1 else 0))
            ∙ sym (ap (λ n. count n (wrong s u)) one);
        its_bits = r.3 ∙ ap₂ ◌+◌ p.its_bits bits ∙ sym (sum_more k (wrong_bits_of s u)) ∙ sym (ap (λ n. sum n (wrong_bits_of s u)) one);
      }

-- bit 2 of frame 2i + 1 goes by
module _ {s : List ℕ} {q h i : ℕ} {t : Tracking} (p : Passed s q h (i + 1) i t) {b : ℕ} (e : b ≡ bit_at s (frame_at q (2 * i + 1) + 1))
    {t' : Tracking}
    (r : (t'.wordrun ≡ t.wordrun) × (t'.bit2run ≡ (if eqb b 0 then t.bit2run + 1 else 0))
    × (t'.words ≡ t.words) × (t'.wordbits ≡ t.wordbits)) where
  bit2_run : t'.bit2run ≡ (if wrong_bit2 s q i then t.bit2run + 1 else 0)
  unfolding wrong_bit2
  bit2_run = r.1 ∙ ap (λ x. if eqb x 0 then t.bit2run + 1 else 0) e

  pub lost_by_bit2 : t'.bit2run ≡ 3 → (m : ℕ) → 8 * h ≤ i → i < 8 * m → loss_from s q h m ≡ Some (2 * i + 1)
  unfolding loss_from
  lost_by_bit2 z m a l =
      let n = 8 * (m - h) in
      let other = loss_in (wrong s q) (λ k. 2 * k) (8 * h) n in
      ap (earlier other) (run_lost p.bits2_run bit2_run z a (λ k. 2 * k + 1) n (omega arith))
      ∙ earlier_second other (2 * i + 1) (λ f k. let l = lost_later p.words_run (λ k. 2 * k) n f k in omega arith)

  pub bit2_passed : (t'.bit2run ≡ 3 → ⊥) → Passed s q h (i + 1) (i + 1) t'
  bit2_passed z =
      record {
        from = p.from;
        words_run = rw r.0 p.words_run;
        bits2_run = run_on p.bits2_run bit2_run z;
        its_count = r.2 ∙ p.its_count;
        its_bits = r.3 ∙ p.its_bits;
      }
