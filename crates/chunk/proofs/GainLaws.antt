-- What multiframes that leave add to the counts.
use Prim.Native.Nat.{ℕ, ◌+◌, ◌-◌, ◌*◌, ◌≤◌}
use mathlib.Core.Path.{◌≡◌, refl, sym, ap, ◌∙◌}
use mathlib.Core.List.{List}
use native.Mathlib.Omega.{arith}
use Rattle.base.specs.Tab.{sum}
use Rattle.measure.specs.Reading.{word_errors, word_bits, compared, disagreeing, far_end}
use Rattle.growth.proofs.Counts.{words_count, bits_count, far_end_count, words_few, bits_few, far_end_few, disagreeing_few}
use Rattle.measure.specs.declared.Tracked.{Tracked}
use Rattle.chunk.specs.Look.{Gains, Tracks}
use Rattle.chunk.specs.declared.Gain.{Gain}

-- nothing
abbrev pub no_gain : Gain
no_gain = record { multiframes = 0; words = 0; errored = 0; farend = 0; wordbits = 0 }

pub gains_none : (s : List ℕ) (q h g : ℕ) → g ≤ h → Gains s q h g no_gain
unfolding sum
gains_none s q h g l =
    let p = q + 4096 * h in
    let z : g - h ≡ 0 = omega arith in
    let y : compared g - compared h ≡ 0 = omega arith in
    record {
      its_multiframes = sym z;
      its_words = sym (ap (word_errors s p) z ∙ words_count.none s p);
      its_errored = sym (ap (disagreeing s (q + 2048 * compared h)) y);
      its_farend = sym (ap (far_end s p) z ∙ far_end_count.none s p);
      its_wordbits = sym (ap (word_bits s p) z ∙ bits_count.none s p);
      few = record { multiframes = omega arith; words = omega arith; errored = omega arith; farend = omega arith; wordbits = omega arith };
    }

-- what is tracked, judged and counted
pub gains_some : (s : List ℕ) (q h g words wordbits errored farend : ℕ) → words ≡ word_errors s (q + 4096 * h) (g - h)
    → wordbits ≡ word_bits s (q + 4096 * h) (g - h) → errored ≡ disagreeing s (q + 2048 * compared h) (compared g - compared h)
    → farend ≡ far_end s (q + 4096 * h) (g - h)
    → Gains s q h g (record { multiframes = g - h; words = words; errored = errored; farend = farend; wordbits = wordbits })
gains_some s q h g words wordbits errored farend ew eb ee ef =
    let p = q + 4096 * h in
    record {
      its_multiframes = refl;
      its_words = ew;
      its_errored = ee;
      its_farend = ef;
      its_wordbits = eb;
      few = record {
        multiframes = omega arith;
        words = omega (arith, words_few s p (g - h));
        errored = omega (arith, disagreeing_few s (q + 2048 * compared h) (compared g - compared h));
        farend = omega (arith, far_end_few s p (g - h));
        wordbits = omega (arith, bits_few s p (g - h));
      };
    }

-- what the image's multiframes from h on give, where x was tracked
abbrev pub gain_of : List ℕ → ℕ → ℕ → Tracked → Gain
gain_of s q h x =
    record {
      multiframes = x.used - h;
      words = x.words;
      errored = disagreeing s (q + 2048 * compared h) (compared x.used - compared h);
      farend = far_end s (q + 4096 * h) (x.used - h);
      wordbits = x.wordbits;
    }

pub gains_of : (s : List ℕ) (q h : ℕ) (x : Tracked) → Tracks s q h x → Gains s q h x.used (gain_of s q h x)
gains_of s q h x t =
    gains_some s q h x.used x.words x.wordbits (gain_of s q h x).errored (gain_of s q h x).farend
    t.its_words t.its_wordbits refl refl
