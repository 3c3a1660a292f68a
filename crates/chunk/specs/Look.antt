-- For private functions alone. What a look at an image tells in numbers.
use Rattle.std.specs.Prelude.{ℕ, ◌+◌, ◌-◌, ◌*◌, ◌≤◌, ◌≡◌, List, length, drop}
use Rattle.align.specs.declared.Found.{Found}
use Rattle.align.specs.declared.Found.TheVariants.{At}
use Rattle.measure.specs.declared.Tracked.{Tracked}
use Rattle.measure.specs.Reading.{whole, loss_from, used_of, payload_of, slot0_of, word_errors, word_bits, compared, disagreeing, far_end}
use Rattle.growth.specs.Growth.{Grown, unread}
use Rattle.growth.specs.declared.Line.{Line}
use Rattle.chunk.specs.declared.Seen.{Seen}
use Rattle.chunk.specs.declared.Gain.{Gain}

-- so much at most
pub record Few (r : Gain) (n : ℕ) : Type 0 where
  pub multiframes : r.multiframes ≤ n
  pub words : r.words ≤ n
  pub errored : r.errored ≤ n
  pub farend : r.farend ≤ n
  pub wordbits : r.wordbits ≤ n

-- what is known then
abbrev pub gaining : Line → Gain → ℕ → ℕ → Line
gaining c gain gone lost =
    record {
      before = c.before + gone;
      found = c.found;
      used = c.used + gain.multiframes;
      lost = lost;
      words = c.words + gain.words;
      errored = c.errored + gain.errored;
      farend = c.farend + gain.farend;
      wordbits = c.wordbits + gain.wordbits;
    }

-- where no multiframe is whole yet
abbrev pub still : Line → Seen
still c =
    record {
      line = record {
        before = c.before;
        found = c.found;
        used = c.used;
        lost = 0;
        words = c.words;
        errored = c.errored;
        farend = c.farend;
        wordbits = c.wordbits;
      };
      gone = 0;
      multiframes = 0;
      from = 0;
    }

-- where no place stands yet, in n octets
abbrev pub waiting : ℕ → ℕ → Found → Seen
waiting n before found =
    record { line = unread (before + (n - 2048)) found; gone = n - 2048; multiframes = 0; from = 0 }

-- where alignment was lost
abbrev pub passing : ℕ → Line → Seen
passing n c =
    record {
      line = record {
        before = c.before + n;
        found = c.found;
        used = c.used;
        lost = c.lost;
        words = c.words;
        errored = c.errored;
        farend = c.farend;
        wordbits = c.wordbits;
      };
      gone = n;
      multiframes = 0;
      from = 0;
    }

-- what g multiframes from q on give beyond the first h
pub record Gains (s : List ℕ) (q h g : ℕ) (r : Gain) : Type 0 where
  pub its_multiframes : r.multiframes ≡ g - h
  pub its_words : r.words ≡ word_errors s (q + 4096 * h) (g - h)
  pub its_errored : r.errored ≡ disagreeing s (q + 2048 * compared h) (compared g - compared h)
  pub its_farend : r.farend ≡ far_end s (q + 4096 * h) (g - h)
  pub its_wordbits : r.wordbits ≡ word_bits s (q + 4096 * h) (g - h)
  pub few : Few r (56 * g)

-- what r tells of the image s
abbrev pub told : List ℕ → Seen → Grown
told s r =
    record {
      line = r.line;
      window = drop r.gone s;
      multiframes = r.multiframes;
      payload = payload_of s r.from r.multiframes;
      slot0 = slot0_of s r.from r.multiframes;
    }

-- x is what the image s makes of a line: r tells it, and speaks of bits and octets that are there
pub record Looks (x : Grown) (s : List ℕ) (r : Seen) : Type 0 where
  pub tells : x ≡ told s r
  pub there : r.from + 4096 * r.multiframes ≤ 8 * length s
  pub within : r.gone ≤ length s

-- a place stands, and alignment is not lost
pub record Stood (c : Line) : Type 0 where
  pub p : ℕ
  pub k : ℕ
  pub stands : c.found ≡ At p k
  pub not_lost : c.lost ≡ 0

-- x was tracked in the image's multiframes from h on
pub record Tracks (s : List ℕ) (q h : ℕ) (x : Tracked) : Type 0 where
  pub its_loss : x.loss ≡ loss_from s q h (whole s q)
  pub its_used : x.used ≡ used_of (loss_from s q h (whole s q)) (whole s q)
  pub at_least : h ≤ x.used
  pub at_most : x.used ≤ whole s q
  pub its_words : x.words ≡ word_errors s (q + 4096 * h) (x.used - h)
  pub its_wordbits : x.wordbits ≡ word_bits s (q + 4096 * h) (x.used - h)
