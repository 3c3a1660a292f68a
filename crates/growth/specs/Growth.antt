-- A line that comes in chunks (KIT §5): what is known of it so far, and what an image that goes on with it adds.
--
-- The image is the window and a chunk, joined. It is read by the definitions of an image: searched for a place that
-- stands, and from then on read from the start's bit on. The last multiframe that left stays in the window, so the next
-- is judged by it as though the line had never been cut.
use Rattle.std.specs.Prelude.{ℕ, zero, suc, ◌+◌, ◌-◌, ◌*◌, ◌/◌, ◌%◌, min, List, [], ◌++◌, length, drop}
use Rattle.std.specs.Prelude.{Option, None, Some}
use Rattle.align.specs.Place.{found_in, start_of}
use Rattle.align.specs.declared.Found.{Found}
use Rattle.align.specs.declared.Found.TheVariants.{At, BasicAt, Nothing}
use Rattle.measure.specs.Reading.{whole, loss_from, lost_at, used_of, payload_of, slot0_of}
use Rattle.measure.specs.Reading.{word_errors, word_bits, compared, disagreeing, far_end}
use Rattle.growth.specs.declared.Line.{Line}

-- what an image makes of a line: what is known then, the octets that are kept of the image, how many multiframes leave,
-- and their octets
pub record Grown : Type 0 where
  pub line : Line
  pub window : List ℕ
  pub multiframes : ℕ
  pub payload : List ℕ
  pub slot0 : List ℕ

-- a line of which no multiframe has left: so many octets were let go, and this was found
abbrev pub unread : ℕ → Found → Line
unread before found =
    record { before = before; found = found; used = 0; lost = 0; words = 0; errored = 0; farend = 0; wordbits = 0 }

-- one of which nothing has come
abbrev pub nothing : Line
nothing = unread 0 Nothing

-- of the multiframes that have left, how many are at the image's head: the last of them, where there is one
abbrev pub kept_of : ℕ → ℕ
kept_of used = min used 1

-- of n octets with g used multiframes, those before the last of these are let go; after a loss all of them
abbrev pub gone_of : ℕ → ℕ → Option ℕ → ℕ
gone_of n g None = 512 * (g - 1)
gone_of n g (Some f) = n

-- a frame of the image as the line counts it, where so many frames were let go
abbrev pub later_by : ℕ → Option ℕ → Option ℕ
later_by d None = None
later_by d (Some f) = Some (d + f)

-- The image is read from bit q on: l is its loss and g its used multiframes, of which the first h have left before. The
-- others leave. A block is judged when the next one, which carries its check, has come: the last of the h is judged now.
unfoldable pub read_on : Line → List ℕ → ℕ → ℕ → Option ℕ → ℕ → Grown
read_on c s q h l g =
    record {
      line = record {
        before = c.before + gone_of (length s) g l;
        found = c.found;
        used = c.used + (g - h);
        lost = lost_at (later_by (16 * (c.used - h)) l);
        words = c.words + word_errors s (q + 4096 * h) (g - h);
        errored = c.errored + disagreeing s (q + 2048 * compared h) (compared g - compared h);
        farend = c.farend + far_end s (q + 4096 * h) (g - h);
        wordbits = c.wordbits + word_bits s (q + 4096 * h) (g - h);
      };
      window = drop (gone_of (length s) g l) s;
      multiframes = g - h;
      payload = payload_of s (q + 4096 * h) (g - h);
      slot0 = slot0_of s (q + 4096 * h) (g - h);
    }

-- a place stands: the image begins with the octet that holds the start of its first multiframe, or of the one kept
abbrev pub read_from : Line → List ℕ → Grown
read_from c s =
    let q = start_of c.found % 8 in
    let h = kept_of c.used in
    let m = whole s q in
    read_on c s q h (loss_from s q h m) (used_of (loss_from s q h m) m)

-- a place with basic alignment that was found before is the first
abbrev pub noted : Found → Found → Found
noted (BasicAt p) found = BasicAt p
noted (At p k) found = found
noted Nothing found = found

-- no place stands yet: the last 2,048 octets are kept
abbrev pub waits : ℕ → Found → List ℕ → Grown
waits before found s =
    record {
      line = unread (before + (length s - 2048)) found;
      window = drop (length s - 2048) s;
      multiframes = 0;
      payload = [];
      slot0 = [];
    }

-- no place stood before: the image is searched
abbrev pub searched : ℕ → Found → List ℕ → Found → Grown
searched before known s (At p k) =
    let q = p + 512 * k in
    read_from (unread (before + q / 8) (At (8 * before + p) k)) (drop (q / 8) s)
searched before known s (BasicAt p) = waits before (noted known (BasicAt (8 * before + p))) s
searched before known s Nothing = waits before known s

-- alignment was lost: nothing is kept and nothing leaves
abbrev pub passed : Line → List ℕ → Grown
passed c s =
    record {
      line = record {
        before = c.before + length s;
        found = c.found;
        used = c.used;
        lost = c.lost;
        words = c.words;
        errored = c.errored;
        farend = c.farend;
        wordbits = c.wordbits;
      };
      window = [];
      multiframes = 0;
      payload = [];
      slot0 = [];
    }

-- by what was found, and whether alignment was lost since
abbrev pub grown_by : Found → ℕ → Line → List ℕ → Grown
grown_by (At p k) zero c s = read_from c s
grown_by (At p k) (suc f) c s = passed c s
grown_by (BasicAt p) f c s = searched c.before (BasicAt p) s (found_in s)
grown_by Nothing f c s = searched c.before Nothing s (found_in s)

-- what the image s makes of the line c
abbrev pub grown : Line → List ℕ → Grown
grown c s = grown_by c.found c.lost c s

-- what a chunk makes of it, with the octets of the window before it
abbrev pub fed : Line → List ℕ → List ℕ → Grown
fed c window chunk = grown c (window ++ chunk)

-- two images after one another, the second beginning with what is kept of the first
abbrev pub after : Grown → Grown → Grown
after x y =
    record {
      line = y.line;
      window = y.window;
      multiframes = x.multiframes + y.multiframes;
      payload = x.payload ++ y.payload;
      slot0 = x.slot0 ++ y.slot0;
    }
