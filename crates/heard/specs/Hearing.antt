-- Signalling heard frame by frame (KIT §5): slot 16 of one frame after the other, in a row of any length.
use Rattle.std.specs.Prelude.{if◌then◌else◌, ℕ, ◌+◌, ◌-◌, ◌≤◌, ◌≡◌, Bool, true, false, ◌&&◌, not, List, [], ◌∷◌, ◌++◌, eqb, length, get_or, drop, replicate}
use Rattle.base.specs.Tab.{tab}
use Rattle.signals.specs.Signalling.{Walk, step, walk, ends, starts_in, read_in, first_in, losses_in, held_in, abcd_at, xy_in}
use Rattle.heard.specs.declared.Hearing.{Hearing}

-- no count is over n
pub record Few (h : Hearing) (n : ℕ) : Type 0 where
  pub frames : h.frames ≤ n
  pub passed : h.passed ≤ n
  pub multiframes : h.multiframes ≤ n
  pub losses : h.losses ≤ n

-- nothing is heard; zeros stand for the frames before the first, so that it is never taken
abbrev pub nothing : Hearing
nothing =
    record {
      frames = 0;
      passed = 0;
      wrong = false;
      multiframes = 0;
      first = 0;
      losses = 0;
      xy = 11;
      row = replicate 16 0;
    }

-- One frame more, behind which so many frames of a signalling multiframe have passed, its signal wrong or not. Its
-- octet goes behind the row, and where a signalling multiframe has become whole, the row is that.
unfoldable pub tallied : Hearing → ℕ → ℕ → Bool → Hearing
tallied h octet passed wrong =
    let row = drop 1 h.row ++ octet ∷ [] in
    record {
      frames = h.frames + 1;
      passed = passed;
      wrong = wrong;
      multiframes = if eqb passed 16 then h.multiframes + 1 else h.multiframes;
      first = if eqb h.first 0 && eqb passed 1 then h.frames else h.first;
      losses = if eqb h.passed 16 && eqb passed 0 then h.losses + 1 else h.losses;
      xy = if eqb passed 16 then get_or row 0 0 else h.xy;
      row = row;
    }

abbrev pub walk_of : Hearing → Walk
walk_of h = record { passed = h.passed; wrong = h.wrong }

-- one frame more: a step of the walk, for which the frame before and this one are enough
unfoldable pub after_frame : Hearing → ℕ → Hearing
after_frame h octet =
    let w = step (get_or h.row 15 0 ∷ octet ∷ []) 1 (walk_of h) in
    tallied h octet w.passed w.wrong

-- a row more, and a row from the beginning
unfoldable pub after_row : Hearing → List ℕ → Hearing
after_row h [] = h
after_row h (octet ∷ t) = after_row (after_frame h octet) t

abbrev pub hearing_of : List ℕ → Hearing
hearing_of t = after_row nothing t

-- alignment is held; X and Y as they are answered

abbrev pub is_held : Hearing → Bool
is_held h = not (eqb h.passed 0)

abbrev pub xy_of : Hearing → ℕ
xy_of h = if is_held h then h.xy else 11

-- a signalling multiframe has just become whole; the frame with which it began, and A to D of its channel c, 1 to 30

abbrev pub is_read : Hearing → Bool
is_read h = eqb h.passed 16

abbrev pub began_at : Hearing → ℕ
began_at h = h.frames - 16

abbrev pub channel_of : Hearing → ℕ → ℕ
channel_of h c = abcd_at h.row 0 c

-- the thirty channels of the one that has just become whole, and nothing where none has
unfoldable pub told : Hearing → List ℕ
told h = if is_read h then tab 30 (λ i. channel_of h (i + 1)) else []

-- those of all, one behind the other, along a row from h on
unfoldable pub told_along : Hearing → List ℕ → List ℕ
told_along h [] = []
told_along h (octet ∷ t) = told (after_frame h octet) ++ told_along (after_frame h octet) t

-- h is what is to be known behind the row t, by the definitions of signalling in a row
pub record Hears (t : List ℕ) (h : Hearing) : Type 0 where
  pub frames : h.frames ≡ length t
  pub walked : walk_of h ≡ walk t (length t)
  pub multiframes : h.multiframes ≡ read_in t (length t)
  pub first : h.first ≡ first_in t (length t)
  pub losses : h.losses ≡ losses_in t (length t)
  pub held : is_held h ≡ held_in t (length t)
  pub xy : xy_of h ≡ xy_in t (length t)
  -- the last frame is the last of a signalling multiframe that is read
  pub read : is_read h ≡ ends t (length t - 1)
  -- and then: it is the last of those that are read, and these are its channels
  pub began : is_read h ≡ true → began_at h ≡ get_or (starts_in t (length t)) (read_in t (length t) - 1) 0
  pub channel : is_read h ≡ true → (c : ℕ) → 1 ≤ c → c ≤ 30 → channel_of h c ≡ abcd_at t (length t - 16) c
