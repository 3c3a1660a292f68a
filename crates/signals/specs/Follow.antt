-- For private functions alone. What a pass through the octets of slot 16 finds.
use Rattle.std.specs.Prelude.{if◌then◌else◌, ℕ, ◌+◌, ◌-◌, Bool, ◌&&◌, not, List, ◌++◌, length, replicate}
use Rattle.base.specs.Tab.{tab}
use Rattle.signals.specs.Signalling.{signal_at, aligns, starts_in, read_in, first_in, losses_in, held_in, abcd_at}
use Rattle.signals.specs.declared.Followed.{Followed}

-- a signalling multiframe begins with frame f: alignment is held, and behind it no second signal in a row is wrong; or
-- it is taken there
unfoldable pub begins : List ℕ → ℕ → Bool → Bool → Bool
begins t f held wrong = if held then not (wrong && not (signal_at t f)) else aligns t f

-- the frames at which those begin that are read, and zeros
abbrev pub starts_of : List ℕ → ℕ → List ℕ
starts_of t n = starts_in t n ++ replicate (16 - read_in t n) 0

-- what is found in all of t
unfoldable pub followed : List ℕ → Followed
followed t =
    let n = length t in
    record { multiframes = read_in t n; starts = starts_of t n; first = first_in t n; losses = losses_in t n; held = held_in t n }

-- the thirty channels of a signalling multiframe that begins at frame a
unfoldable pub channels : List ℕ → ℕ → List ℕ
channels t a = tab 30 (λ i. abcd_at t a (i + 1))
