-- The loss of signalling, as KIT §5 says it.
use Rattle.std.specs.Prelude.{ℕ, ◌-◌, ◌≡◌, false, List}
use Rattle.signals.specs.Signalling.{signal_at, walk}

-- at frame f: 16 frames of a signalling multiframe have passed, its signal was wrong, and so is the next, in f
pub record Lost (t : List ℕ) (f : ℕ) : Type 0 where
  pub whole : (walk t f).passed ≡ 16
  pub one : signal_at t (f - 16) ≡ false
  pub two : signal_at t f ≡ false
