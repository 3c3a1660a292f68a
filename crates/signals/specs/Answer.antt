-- What `signals` answers, in numbers (KIT §5, §8).
use Rattle.std.specs.Prelude.{ℕ, Bool, false, List, replicate, Result, Ok, Err}
use Rattle.base.specs.Number.{refusal_number, refusal_place}
use Rattle.base.specs.declared.Refused.{Refused}
use Rattle.signals.specs.declared.Signalling as code

-- the number, 0 where the call is accepted, and the values beside it
pub record Signalling : Type 0 where
  pub number : ℕ
  pub multiframes : ℕ
  pub first : ℕ
  pub losses : ℕ
  pub held : Bool
  pub x0 : ℕ
  pub x1 : ℕ
  pub x2 : ℕ
  pub y : ℕ
  pub starts : List ℕ

-- a refusal: zeros beside the number
abbrev pub refuse : ℕ → Signalling
refuse n =
    record {
      number = n;
      multiframes = 0;
      first = 0;
      losses = 0;
      held = false;
      x0 = 0;
      x1 = 0;
      x2 = 0;
      y = 0;
      starts = replicate 16 0;
    }

abbrev pub answered : Result code.Signalling Refused → Signalling
answered (Ok r) =
    record {
      number = 0;
      multiframes = r.multiframes;
      first = r.first;
      losses = r.losses;
      held = r.held;
      x0 = r.x0;
      x1 = r.x1;
      x2 = r.x2;
      y = r.y;
      starts = r.starts;
    }
answered (Err e) = refuse (refusal_number e)

-- the place that goes with a refusal, 0 where the call is accepted; it is not among the numbers of the answer
abbrev pub place_with : Result code.Signalling Refused → ℕ
place_with (Ok r) = 0
place_with (Err e) = refusal_place e
