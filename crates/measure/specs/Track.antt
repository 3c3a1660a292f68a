-- For private functions alone. What is known of runs when multiframes have gone by.
use Rattle.std.specs.Prelude.{if◌then◌else◌, ℕ, zero, suc, ◌+◌, ◌*◌, min, ◌≡◌, Bool, List}
use Rattle.measure.specs.Reading.{wrong, wrong_bit2}
use Rattle.measure.specs.declared.Tracking.{Tracking}

-- how many in a row pass the test before i, up to i - 1
unfoldable pub run_of : (ℕ → Bool) → ℕ → ℕ
run_of t zero = 0
run_of t (suc i) = if t i then run_of t i + 1 else 0

-- t has the runs behind h multiframes, of which two tell as much as more, and has counted nothing
pub record Runs (s : List ℕ) (q h : ℕ) (t : Tracking) : Type 0 where
  pub wordrun : t.wordrun ≡ min 2 (run_of (wrong s q) (8 * h))
  pub bit2run : t.bit2run ≡ min 2 (run_of (wrong_bit2 s q) (8 * h))
  pub words : t.words ≡ 0
  pub wordbits : t.wordbits ≡ 0
