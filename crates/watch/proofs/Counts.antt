-- Counts that gain little, one behind the other.
use Prim.Native.Nat.{ℕ, ◌+◌, ◌≤◌}
use native.Mathlib.Omega.{arith}
use Rattle.heard.specs.Hearing.{Few}
use Rattle.heard.specs.declared.Hearing.{Hearing}
use Rattle.watch.specs.Watch.{Adds}

pub few_within : (h : Hearing) (k n : ℕ) → k ≤ n → Few h k → Few h n
few_within h k n l few =
    record {
      frames = omega (arith, few.frames);
      passed = omega (arith, few.passed);
      multiframes = omega (arith, few.multiframes);
      losses = omega (arith, few.losses);
    }

pub adds_none : (h : Hearing) → Adds 0 h h
adds_none h k few = few_within h k (k + 0) (omega arith) few

pub adds_within : (h h' : Hearing) (m n : ℕ) → m ≤ n → Adds m h h' → Adds n h h'
adds_within h h' m n l adds k few = few_within h' (k + m) (k + n) (omega arith) (adds k few)

pub adds_then : (h h' h'' : Hearing) (m n : ℕ) → Adds m h h' → Adds n h' h'' → Adds (m + n) h h''
adds_then h h' h'' m n first then k few =
    few_within h'' (k + m + n) (k + (m + n)) (omega arith) (then (k + m) (first k few))
