-- Blocks as G.704 checks them (KIT §3): n bits, of which each d-th, from the first on, is read as b. On E1 n, d, b are
-- 2,048, 512 and 0, on T1 4,632, 193 and 1.
use Rattle.std.specs.Prelude.{if◌then◌else◌, ℕ, ◌%◌, List, eqb}
use Rattle.base.specs.Tab.{tab}

-- bit i as the check reads it
unfoldable pub read_as : ℕ → ℕ → (ℕ → ℕ) → ℕ → ℕ
read_as d b f i = if eqb (i % d) 0 then b else f i

unfoldable pub striped : ℕ → ℕ → ℕ → (ℕ → ℕ) → List ℕ
striped n d b f = tab n (read_as d b f)
