-- Payloads (KIT §5, §15) of whole multiframes or superframes.
use Rattle.std.specs.Prelude.{ℕ, ◌/◌, ◌%◌, Bool, ◌&&◌, eqb, leb}

-- so many octets are n times `each`, n from 1 to `most`
abbrev pub sized_by : ℕ → ℕ → ℕ → Bool
sized_by each most octets = eqb (octets % each) 0 && (leb 1 (octets / each) && leb (octets / each) most)
