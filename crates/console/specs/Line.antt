-- What a line asks for, and what it does.
use Rattle.std.specs.Prelude.{ℕ, ◌≡◌, ◌⊎◌}
use Rattle.exchange.specs.declared.State.{State}
use Rattle.exchange.specs.Runs.{Call, after_call}
use Rattle.console.specs.declared.parse.Asked.{Asked}
use Rattle.console.specs.declared.parse.Asked.TheVariants.{Key, Host, Boundary, Show, Picture}
use Rattle.console.specs.declared.parse.Asked.TheVariants.{Wrong, Nothing, Quit}

-- how many octets a host record has
abbrev pub octet_count : Asked → ℕ
octet_count (Key p) = 0
octet_count (Host n) = n
octet_count Boundary = 0
octet_count (Show s) = 0
octet_count Picture = 0
octet_count (Wrong w) = 0
octet_count Nothing = 0
octet_count Quit = 0

-- t is s, or what one call of the machine leaves of s
abbrev pub Follows : State → State → Type 0
Follows s t = (t ≡ s) ⊎ ((c : Call) × (t ≡ after_call s c))
