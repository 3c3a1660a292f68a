-- `call` makes at most one call, and lends it the octets of its record.
use Rattle.std.proofs.Common.{◌≡◌, ℕ, take, ap, refl, ◌∙◌, inr}
use Rattle.std.specs.Prelude.{Result, Ok, Err}
use Rattle.base.specs.declared.Refused.{Refused}
use Rattle.exchange.specs.declared.State.{State}
use Rattle.exchange.specs.Answer.{answered}
use Rattle.exchange.specs.Runs.{host, key, boundary, after_call}
use Rattle.console.proofs.call.Goals as goal

left : (s : State) (r : Result ℕ Refused) → s ≡ (answered s r).state
left s (Ok entry) = refl
left s (Err e) = refl

pub returns-in-Key : goal.returns-in-Key
unfolding after_call
returns-in-Key c = inr (key c.in-Key.position, ap (λ a. a.state) c.key.ensures)

pub returns-in-Host : goal.returns-in-Host
unfolding after_call
returns-in-Host c =
    inr (host (take c.in-Host.n c.args.octets.now), left _ c.host.result ∙ ap (λ a. a.state) c.host.ensures)

pub returns-in-Boundary : goal.returns-in-Boundary
unfolding after_call
returns-in-Boundary c = inr (boundary, ap (λ a. a.state) c.boundary.ensures)
