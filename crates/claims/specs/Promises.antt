-- All that is promised of the kit.
use Rattle.claims.specs.Demand1.{Demand1}
use Rattle.claims.specs.Demand2.{Demand2}
use Rattle.claims.specs.Demand3.{Demand3}
use Rattle.claims.specs.Losses.{Losses}
use Rattle.claims.specs.Counts.{Counts}
use Rattle.claims.specs.Accepts.{Accepts}
use Rattle.claims.specs.Reasons.{Reasons}
use Rattle.claims.specs.Streams.{Streams}
use Rattle.claims.specs.Signals.{Signals}
use Rattle.claims.specs.Interface.{Interface}
use Rattle.claims.specs.T1Demand1.{T1Demand1}
use Rattle.claims.specs.T1Demand2.{T1Demand2}
use Rattle.claims.specs.T1Demand3.{T1Demand3}
use Rattle.claims.specs.TwoHits.{TwoHits}
use Rattle.claims.specs.T1TwoHits.{T1TwoHits}
use Rattle.claims.specs.Single.{Single}
use Rattle.claims.specs.Bench.{Bench}

pub record Promises : Type 0 where
  pub demand_1 : Demand1
  pub demand_2 : Demand2
  pub demand_3 : Demand3
  pub losses : Losses
  pub counts : Counts
  pub accepts : Accepts
  pub reasons : Reasons
  pub streams : Streams
  pub signals : Signals
  pub interface : Interface
  pub t1_demand_1 : T1Demand1
  pub t1_demand_2 : T1Demand2
  pub t1_demand_3 : T1Demand3
  pub two_hits : TwoHits
  pub t1_two_hits : T1TwoHits
  pub single : Single
  pub bench : Bench
