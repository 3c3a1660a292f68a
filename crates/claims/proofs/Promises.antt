-- All that is promised holds.
use Rattle.claims.specs.Promises.{Promises}
use Rattle.claims.proofs.Demand1.{demand_1}
use Rattle.claims.proofs.Demand2.{demand_2}
use Rattle.claims.proofs.Demand3.{demand_3}
use Rattle.claims.proofs.Losses.{losses}
use Rattle.claims.proofs.Counts.{counts}
use Rattle.claims.proofs.Accepts.{accepts}
use Rattle.claims.proofs.Reasons.{reasons}
use Rattle.claims.proofs.Streams.{streams}
use Rattle.claims.proofs.Signals.{signals}
use Rattle.claims.proofs.Interface.{interface}
use Rattle.claims.proofs.T1Demand1.{t1_demand_1}
use Rattle.claims.proofs.T1Demand2.{t1_demand_2}
use Rattle.claims.proofs.T1Demand3.{t1_demand_3}
use Rattle.claims.proofs.TwoHits.{two_hits}
use Rattle.claims.proofs.T1TwoHits.{t1_two_hits}
use Rattle.claims.proofs.Single.{single}
use Rattle.claims.proofs.Bench.{bench}

pub promises : Promises
promises =
    record {
      demand_1 = demand_1;
      demand_2 = demand_2;
      demand_3 = demand_3;
      losses = losses;
      counts = counts;
      accepts = accepts;
      reasons = reasons;
      streams = streams;
      signals = signals;
      interface = interface;
      t1_demand_1 = t1_demand_1;
      t1_demand_2 = t1_demand_2;
      t1_demand_3 = t1_demand_3;
      two_hits = two_hits;
      t1_two_hits = t1_two_hits;
      single = single;
      bench = bench;
    }
