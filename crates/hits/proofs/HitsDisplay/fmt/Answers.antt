-- `fmt` is safe: no order is 0.
use Rattle.hits.proofs.VerdictLaws.{fits}
use Rattle.hits.proofs.HitsDisplay.fmt.Goals as goal

pub nonzero_div-times : goal.nonzero_div-times
nonzero_div-times g c = rw c.order-order.ensures (fits c.args.self.now.form).ordered
