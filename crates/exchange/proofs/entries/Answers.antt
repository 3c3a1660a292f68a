use Rattle.std.proofs.Common.{◌≡◌, ◌+◌, take, set, refl, ap, ◌∙◌, arith}
use Rattle.base.specs.Tab.{tab_from}
use Rattle.base.proofs.TabLaws.{fill_more, tab_fill}
use Rattle.exchange.specs.Mapping.{entry_at}
use Rattle.exchange.proofs.entries.Goals as goal

pub loop-j-init : goal.loop-j-init
unfolding tab_from
loop-j-init c = refl

pub loop-j-preserved : goal.loop-j-preserved
loop-j-preserved c =
    let l = c.loop-j in
    ap (λ x. take (l.j + 1) (set l.entry-items l.j x)) c.used.ensures
    ∙ fill_more l.entry-items l.j (entry_at c.args.map.now) (omega arith) l.invariant

pub returns : goal.returns
returns c =
    let l = c.loop-j in
    let e : l.j ≡ 32 = omega arith in
    tab_fill l.entry-items 32 (entry_at c.args.map.now) (omega arith) (rw e at l.invariant)
