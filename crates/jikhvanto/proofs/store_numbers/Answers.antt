use native.Mathlib.Omega.{arith}
use Rattle.std.proofs.Common.{◌++◌, drop, refl, ap, ◌∙◌}
use Rattle.base.specs.Tab.{tab_from}
use Rattle.jikhvanto.specs.Stream.{spelt_numbers}
use Rattle.jikhvanto.proofs.StreamLaws.{spelt_more, spelt_rest, spelt_done}
use Rattle.jikhvanto.proofs.store_numbers.Goals as goal

pub loop-i-init : goal.loop-i-init
unfolding tab_from
loop-i-init c = record { spelt = refl; rest = refl }

pub loop-i-preserved : goal.loop-i-preserved
loop-i-preserved c =
    let n = c.stream_numbers.result in
    let l = c.loop-i in
    let y = c.spell.new.octets in
    record {
      spelt = spelt_more n l.i l.octets y (omega arith) c.spell.ensures l.invariant.spelt;
      rest = spelt_rest n l.i l.octets y (omega arith) c.spell.ensures c.args.octets.now l.invariant.rest;
    }

pub returns : goal.returns
returns c =
    let n = c.stream_numbers.result in
    let l = c.loop-i in
    spelt_done n l.i l.octets c.args.octets.now (omega arith) l.invariant.spelt l.invariant.rest
    ∙ ap (λ k. spelt_numbers k ++ drop 96 c.args.octets.now) c.stream_numbers.ensures
