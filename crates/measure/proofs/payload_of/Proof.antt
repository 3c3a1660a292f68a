-- `payload_of` meets its contract: at the head of the loop the multiframes before m are written, and the rest is as it
-- was.
use Prim.Native.Nat.{◌+◌, ◌≤◌, ◌*◌, ◌-◌}
use mathlib.Core.Path.{◌≡◌, refl, sym, ◌∙◌}
use native.Mathlib.Omega.{arith}
use lib.ListN.{length, take, drop}
use Rattle.base.proofs.PartLaws.{part_length}
use Rattle.measure.specs.Reading.{slots}
use Rattle.measure.proofs.Slots.{slots_none, part_more, part_rest, slots_kept}
use Rattle.measure.proofs.payload_of.Statement.{statement}
use Rattle.measure.proofs.payload_of.Tie as tie

abbrev invariant_loop : tie.invariant-loop-m
invariant_loop s q g out₀ m₀ out m =
    (m ≤ g) × (length out ≡ length out₀) × (take (496 * m) out ≡ slots s q (16 * m)) ×
    (drop (496 * m) out ≡ drop (496 * m) out₀)

abbrev decreases_loop : tie.decreases-loop-m
decreases_loop s q g out₀ m₀ out m = g - m

put_multiframe_requires : tie.Need-put_multiframe-requires invariant_loop decreases_loop
put_multiframe_requires c κs =
    let l = c.before.before in
    let m = l.loop-m.m in (
      record { countable = l.before.before.before.requires.0.countable; there = omega arith },
      part_length (496 * m) (496 * m + 496) l.loop-m.out (omega arith) ∙ omega arith,
    )

loop_again : tie.Need-loop-m-preserved invariant_loop decreases_loop
loop_again c =
    let w = c.before.before in
    let l = w.before.before.before in
    let a = l.before.before.before.args in
    let m = l.loop-m.m in
    let o = l.loop-m.out in
    let y = w.put_multiframe.new.out in (
      omega arith,
      c.before.out-1.given.1 ∙ l.loop-m.invariant.1,
      part_more a.s.now a.q (16 * m) 16 (496 * m) (496 * m + 496) o y (omega arith) refl (omega arith)
          w.put_multiframe.ensures
          (496 * (m + 1)) (16 * (m + 1)) (omega arith) (omega arith) l.loop-m.invariant.2,
      part_rest a.s.now a.q (16 * m) 16 (496 * m) (496 * m + 496) o y (omega arith) refl (omega arith)
          w.put_multiframe.ensures
          (496 * (m + 1)) a.out.now (omega arith) l.loop-m.invariant.3,
    )

returns : tie.Need-returns invariant_loop decreases_loop
returns c =
    let l = c.before in
    let a = l.before.before.before.args in
    slots_kept a.s.now l.loop-m.out a.out.now a.q l.loop-m.m a.g (omega arith) l.loop-m.invariant.2
    l.loop-m.invariant.3

pub payload_of_spec : {M : Type 1} → statement M
payload_of_spec =
    tie.close
    (tie.spec invariant_loop decreases_loop
    (λ c. (omega arith, refl, sym (slots_none c.before.before.args.s.now c.before.before.args.q), refl))
    (omega arith)
    (omega arith)
    (omega arith)
    (omega arith)
    (omega arith)
    (omega arith)
    (omega arith)
    (omega arith)
    put_multiframe_requires
    (omega arith)
    (omega arith)
    loop_again
    (omega arith)
    returns)
