-- `put_multiframe` meets its contract: at the head of the loop the frames before f are written.
use Prim.Native.Nat.{◌+◌, ◌≤◌, ◌*◌, ◌-◌}
use mathlib.Core.Path.{◌≡◌, refl, sym, ◌∙◌}
use native.Mathlib.Omega.{arith}
use lib.ListN.{length, take}
use Rattle.base.proofs.PartLaws.{part_length}
use Rattle.measure.specs.Reading.{slots}
use Rattle.measure.proofs.Slots.{slots_none, part_more, slots_full}
use Rattle.measure.proofs.put_multiframe.Statement.{statement}
use Rattle.measure.proofs.put_multiframe.Tie as tie

abbrev invariant_loop : tie.invariant-loop-f
invariant_loop s q out₀ f₀ out f = (f ≤ 16) × (length out ≡ 496) × (take (31 * f) out ≡ slots s q f)

abbrev decreases_loop : tie.decreases-loop-f
decreases_loop s q out₀ f₀ out f = 16 - f

put_frame_requires : tie.Need-put_frame-requires invariant_loop decreases_loop
put_frame_requires c κs =
    let l = c.before.before in
    let f = l.loop-f.f in (
      record { countable = l.before.before.before.requires.0.countable; there = omega arith },
      part_length (31 * f) (31 * f + 31) l.loop-f.out (omega arith) ∙ omega arith,
    )

loop_again : tie.Need-loop-f-preserved invariant_loop decreases_loop
loop_again c =
    let w = c.before.before in
    let l = w.before.before.before in
    let a = l.before.before.before.args in
    let f = l.loop-f.f in (
      omega arith,
      c.before.out-1.given.1 ∙ l.loop-f.invariant.1,
      part_more a.s.now a.q f 1 (31 * f) (31 * f + 31) l.loop-f.out w.put_frame.new.out refl refl
          (omega arith) w.put_frame.ensures
          (31 * (f + 1)) (f + 1) (omega arith) refl l.loop-f.invariant.2,
    )

returns : tie.Need-returns invariant_loop decreases_loop
returns c =
    let l = c.before in
    let a = l.before.before.before.args in
    slots_full a.s.now l.loop-f.out a.q l.loop-f.f 16 (omega arith) (omega arith) l.loop-f.invariant.2

pub put_multiframe_spec : {M : Type 1} → statement M
put_multiframe_spec =
    tie.close
    (tie.spec invariant_loop decreases_loop
    (λ c. (omega arith, omega arith, sym (slots_none c.before.before.args.s.now c.before.before.args.q)))
    (omega arith)
    (omega arith)
    (omega arith)
    (omega arith)
    (omega arith)
    (omega arith)
    (omega arith)
    put_frame_requires
    (omega arith)
    (omega arith)
    loop_again
    (omega arith)
    returns)
