-- `put_frame` meets its contract: at the head of the loop the octets of h runs are written, of which two share one.
use Prim.Native.Nat.{ℕ, ◌+◌, ◌≤◌, ◌*◌, ◌-◌, ◌/◌}
use mathlib.Core.Path.{◌≡◌, refl, ap, ◌∙◌}
use native.Mathlib.Omega.{arith}
use lib.Bits.{bit_and, and_le_r}
use lib.ListN.{length, take}
use Rattle.line.specs.Bit.{octet_at}
use Rattle.line.proofs.BitLaws.{place_in}
use Rattle.base.specs.Tab.{tab, tab_from}
use Rattle.base.proofs.PartLaws.{part_length, part_over, octets_full}
use Rattle.measure.specs.Reading.{slots}
use Rattle.measure.proofs.Slots.{octet_of}
use Rattle.measure.proofs.put_frame.Statement.{statement}
use Rattle.measure.proofs.put_frame.Tie as tie

-- how many octets h runs are
abbrev octets : ℕ → ℕ
octets h = 16 * h - (h - 1)

abbrev invariant_loop : tie.invariant-loop-h
invariant_loop s q out₀ h₀ out h = (h ≤ 2) × (length out ≡ 31) × (take (octets h) out ≡ tab (octets h) (octet_of s q))

abbrev decreases_loop : tie.decreases-loop-h
decreases_loop s q out₀ h₀ out h = 2 - h

run_in_requires : tie.Need-run_in-requires invariant_loop decreases_loop
run_in_requires c κs =
    let q = c.before.before.before.before.args.q in (omega (arith, place_in q), omega (arith, and_le_r q 7))

put_run_requires : tie.Need-put_run-requires invariant_loop decreases_loop
put_run_requires c κs =
    let l = c.before.before.before.loop-h in
    let a = 15 * l.h in
    part_length a (a + 16) l.out (omega arith) ∙ omega arith

loop_again : tie.Need-loop-h-preserved invariant_loop decreases_loop
loop_again c =
    let w = c.before.before in
    let r = w.before.before in
    let l = r.before.before in
    let s = l.before.before.before.args.s.now in
    let q = l.before.before.before.args.q in
    let h = l.loop-h.h in (
      omega arith,
      c.before.out-1.given.1 ∙ l.loop-h.invariant.1,
      part_over (octet_of s q) (λ j. octet_at s (8 * (q / 8 + 15 * h + 1) + bit_and q 7 + 8 * j)) (15 * h) (octets h) 16
          (octets (h + 1)) l.loop-h.out w.put_run.new.out (omega arith) (omega arith) (omega arith)
          (w.put_run.ensures ∙ r.run_in.ensures) (λ j k. ap (octet_at s) (omega (arith, place_in q))) l.loop-h.invariant.2,
    )

returns : tie.Need-returns invariant_loop decreases_loop
unfolding slots
returns c =
    let l = c.before in
    let a = l.before.before.before.args in
    octets_full l.loop-h.out (octets l.loop-h.h) 31 (octet_of a.s.now a.q) (omega arith) (omega arith)
    l.loop-h.invariant.2

pub put_frame_spec : {M : Type 1} → statement M
unfolding tab_from
put_frame_spec =
    tie.close
    (tie.spec invariant_loop decreases_loop
    (λ c. (omega arith, omega arith, refl))
    (omega arith)
    (omega arith)
    (omega arith)
    run_in_requires
    (omega arith)
    (omega arith)
    (omega arith)
    (omega arith)
    put_run_requires
    (omega arith)
    (omega arith)
    loop_again
    (omega arith)
    returns)
