-- `put_frame` meets its contract: at the head of the loop the octets of h runs are written, of which two share eight.
use Prim.Native.Nat.{ℕ, ◌+◌, ◌≤◌, ◌*◌, ◌-◌}
use mathlib.Core.Path.{◌≡◌, refl, ap, ◌∙◌}
use mathlib.Core.List.{List}
use native.Mathlib.Omega.{arith}
use lib.ListN.{length, take}
use Rattle.line.specs.Bit.{octet_at}
use Rattle.base.specs.Tab.{tab, tab_from}
use Rattle.base.proofs.PartLaws.{part_length, part_over, octets_full}
use Rattle.t1read.proofs.put_frame.Statement.{statement}
use Rattle.t1read.proofs.put_frame.Tie as tie

-- octet j from bit o of octet i on
abbrev octet : List ℕ → ℕ → ℕ → ℕ → ℕ
octet s i o j = octet_at s (8 * i + o + 8 * j)

-- how many octets h runs are
abbrev octets : ℕ → ℕ
octets h = 16 * h - 8 * (h - 1)

abbrev invariant_loop : tie.invariant-loop-h
invariant_loop s i o out₀ h₀ out h = (h ≤ 2) × (length out ≡ 24) × (take (octets h) out ≡ tab (octets h) (octet s i o))

abbrev decreases_loop : tie.decreases-loop-h
decreases_loop s i o out₀ h₀ out h = 2 - h

put_run_requires : tie.Need-put_run-requires invariant_loop decreases_loop
put_run_requires c κs =
    let l = c.before.before.before.loop-h in
    let a = 8 * l.h in
    part_length a (a + 16) l.out (omega arith) ∙ omega arith

loop_again : tie.Need-loop-h-preserved invariant_loop decreases_loop
loop_again c =
    let w = c.before.before in
    let r = w.before.before in
    let l = r.before.before in
    let a = l.before.before.before.args in
    let h = l.loop-h.h in (
      omega arith,
      c.before.out-1.given.1 ∙ l.loop-h.invariant.1,
      part_over (octet a.s.now a.i a.o) (octet a.s.now (a.i + 8 * h) a.o) (8 * h) (octets h) 16 (octets (h + 1))
          l.loop-h.out w.put_run.new.out (omega arith) (omega arith) (omega arith)
          (w.put_run.ensures ∙ r.run_in.ensures) (λ j k. ap (octet_at a.s.now) (omega arith)) l.loop-h.invariant.2,
    )

returns : tie.Need-returns invariant_loop decreases_loop
returns c =
    let l = c.before in
    let a = l.before.before.before.args in
    octets_full l.loop-h.out (octets l.loop-h.h) 24 (octet a.s.now a.i a.o) (omega arith) (omega arith)
    l.loop-h.invariant.2

pub put_frame_spec : {M : Type 1} → statement M
unfolding tab_from
put_frame_spec =
    tie.close
    (tie.spec invariant_loop decreases_loop
    (λ c. (omega arith, omega arith, refl))
    (omega arith)
    (omega arith)
    (λ c κs. (omega arith, omega arith))
    (omega arith)
    (omega arith)
    (omega arith)
    (omega arith)
    put_run_requires
    (omega arith)
    (omega arith)
    loop_again
    (omega arith)
    returns)
