-- `put_every_eighth` meets its contract: at the head of the loop the first a of its frames are written, and the rest is as
-- it was.
use Prim.Native.Nat.{◌+◌, ◌≤◌, ◌*◌, ◌-◌, ◌/◌}
use mathlib.Core.Path.{◌≡◌, refl, sym, ap, ◌∙◌}
use native.Mathlib.Omega.{arith}
use lib.Bits.{bit_and, and_le_r}
use lib.Dec.{eqb}
use lib.ListN.{length}
use Rattle.line.specs.Bit.{octet_at}
use Rattle.line.proofs.BitLaws.{place_in}
use Rattle.base.proofs.TabLaws.{tab_agree}
use Rattle.base.proofs.PartLaws.{part_length}
use Rattle.t1read.specs.Reading.{octet_of}
use Rattle.t1read.specs.Filled.{filled, every_eighth}
use Rattle.t1read.proofs.FilledLaws.{filled_none, filled_more, frame_put, eighth_more, eighth_none}
use Rattle.t1read.proofs.put_every_eighth.Statement.{statement}
use Rattle.t1read.proofs.put_every_eighth.Tie as tie

abbrev invariant_loop : tie.invariant-loop-a
invariant_loop s q g n out₀ p i o a₀ a-end out a =
    (a ≤ 3 * n) × (length out ≡ length out₀) × (out ≡ filled (every_eighth g (8 * a)) s q out₀)

abbrev decreases_loop : tie.decreases-loop-a
decreases_loop s q g n out₀ p i o a₀ a-end out a = 3 * n - a

loop_holds : tie.Need-loop-a-init invariant_loop decreases_loop
loop_holds c =
    let a = c.before.before.args in
    (omega arith, refl, sym (filled_none a.s.now a.q (every_eighth a.g 0) a.out.now (eighth_none a.g)))

put_frame_requires : tie.Need-put_frame-requires invariant_loop decreases_loop
put_frame_requires c κs =
    let l = c.before.before in
    let a = l.before.before.before.args in
    let p = a.q + 193 * a.g + 1 in
    let e = 24 * (8 * l.loop-a.a + a.g) in (
      omega (arith, place_in p),
      omega (arith, and_le_r p 7),
      part_length e (e + 24) l.loop-a.out (omega arith) ∙ omega arith,
    )

loop_again : tie.Need-loop-a-preserved invariant_loop decreases_loop
loop_again c =
    let w = c.before.before in
    let l = w.before.before.before in
    let a = l.before.before.before.args in
    let s = a.s.now in
    let q = a.q in
    let g = a.g in
    let p = q + 193 * g + 1 in
    let k = l.loop-a.a in
    let f = 8 * k + g in
    let written = w.put_frame.ensures
    ∙ tab_agree 24 (λ j. octet_at s (8 * (p / 8 + 193 * k) + bit_and p 7 + 8 * j)) (λ j. octet_of s q (24 * f + j))
    (λ j h. ap (octet_at s) (omega (arith, place_in p))) in (
      omega arith,
      c.before.out-1.given.1 ∙ l.loop-a.invariant.1,
      filled_more s q (every_eighth g (8 * k)) (λ x. eqb x f) (every_eighth g (8 * (k + 1))) l.loop-a.out _ a.out.now
          l.loop-a.invariant.2 (frame_put s q f l.loop-a.out w.put_frame.new.out (omega arith) written)
          (λ x. eighth_more g k x (omega arith)),
    )

returns : tie.Need-returns invariant_loop decreases_loop
returns c =
    let l = c.before in
    let a = l.before.before.before.args in
    let e : 8 * l.loop-a.a ≡ 24 * a.n = omega arith in
    l.loop-a.invariant.2 ∙ ap (λ m. filled (every_eighth a.g m) a.s.now a.q a.out.now) e

pub put_every_eighth_spec : {M : Type 1} → statement M
put_every_eighth_spec =
    tie.close
    (tie.spec invariant_loop decreases_loop
    (omega arith)
    (omega arith)
    (omega arith)
    (omega arith)
    loop_holds
    (omega arith)
    (omega arith)
    (omega arith)
    (omega arith)
    (omega arith)
    (omega arith)
    (omega arith)
    (omega arith)
    (omega arith)
    put_frame_requires
    (omega arith)
    (omega arith)
    loop_again
    (omega arith)
    returns)
