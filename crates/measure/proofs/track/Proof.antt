-- `track` meets its contract: at the head of the outer loop g multiframes have gone by, at that of the inner one i words
-- and i bits 2, and no loss is among them.
use Prim.Native.Nat.{◌+◌, ◌-◌, ◌*◌, ◌/◌, ◌^◌, ◌≤◌, ◌<◌}
use mathlib.Core.Path.{◌≡◌, refl, sym, ap, ◌∙◌, subst}
use native.Mathlib.Omega.{arith}
use Rattle.measure.specs.Reading.{used_of, word_errors, word_bits}
use Rattle.measure.proofs.Runs.{short}
use Rattle.measure.proofs.Tracks.{Passed, none_passed, count_below, bits_below, multiframes_passed, none_yet}
use Rattle.measure.proofs.Tracks.{lost_by_word, word_passed, lost_by_bit2, bit2_passed}
use Rattle.measure.proofs.track.Statement.{statement}
use Rattle.measure.proofs.track.Tie as tie

abbrev invariant_loop2 : tie.invariant-loop-i
invariant_loop2 s q h m t₀ words wordbits g i₀ i-end t i = (8 * g ≤ i) × (i ≤ i-end) × Passed s q h i i t

abbrev decreases_loop2 : tie.decreases-loop-i
decreases_loop2 s q h m t₀ words wordbits g i₀ i-end t i = i-end - i

abbrev invariant_loop : tie.invariant-loop-g
invariant_loop s q h m t₀ words₀ wordbits₀ g₀ t words wordbits g =
    (h ≤ g) × (g ≤ m) × Passed s q h (8 * g) (8 * g) t
    × (words ≡ word_errors s (q + 4096 * h) (g - h)) × (wordbits ≡ word_bits s (q + 4096 * h) (g - h))

abbrev decreases_loop : tie.decreases-loop-g
decreases_loop s q h m t₀ words₀ wordbits₀ g₀ t words wordbits g = m - g

loop_holds : tie.Need-loop-g-init invariant_loop2 decreases_loop2 invariant_loop decreases_loop
loop_holds c =
    let a = c.before.before.args in
    let r = c.after_multiframes-t.ensures in
    let p = none_passed a.s.now a.q a.h c.after_multiframes-t.result r in
    let (n, bits) = multiframes_passed p a.h refl in
    (omega arith, omega arith, p, sym r.words ∙ n, sym r.wordbits ∙ bits)

wrong_bits_requires : tie.Need-wrong_bits-requires invariant_loop2 decreases_loop2 invariant_loop decreases_loop
wrong_bits_requires c κs =
    record { countable = c.before.before.before.before.before.before.requires.0.countable; there = omega arith }

after_word_requires : tie.Need-after_word-t-requires invariant_loop2 decreases_loop2 invariant_loop decreases_loop
after_word_requires c κs =
    let p = c.before.before.loop-i.invariant.2 in (
      short p.words_run,
      short p.bits2_run,
      omega (arith, count_below p),
      omega (arith, bits_below p),
      c.wrong_bits.ensures.1,
    )

returns : tie.Need-returns-then-t-eq3 invariant_loop2 decreases_loop2 invariant_loop decreases_loop
returns c =
    let w = c.before.before in
    let l2 = w.before.before.before in
    let l = l2.before.before in
    let a = l.before.before.before.args in
    let i = l2.loop-i.i in
    let e = lost_by_word l2.loop-i.invariant.2 w.before.wrong_bits.ensures.0 w.after_word-t.ensures c.if-t-eq3.true a.m (omega arith) in
    let held : l.loop-g.g ≡ 2 * i / 16 = omega arith in (
      sym e,
      held ∙ sym (ap (λ o. used_of o a.m) e),
      l.loop-g.invariant.0,
      l.loop-g.invariant.1,
      l.loop-g.invariant.3,
      l.loop-g.invariant.4,
    )

-- the word of a frame has gone by, and is no loss
gone : (c : tie.Else-t-eq3 invariant_loop2 decreases_loop2 invariant_loop decreases_loop)
    → (let w = c.before.before in
    let l2 = w.before.before.before in
    let a = l2.before.before.before.before.before.args in
    Passed a.s.now a.q a.h (l2.loop-i.i + 1) l2.loop-i.i w.after_word-t.result)
gone c =
    let w = c.before.before in
    word_passed w.before.before.before.loop-i.invariant.2 w.before.wrong_bits.ensures.0 w.after_word-t.ensures c.if-t-eq3.false

-- the frames are few
few : (c : tie.At-loop-i invariant_loop2 decreases_loop2 invariant_loop decreases_loop) → c.loop-i.i < 2 ^ 60
few c =
    let d = c.before.before.before.before.before in
    omega (arith, d.requires.0.countable, d.requires.0.there)

returns_2 : tie.Need-returns-then-t-eq3-2 invariant_loop2 decreases_loop2 invariant_loop decreases_loop
returns_2 c =
    let w = c.before.before in
    let d = w.before.before in
    let l2 = d.before.before.before.before.before in
    let l = l2.before.before in
    let a = l.before.before.before.args in
    let i = l2.loop-i.i in
    let e = lost_by_bit2 (gone d) w.before.bit.ensures.0 w.after_bit2-t.ensures c.if-t-eq3-2.true a.m (omega arith) (omega arith) in
    let held : l.loop-g.g ≡ (2 * i + 1) / 16 = omega arith in (
      sym e,
      held ∙ sym (ap (λ o. used_of o a.m) e),
      l.loop-g.invariant.0,
      l.loop-g.invariant.1,
      l.loop-g.invariant.3,
      l.loop-g.invariant.4,
    )

loop2_again : tie.Need-loop-i-preserved invariant_loop2 decreases_loop2 invariant_loop decreases_loop
loop2_again c =
    let w = c.before.before in
    (omega arith, omega arith, bit2_passed (gone w.before.before) w.before.bit.ensures.0 w.after_bit2-t.ensures c.if-t-eq3-2.false)

loop_again : tie.Need-loop-g-preserved invariant_loop2 decreases_loop2 invariant_loop decreases_loop
loop_again c =
    let v = c.before.loop-i in
    let l = c.before.before.before in
    let a = l.before.before.before.args in
    let e : v.i ≡ 8 * (l.loop-g.g + 1) = omega arith in
    let (n, bits) = multiframes_passed v.invariant.2 (l.loop-g.g + 1) e in
    (omega arith, omega arith, subst (λ i. Passed a.s.now a.q a.h i i v.t) e v.invariant.2, n, bits)

returns_3 : tie.Need-returns invariant_loop2 decreases_loop2 invariant_loop decreases_loop
returns_3 c =
    let l = c.before in
    let a = l.before.before.before.args in
    let i = l.loop-g.invariant in
    let e = none_yet i.2 a.m (omega arith) (omega arith) (omega arith) in
    let d : l.loop-g.g ≡ a.m = omega arith in (
      sym e,
      sym (ap (λ o. used_of o a.m) e),
      omega arith,
      omega arith,
      i.3 ∙ ap (λ x. word_errors a.s.now (a.q + 4096 * a.h) (x - a.h)) d,
      i.4 ∙ ap (λ x. word_bits a.s.now (a.q + 4096 * a.h) (x - a.h)) d,
    )

pub track_spec : {M : Type 1} → statement M
track_spec =
    tie.close
    (tie.spec invariant_loop2 decreases_loop2 invariant_loop decreases_loop
    (λ c κs. record { countable = c.before.requires.0.countable; there = omega arith })
    loop_holds
    (omega arith)
    (omega arith)
    (omega arith)
    (λ c. (omega arith, omega arith, c.before.loop-g.invariant.2))
    (omega arith)
    (omega arith)
    (omega arith)
    wrong_bits_requires
    after_word_requires
    (omega arith)
    returns
    (omega arith)
    (omega arith)
    (omega arith)
    (omega arith)
    (omega arith)
    (omega arith)
    (λ c κs. let p = gone c.before in (short p.words_run, short p.bits2_run))
    (λ c. omega (arith, few c.before.before.before.before.before.before.before.before.before))
    (λ c. omega (arith, few c.before.before.before.before.before.before.before.before.before))
    returns_2
    (λ c. omega (arith, few c.before.before.before.before.before.before.before.before.before))
    (omega arith)
    loop2_again
    (omega arith)
    (omega arith)
    loop_again
    returns_3)
