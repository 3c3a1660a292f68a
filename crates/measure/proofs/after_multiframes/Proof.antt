-- `after_multiframes` meets its contract: at the head of the loop the runs are told by the frames from 2 * (8 * h - 2) on.
use Rattle.std.specs.Prelude.{if◌then◌else◌}
use Prim.Native.Nat.{ℕ, ◌+◌, ◌-◌, ◌*◌, ◌≤◌, ◌<◌}
use mathlib.Core.Path.{◌≡◌, refl, sym, ap, ◌∙◌}
use mathlib.Core.Bool.{Bool, not}
use native.Mathlib.Omega.{arith}
use lib.Dec.{eqb}
use Rattle.measure.specs.Reading.{wrong, wrong_bit2}
use Rattle.measure.specs.Track.{run_of}
use Rattle.measure.specs.declared.Tracking.{Tracking}
use Rattle.measure.proofs.Tracks.{Told, none_told, told_short, told_runs, word_told, bit2_told}
use Rattle.measure.proofs.after_multiframes.Statement.{statement}
use Rattle.measure.proofs.after_multiframes.Tie as tie
use Rattle.measure.proofs.after_multiframes.Lts.{then-is_word, else-is_word}

abbrev invariant_loop : tie.invariant-loop-i
invariant_loop s q h t₀ i₀ i-end t i = (8 * h - 2 ≤ i) × (i ≤ 8 * h) × Told s q (8 * h - 2) i i t

abbrev decreases_loop : tie.decreases-loop-i
decreases_loop s q h t₀ i₀ i-end t i = i-end - i

fewer : (i n : ℕ) → i < n → n - (i + 1) < n - i
fewer i n h = omega arith

returns : tie.Need-returns-then-h-eq0 invariant_loop decreases_loop
unfolding run_of
returns c =
    let e = c.if-h-eq0.true in
    record { wordrun = rw e; bit2run = rw e; words = refl; wordbits = refl }

is_word_requires : tie.Need-is_word-requires invariant_loop decreases_loop
is_word_requires c κs = record { countable = c.before.before.before.before.requires.countable; there = omega arith }

-- the word of a frame has gone by
gone : (c : tie.Joined-is_word invariant_loop decreases_loop)
    → (let l = c.before.before.before in
    let a = l.before.before.before.args in
    Told a.s.now a.q (8 * a.h - 2) (l.loop-i.i + 1) l.loop-i.i c.if-is_word.t)
unfolding wrong
gone c =
    let w = c.before in
    let l = w.before.before in
    let a = l.before.before.before.args in
    let t = l.loop-i.t in
    let i = l.loop-i.i in
    let e : wrong a.s.now a.q i ≡ not w.is_word.result = sym (ap not w.is_word.ensures) in
    let run : Bool → ℕ = λ b. if b then t.wordrun + 1 else 0 in
    let p = word_told l.loop-i.invariant.0 l.loop-i.invariant.2 in
    elim c.if-is_word.branch [
      | then-is_word o ↦
          let k = o.t-is in
          p
          (ap (λ (x : Tracking). x.wordrun) k ∙ sym (ap run (e ∙ ap not o.if-is_word.true)))
          (ap (λ (x : Tracking). x.bit2run) k) (ap (λ (x : Tracking). x.words) k) (ap (λ (x : Tracking). x.wordbits) k)
      | else-is_word o ↦
          let k = o.t-is in
          p
          (ap (λ (x : Tracking). x.wordrun) k ∙ sym (ap run (e ∙ ap not o.if-is_word.false)))
          (ap (λ (x : Tracking). x.bit2run) k) (ap (λ (x : Tracking). x.words) k) (ap (λ (x : Tracking). x.wordbits) k)
    ]

after_bit2_requires : tie.Need-after_bit2-t-requires invariant_loop decreases_loop
after_bit2_requires c κs = told_short (gone c.before) (omega arith) (omega arith)

loop_again : tie.Need-loop-i-preserved invariant_loop decreases_loop
unfolding wrong_bit2
loop_again c =
    let d = c.before.before in
    let l = d.before.before.before in
    let e = c.after_bit2-t.ensures in (
      omega arith,
      omega arith,
      bit2_told l.loop-i.invariant.0 (gone d) e.0
          (e.1 ∙ ap (λ x. if eqb x 0 then d.if-is_word.t.bit2run + 1 else 0) c.before.bit.ensures.0)
          e.2 e.3,
    )

returns_2 : tie.Need-returns invariant_loop decreases_loop
returns_2 c = told_runs c.before.loop-i.invariant.2 (omega arith) (omega arith)

pub after_multiframes_spec : {M : Type 1} → statement M
after_multiframes_spec =
    tie.close
    (tie.spec
    invariant_loop
    decreases_loop
    returns
    (omega arith)
    (omega arith)
    (omega arith)
    (λ c. let a = c.before.before.args in (omega arith, omega arith, none_told a.s.now a.q (8 * a.h - 2)))
    (omega arith)
    (omega arith)
    (omega arith)
    is_word_requires
    (λ c. omega (arith, c.before.before.before.before.loop-i.invariant.2.words_run))
    (omega arith)
    (omega arith)
    (omega arith)
    (omega arith)
    (omega arith)
    (λ c κs. omega arith)
    after_bit2_requires
    (omega arith)
    (λ c. let l = c.before.before.before.before.before in fewer l.loop-i.i (8 * l.before.before.before.args.h) (omega arith))
    loop_again
    returns_2)
