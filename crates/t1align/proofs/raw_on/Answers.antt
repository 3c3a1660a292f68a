use Rattle.std.proofs.Common.{arith, ap, ◌∙◌, ◌≡◌, ◌+◌, ◌-◌, ◌*◌, ◌%◌, ◌<◌, ◌≤◌, ℕ}
use Rattle.t1.specs.Raw.{raw}
use Rattle.t1.proofs.Slides.{raw_part}
use Rattle.t1align.proofs.raw_on.Goals as goal

pub returns-then-j-i : goal.returns-then-j-i
returns-then-j-i c =
    let i = c.args.i in
    (c.of.ensures.0 ∙ raw_part c.args.s.now i (i + 579 - i) 0 (8 * i) (omega arith) (omega arith), c.of.ensures.1)

pub slid-r-requires : goal.slid-r-requires
slid-r-requires c = (omega arith, omega arith, c.loop-k.invariant.2, c.loop-k.invariant.3)

-- a window on
a_window_on : (k i : ℕ) → k < i → k % 7 ≡ i % 7 → (k + 7 ≤ i) × ((k + 7) % 7 ≡ i % 7)
a_window_on k i h e = (omega arith, omega arith)

pub loop-k-preserved : goal.loop-k-preserved
loop-k-preserved c =
    let k = c.loop-k.k in
    let w = a_window_on k c.args.i (omega arith) c.loop-k.invariant.1 in
    let e : 8 * k + 56 ≡ 8 * (k + 7) = omega arith in
    (w.0, w.1, c.slid-r.ensures.0 ∙ ap (raw c.args.s.now) e, c.slid-r.ensures.1)

pub returns-else-j-i : goal.returns-else-j-i
returns-else-j-i c =
    let e : c.loop-k.k ≡ c.args.i = omega arith in
    (c.loop-k.invariant.2 ∙ ap (λ k. raw c.args.s.now (8 * k)) e, c.loop-k.invariant.3)

pub returns-else-j-i-2 : goal.returns-else-j-i-2
returns-else-j-i-2 c =
    let k = c.loop-k.k in
    let w = a_window_on k c.args.i (omega arith) c.loop-k.invariant.1 in
    let e : 8 * k + 56 ≡ 8 * c.args.i = omega arith in
    (c.slid-r.ensures.0 ∙ ap (raw c.args.s.now) e, c.slid-r.ensures.1)
