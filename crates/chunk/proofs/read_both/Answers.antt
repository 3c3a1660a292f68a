use Rattle.std.proofs.Common.{◌≡◌, ℕ, ◌+◌, ◌-◌, ◌*◌, ◌^◌, List, length, ap, ap₂, ◌∙◌, arith}
use Rattle.measure.specs.Reading.{compared, disagreeing}
use Rattle.growth.proofs.Counts.{disagreeing_few, far_end_few}
use Rattle.chunk.proofs.FollowLaws.{small_more, gone_within, tracked_few, tracked_room, both_line}
use Rattle.chunk.proofs.read_both.Goals as goal

-- What was tracked of both is little, and lies in them.

pub overflow_add-gain : goal.overflow_add-gain
overflow_add-gain c =
    let a = c.args in
    let x = tracked_few a.near.now a.q a.h a.x c.requires.5 in
    let y = tracked_few a.far.now a.q 1 a.y c.requires.8 in
    omega (arith, x, y)

pub overflow_add-gain-2 : goal.overflow_add-gain-2
overflow_add-gain-2 c =
    let a = c.args in
    let x = tracked_few a.near.now a.q a.h a.x c.requires.5 in
    let y = tracked_few a.far.now a.q 1 a.y c.requires.8 in
    omega (arith, x, y)

pub compared-requires : goal.compared-requires
compared-requires c =
    let a = c.args in
    let x = tracked_few a.near.now a.q a.h a.x c.requires.5 in
    let y = tracked_few a.far.now a.q 1 a.y c.requires.8 in
    omega (arith, x, y)

pub judge_both-requires : goal.judge_both-requires
judge_both-requires c =
    let a = c.args in
    let x = tracked_few a.near.now a.q a.h a.x c.requires.5 in
    let y = tracked_few a.far.now a.q 1 a.y c.requires.8 in
    let near = tracked_room a.near.now a.q a.h a.x c.requires.5 c.requires.1 (omega (arith, c.requires.5.at_most)) in
    let far = tracked_room a.far.now a.q 1 a.y c.requires.8 c.requires.2 (omega (arith, c.requires.8.at_least, c.requires.8.at_most)) in
    let v : c.compared.result ≡ compared a.x.used = c.compared.ensures in
    let w : c.compared-2.result ≡ compared a.y.used = c.compared-2.ensures in (
      λ o. record { countable = near.countable; there = omega (arith, near.there) },
      λ o. record { countable = far.countable; there = omega (arith, far.there) },
      omega (arith, x),
      omega (arith, y),
    )

pub far_ends-requires : goal.far_ends-requires
far_ends-requires c =
    let a = c.args in
    let x = tracked_few a.near.now a.q a.h a.x c.requires.5 in
    let y = tracked_few a.far.now a.q 1 a.y c.requires.8 in
    let near = tracked_room a.near.now a.q a.h a.x c.requires.5 c.requires.1 (omega (arith, c.requires.5.at_most)) in
    let far = tracked_room a.far.now a.q 1 a.y c.requires.8 c.requires.2 (omega (arith, c.requires.8.at_least, c.requires.8.at_most)) in (
      record { countable = near.countable; there = omega (arith, near.there, c.requires.5.at_least) },
      record { countable = far.countable; there = omega (arith, far.there, c.requires.8.at_least) },
      omega (arith, x),
      omega (arith, y),
    )

pub overflow_add-gain-3 : goal.overflow_add-gain-3
overflow_add-gain-3 c =
    let a = c.args in
    let x = tracked_few a.near.now a.q a.h a.x c.requires.5 in
    let y = tracked_few a.far.now a.q 1 a.y c.requires.8 in
    omega (arith, x, y)

pub overflow_mul-x : goal.overflow_mul-x
overflow_mul-x c =
    let a = c.args in
    let x = tracked_few a.near.now a.q a.h a.x c.requires.5 in
    let y = tracked_few a.far.now a.q 1 a.y c.requires.8 in
    omega (arith, x, y)

pub overflow_add-x : goal.overflow_add-x
overflow_add-x c =
    let a = c.args in
    let x = tracked_few a.near.now a.q a.h a.x c.requires.5 in
    let y = tracked_few a.far.now a.q 1 a.y c.requires.8 in
    omega (arith, x, gone_within (length a.far.now) a.y.used a.gone a.y.loss y.0 c.requires.9)

pub lost_by-requires : goal.lost_by-requires
lost_by-requires c =
    let a = c.args in
    let x = tracked_few a.near.now a.q a.h a.x c.requires.5 in
    let y = tracked_few a.far.now a.q 1 a.y c.requires.8 in
    (omega (arith, x, c.requires.0.used), omega (arith, y))

pub gaining-requires : goal.gaining-requires
gaining-requires c =
    let a = c.args in
    let x = tracked_few a.near.now a.q a.h a.x c.requires.5 in
    let y = tracked_few a.far.now a.q 1 a.y c.requires.8 in (
      small_more a.c (2 ^ 39) (2 ^ 50) (omega arith) c.requires.0,
      omega (arith, x, gone_within (length a.far.now) a.y.used a.gone a.y.loss y.0 c.requires.9),
      record {
        multiframes = omega (arith, x, y);
        words = omega (arith, x, y);
        errored =
            omega (
              arith,
              x,
              y,
              c.judge_both.ensures,
              disagreeing_few a.near.now (a.q + 2048 * c.compared-judged.result) (c.compared.result - c.compared-judged.result),
              disagreeing_few a.far.now (a.q + 2048) (c.compared-2.result - 1),
              c.compared.ensures,
              c.compared-2.ensures,
            );
        farend =
            omega (
              arith,
              x,
              y,
              c.far_ends.ensures,
              far_end_few a.near.now (a.q + 4096 * a.h) (a.x.used - a.h),
              far_end_few a.far.now (a.q + 4096) (a.y.used - 1),
            );
        wordbits = omega (arith, x, y);
      },
    )

-- the blocks of both
blocks : (near far : List ℕ) (q u u' v v' w w' n : ℕ) → u ≡ u' → v ≡ v' → w ≡ w'
    → n ≡ disagreeing near (q + 2048 * u) (v - u) + disagreeing far (q + 2048) (w - 1)
    → n ≡ disagreeing near (q + 2048 * u') (v' - u') + disagreeing far (q + 2048) (w' - 1)
blocks near far q u u' v v' w w' n eu ev ew e =
    e
    ∙ ap₂ (λ a b. disagreeing near (q + 2048 * a) (b - a) + disagreeing far (q + 2048) (w - 1)) eu ev
    ∙ ap (λ b. disagreeing near (q + 2048 * u') (v' - u') + disagreeing far (q + 2048) (b - 1)) ew

pub returns : goal.returns
returns c =
    let a = c.args in
    let r = c.requires in
    c.gaining.ensures
    ∙ both_line a.c a.near.now a.q a.h a.x r.3 r.4 r.5 r.6 r.7 a.far.now a.y r.8 a.gone c.lost_by.result r.9
    c.lost_by.ensures c.judge_both.result c.far_ends.result
    (blocks a.near.now a.far.now a.q c.compared-judged.result (compared a.h) c.compared.result (compared a.x.used)
    c.compared-2.result (compared a.y.used) c.judge_both.result c.compared-judged.ensures c.compared.ensures
    c.compared-2.ensures c.judge_both.ensures)
    c.far_ends.ensures
