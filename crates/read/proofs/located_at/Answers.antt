use Rattle.std.proofs.Common.{◌+◌, ◌*◌, ◌≤◌, length, refl, arith}
use Rattle.read.proofs.Measures.{start_room, located_so}
use Rattle.read.proofs.located_at.Goals as goal

pub overflow_mul-start : goal.overflow_mul-start
overflow_mul-start c = omega (arith, start_room c.args.image.now c.requires.0 c.args.place c.args.k c.requires.1)

pub overflow_add-start : goal.overflow_add-start
overflow_add-start c = omega (arith, start_room c.args.image.now c.requires.0 c.args.place c.args.k c.requires.1)

pub overflow_sub-whole : goal.overflow_sub-whole
overflow_sub-whole c = omega (arith, start_room c.args.image.now c.requires.0 c.args.place c.args.k c.requires.1)

pub track-tracked-requires : goal.track-tracked-requires
track-tracked-requires c =
    let r : (c.args.place + 16384 ≤ 8 * length c.args.image.now) × (c.args.k ≤ 18) × (length c.args.image.now ≤ 8192)
    = start_room c.args.image.now c.requires.0 c.args.place c.args.k c.requires.1 in
    (record { countable = omega arith; there = omega arith }, omega arith)

pub returns : goal.returns
returns c =
    let e = c.track-tracked.ensures in
    located_so c.args.image.now c.requires.0 c.args.place c.args.k c.requires.1 _ _ _ refl refl e.1 _ refl refl refl refl e.0 e.4 e.5
