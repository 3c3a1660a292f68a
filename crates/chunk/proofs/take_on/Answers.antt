use Rattle.std.proofs.Common.{◌+◌, ◌-◌, ◌*◌, ◌/◌, ◌%◌, take, sym, ap, subst, ◌∙◌, arith}
use Rattle.chunk.specs.Look.{Tracks}
use Rattle.chunk.proofs.BufferLaws.{image_length}
use Rattle.chunk.proofs.FollowLaws.{tracks}
use Rattle.chunk.proofs.TakeLaws.{next_holds}
use Rattle.chunk.proofs.take_on.Goals as goal

pub take_tracked-requires : goal.take_tracked-requires
take_tracked-requires c =
    let a = c.args in
    let r = c.requires in
    let q = c.start-q.result % 8 in
    let n = 512 * ((a.fill + 511) / 512) + 513 - a.fill in
    let e = c.join-e.result in
    let near = take e c.join-e.new.image in
    let long = image_length (take a.fill a.window.now) (take n a.chunk.now) c.join-e.new.image e c.join-e.ensures.0 c.join-e.ensures.2 in (
      r.0,
      r.1,
      r.2,
      r.3,
      r.4,
      ap (λ n. n % 8) c.start-q.ensures,
      omega (arith, (next_holds a.fill r.2).0),
      c.join-e.ensures.2,
      subst (λ h. Tracks near q h c.track-x.result) c.kept.ensures
          (tracks near q c.kept.result c.whole.result c.track-x.result
          (c.whole.ensures ∙ ap (λ n. (8 * n - q) / 4096) (sym long)) c.track-x.ensures),
    )
