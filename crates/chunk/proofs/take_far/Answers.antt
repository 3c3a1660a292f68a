use Rattle.std.proofs.Common.{take, arith}
use Rattle.chunk.proofs.BufferLaws.{filled}
use Rattle.chunk.proofs.TakeLaws.{takes_as, cut_there}
use Rattle.chunk.proofs.take_far.Goals as goal

pub returns : goal.returns
returns c =
    let a = c.args in
    takes_as
    (cut_there a.near.now (take a.fill a.window.now) a.chunk.now a.fill a.n (filled a.window.now a.fill (omega arith) c.requires.1)
    c.requires.3 c.requires.5 a.c c.look-x.result c.look-x.ensures c.requires.6)
    c.take_two.ensures
