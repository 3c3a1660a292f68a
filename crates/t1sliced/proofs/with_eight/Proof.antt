-- `with_eight` meets its contract: frame j begins at bit j of the octet 24 j on.
use Prim.Native.Nat.{◌+◌, ◌*◌}
use native.Mathlib.Omega.{arith}
use borrow.Author.Rules.{rules}
use lib.Dec.{lit<}
use Rattle.t1sliced.proofs.Frames.{frame_on}
use Rattle.t1sliced.proofs.with_eight.Statement.{statement}
use Rattle.t1sliced.proofs.with_eight.Tie as tie

returns : tie.Need-returns
returns c n e h =
    let f8 = c.before in
    let w7 = f8.before in
    let f7 = w7.before in
    let w6 = f7.before in
    let f6 = w6.before in
    let w5 = f6.before in
    let f5 = w5.before in
    let w4 = f5.before in
    let f4 = w4.before in
    let w3 = f4.before in
    let f3 = w3.before in
    let w2 = f3.before in
    let f2 = w2.before in
    let w1 = f2.before in
    let f1 = w1.before in
    let a = f1.before.before.args in
    let s = a.part.now in
    let h1 = frame_on s n (n + 1) (8 * a.i + 0) f1.framing.result (omega arith) (omega arith) f1.framing.ensures a.a w1.with_frame-by_1.result w1.with_frame-by_1.ensures h in
    let h2 = frame_on s (n + 1) (n + 2) (8 * (a.i + 24) + 1) f2.framing-2.result (omega arith) (omega arith) f2.framing-2.ensures w1.with_frame-by_1.result w2.with_frame-by_2.result w2.with_frame-by_2.ensures h1 in
    let h3 = frame_on s (n + 2) (n + 3) (8 * (a.i + 48) + 2) f3.framing-3.result (omega arith) (omega arith) f3.framing-3.ensures w2.with_frame-by_2.result w3.with_frame-by_3.result w3.with_frame-by_3.ensures h2 in
    let h4 = frame_on s (n + 3) (n + 4) (8 * (a.i + 72) + 3) f4.framing-4.result (omega arith) (omega arith) f4.framing-4.ensures w3.with_frame-by_3.result w4.with_frame-by_4.result w4.with_frame-by_4.ensures h3 in
    let h5 = frame_on s (n + 4) (n + 5) (8 * (a.i + 96) + 4) f5.framing-5.result (omega arith) (omega arith) f5.framing-5.ensures w4.with_frame-by_4.result w5.with_frame-by_5.result w5.with_frame-by_5.ensures h4 in
    let h6 = frame_on s (n + 5) (n + 6) (8 * (a.i + 120) + 5) f6.framing-6.result (omega arith) (omega arith) f6.framing-6.ensures w5.with_frame-by_5.result w6.with_frame-by_6.result w6.with_frame-by_6.ensures h5 in
    let h7 = frame_on s (n + 6) (n + 7) (8 * (a.i + 144) + 6) f7.framing-7.result (omega arith) (omega arith) f7.framing-7.ensures w6.with_frame-by_6.result w7.with_frame-by_7.result w7.with_frame-by_7.ensures h6 in
    frame_on s (n + 7) (n + 8) (8 * (a.i + 168) + 7) f8.framing-8.result (omega arith) (omega arith) f8.framing-8.ensures w7.with_frame-by_7.result c.with_frame.result c.with_frame.ensures h7

-- the contract lies too far back for the search
add_framing_7 : tie.Need-overflow_add-i-7
add_framing_7 c = omega (arith, c.requires.1)

framing_requires_8 : tie.Need-framing-requires-8
framing_requires_8 c κs = let pre = c.requires in (pre.0, omega arith, lit< tt)

pub with_eight_spec : {M : Type 1} → statement M
with_eight_spec =
    tie.close
    (tie.spec
    (search rules) (search rules)
    (search rules) (search rules) (search rules)
    (search rules) (search rules) (search rules)
    (search rules) (search rules) (search rules)
    (search rules) (search rules) (search rules)
    (search rules) (search rules) (search rules)
    (search rules) (search rules) (search rules)
    add_framing_7 framing_requires_8 (search rules)
    returns)
