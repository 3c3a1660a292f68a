use Prim.Native.Nat.{◌+◌, ◌-◌, ◌*◌, ◌/◌, ◌%◌, ◌^◌, ◌<◌}
use mathlib.Core.Path.{◌≡◌, sym, ap, ◌∙◌}
use native.Mathlib.Omega.{arith}
use lib.Bits.{bit_or}
use Rattle.line.proofs.BitLaws.{shifts_join}
use Rattle.t1write.proofs.joined.Goals as goal

pub returns : goal.returns
returns c =
    let a = c.args in
    let e : a.g + 1 + (63 - a.g) ≡ 64 = omega arith in
    let d : 63 - a.g + (a.g + 1) ≡ 64 = omega arith in
    let h : a.low < 2 ^ (63 - a.g + (a.g + 1)) = rw d (omega arith) in
    ap (λ n. bit_or (a.high * 2 ^ (63 - a.g) % 2 ^ n) (a.low / 2 ^ (a.g + 1))) (sym e)
    ∙ shifts_join a.high a.low (a.g + 1) (63 - a.g) h
