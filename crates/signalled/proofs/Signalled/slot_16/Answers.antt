use Rattle.std.proofs.Common.{◌≡◌, ap₂, arith, ne_eqb, ◌+◌, ◌*◌, ◌-◌, ◌/◌, ◌%◌, get_or}
use Rattle.signalled.specs.Slot16.{slot16}
use Rattle.signalled.proofs.Signalled.slot_16.Goals as goal

pub returns-then-i-eq0 : goal.returns-then-i-eq0
unfolding slot16
returns-then-i-eq0 c = rw c.if-i-eq0.true

-- channels i and i + 15
pub returns : goal.returns
unfolding slot16
returns c =
    let i = c.args.f % 16 in
    let m = 30 * (c.args.f / 16) in
    let v = c.args.self.now.abcd.now in
    let low : m + i - 1 ≡ m + (i - 1) = omega arith in
    let high : m + i + 14 ≡ m + (i + 15 - 1) = omega arith in
    rw (ne_eqb i 0 c.if-i-eq0.false) (ap₂ (λ a b. 16 * get_or v a 0 + get_or v b 0) low high)
