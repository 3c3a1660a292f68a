use mathlib.Core.Path.{sym, ap, ◌∙◌}
use Rattle.std.specs.Prelude.{Ok}
use native.Mathlib.Omega.{arith}
use Rattle.align.proofs.WhyLaws.{asked, why_short, why_long, why_late, why_judged}
use Rattle.align.proofs.ask.why.Goals as goal

pub returns-then-image-lt2048 : goal.returns-then-image-lt2048
returns-then-image-lt2048 c = sym ((why_short c.args.image.now c.args.place).1 c.if-image-lt2048.true)

pub returns-then-image-gt8192 : goal.returns-then-image-gt8192
returns-then-image-gt8192 c = sym ((why_long c.args.image.now c.args.place).1 c.if-image-gt8192.true)

pub returns-then-image-p : goal.returns-then-image-p
returns-then-image-p c = sym ((why_late c.args.image.now c.args.place (omega arith) (omega arith)).1 (omega arith))

pub returns : goal.returns
returns c =
    let s = c.args.image.now in
    ap Ok c.judge.ensures ∙ sym (why_judged s c.args.place ((asked s c.args.place).1 (omega arith, omega arith, omega arith)))
