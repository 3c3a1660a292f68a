use Prim.Native.Nat.{◌+◌, ◌-◌, ◌*◌, ◌%◌, ◌^◌}
use mathlib.Core.Path.{◌≡◌, refl, ap, ◌∙◌}
use native.Mathlib.Omega.{arith}
use lib.ListN.{get_or, take, set, length, length-set}
use Rattle.base.specs.Tab.{tab_from}
use Rattle.base.proofs.TabLaws.{fill_more, tab_fill}
use Rattle.line.specs.Bit.{field}
use Rattle.line.specs.Spelt.{packed, spelt}
use Rattle.t1write.proofs.Words.{frames_octet, field_last, first_word, next_word, word_more, last_octet}
use Rattle.t1write.proofs.write_eight.Goals as goal

pub loop-g-init : goal.loop-g-init
unfolding field spelt tab_from
loop-g-init c = (refl, refl)

pub loop-g-preserved : goal.loop-g-preserved
loop-g-preserved c =
    let o = c.args.octets.now in
    let f = c.args.framing in
    let g = c.loop-g.g in
    let out = c.loop-g.out in
    let e : 24 * (g + 1) ≡ 24 * g + 24 = omega arith in
    let q : 8 * (24 * g + 16) + (63 - g) ≡ 191 * (g + 1) = omega arith in
    let long : length out ≡ 193 = omega (arith, c.loop-g.auto.out) in
    let word₁ = c.joined.ensures
    ∙ first_word o f g (omega arith) c.loop-g.before c.window-first.result (8 * (24 * g)) c.loop-g.invariant.0 (omega arith)
    c.window-first.ensures in
    let done₁ = word_more o f (24 * g) (24 * g + 8) c.joined.result (8 * (24 * g)) out c.spell.new.octets refl refl word₁ c.spell.ensures
    (omega arith) c.loop-g.invariant.1 in
    let word₂ = c.joined-in-loop-g.ensures
    ∙ next_word o f g (omega arith) c.window-first.result c.window-second.result (8 * (24 * g)) (8 * (24 * g + 8))
    c.window-first.ensures c.window-second.ensures (omega arith) (omega arith) (omega arith) in
    let done₂ = word_more o f (24 * g + 8) (24 * g + 16) c.joined-in-loop-g.result (8 * (24 * g + 8)) _ c.spell-in-loop-g.new.octets
    (omega arith) refl word₂ c.spell-in-loop-g.ensures (omega arith) done₁ in
    let word₃ = c.joined-in-loop-g-2.ensures
    ∙ next_word o f g (omega arith) c.window-second.result c.window-third.result (8 * (24 * g + 8)) (8 * (24 * g + 16))
    c.window-second.ensures c.window-third.ensures (omega arith) (omega arith) (omega arith) in
    let done₃ = word_more o f (24 * g + 16) (24 * g + 24) c.joined-in-loop-g-2.result (8 * (24 * g + 16)) _ c.spell-in-loop-g-2.new.octets
    (omega arith) refl word₃ c.spell-in-loop-g-2.ensures (omega arith) done₂ in (
      ap (λ x. x % 2 ^ (g + 1)) c.window-third.ensures ∙ field_last o (8 * (24 * g + 16)) (63 - g) (g + 1) 64 (omega arith)
          ∙ ap (λ x. field o x (g + 1)) q,
      rw e done₃,
    )

pub returns : goal.returns
unfolding packed
returns c =
    let o = c.args.octets.now in
    let f = c.args.framing in
    let out = c.loop-g.out in
    let e : 24 * c.loop-g.g ≡ 192 = omega arith in
    let long : length out ≡ 193 = omega (arith, c.loop-g.auto.out) in
    let last = last_octet o f (c.type_inv.octets 191).fits in
    tab_fill (set out 192 (get_or o 191 0)) 193 (frames_octet o f) (omega (arith, length-set out 192 (get_or o 191 0)))
    (ap (λ x. take 193 (set out 192 x)) last ∙ fill_more out 192 (frames_octet o f) (omega arith) (rw e at c.loop-g.invariant.1))
