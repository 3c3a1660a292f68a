use mathlib.Core.Bool.{◌&&◌}
use native.Mathlib.Decide.{dec_lt}
use native.Mathlib.Numerals.{add-one}
use native.Mathlib.Omega.{arith}
use borrow.Author.Tests.{lt-ltb, le-ltb, eq-eqb, ne_eqb}
use lib.Bits.{bit_or, or_lt, or_add_and, and_le_l, and_le_r}
use lib.Dec.{ltb}
use lib.ListN.{get_or}
use Rattle.std.proofs.Common.{◌≡◌, ℕ, refl, sym, ap, ◌∙◌}
use Rattle.base.specs.Tab.{all}
use Rattle.t1write.specs.Entry.{are_bits}
use Rattle.t1write.proofs.are_bits.Goals as goal

-- x | y is a bit exactly where both are
both_bits : (x y : ℕ) → ltb (bit_or x y) 2 ≡ ltb x 2 && ltb y 2
both_bits x y =
    let s = or_add_and x y in
    elim (dec_lt x 2) [
      | yes h ↦
          elim (dec_lt y 2) [
            | yes k ↦ rw (lt-ltb x 2 h, lt-ltb y 2 k) (lt-ltb (bit_or x y) 2 (or_lt 1 x y h k))
            | no k ↦ rw (lt-ltb x 2 h, le-ltb y 2 (omega arith)) (le-ltb (bit_or x y) 2 (omega (arith, and_le_l x y)))
          ]
      | no h ↦ rw (le-ltb x 2 (omega arith)) (le-ltb (bit_or x y) 2 (omega (arith, and_le_r x y)))
    ]

pub loop-octet-init : goal.loop-octet-init
unfolding all
loop-octet-init c = refl

pub loop-octet-preserved : goal.loop-octet-preserved
unfolding all
loop-octet-preserved c =
    let x = get_or c.args.octets.now c.loop-octet.octet-index 0 in
    both_bits c.loop-octet.all x ∙ ap (λ b. b && ltb x 2) c.loop-octet.invariant ∙ rw add-one

pub returns-then-octets-n : goal.returns-then-octets-n
unfolding are_bits
returns-then-octets-n c = simp (ne_eqb _ _ c.if-octets-n.true)

pub returns : goal.returns
unfolding are_bits
returns c =
    let o = c.args.octets.now in
    let n = c.args.n in
    let e : c.loop-octet.octet-index ≡ n = omega arith in
    c.loop-octet.invariant ∙ ap (λ n. all n (λ i. ltb (get_or o i 0) 2)) e
    ∙ sym (ap (λ b. b && all n (λ i. ltb (get_or o i 0) 2)) (eq-eqb _ _ c.if-octets-n.false))
