-- `judge` meets its contract: at the head of the loop the superframes before b are judged, the data link of those up to b
-- is written, and the framing bits of b are known.
use Prim.Native.Nat.{ℕ, ◌+◌, ◌-◌, ◌*◌, ◌/◌, ◌^◌, ◌≤◌, ◌<◌}
use mathlib.Core.Path.{◌≡◌, refl, sym, ap, ◌∙◌}
use mathlib.Core.Bool.{Bool, not}
use mathlib.Core.List.{List, ◌++◌}
use native.Mathlib.Omega.{arith}
use borrow.Author.Rules.{rules}
use borrow.Author.Tests.{eq-eqb, ne_eqb}
use borrow.Rule.Slice.PartMut.{put_mid}
use lib.Bits.{bit_and, and_le_r}
use lib.ListN.{length, take, drop}
use lib.Seq.{drop-drop}
use Rattle.base.specs.Tab.{tab, tab_from, sum, count}
use Rattle.base.proofs.TabLaws.{count_yes, count_no, count_le}
use Rattle.base.proofs.PartLaws.{part_length, parts_kept}
use Rattle.line.proofs.BitLaws.{place_in}
use Rattle.t1.specs.Superframe.{super_check, agrees}
use Rattle.t1.specs.Raw.{framing_of}
use Rattle.t1read.specs.Reading.{link_bit, link_of, errored}
use Rattle.t1read.proofs.Judged.{link_more, link_rest, judged}
use Rattle.t1read.proofs.judge.Statement.{statement}
use Rattle.t1read.proofs.judge.Tie as tie
use Rattle.t1read.proofs.judge.Lts.{then-check_at-carried_by, else-check_at-carried_by}

abbrev differs : List ℕ → ℕ → ℕ → Bool
differs s q b = not (agrees s (q + 4632 * b))

-- the data link of superframes up to b, and the rest as it was
abbrev Linked : List ℕ → ℕ → ℕ → List ℕ → List ℕ → Type 0
Linked s q b link₀ link =
    (length link ≡ length link₀) × (take (12 * b + 12) link ≡ tab (12 * b + 12) (link_bit s q)) ×
    (drop (12 * b + 12) link ≡ drop (12 * b + 12) link₀)

abbrev invariant_loop : tie.invariant-loop-b
invariant_loop s q n link₀ i o framing₀ errored₀ b₀ b_end link framing errored b =
    (b ≤ n - 1) × (framing ≡ framing_of s (q + 4632 * b)) × (framing < 2 ^ 24) × Linked s q b link₀ link ×
    (errored ≡ count b (differs s q))

abbrev decreases_loop : tie.decreases-loop-b
decreases_loop s q n link₀ i o framing₀ errored₀ b₀ b_end link framing errored b = n - b

-- the place q, octet and bit
at_place : (q k : ℕ) → 8 * (q / 8 + 579 * k) + bit_and q 7 ≡ q + 4632 * k
at_place q k = omega (arith, place_in q)

framing_requires : tie.Need-framing-framing-requires invariant_loop decreases_loop
framing_requires c κs =
    let d = c.before.before in
    let q = d.args.q in
    let there = d.requires.0.there in (omega (arith, place_in q), omega (arith, and_le_r q 7))

loop_holds : tie.Need-loop-b-init invariant_loop decreases_loop
unfolding tab_from sum
loop_holds c =
    let f = c.before.before.before.before.framing-framing in
    let w = c.before.before.put_link in
    let a = c.before.before.before.before.before.before.before.args in
    let s = a.s.now in
    let q = a.q in
    let p : 8 * (q / 8) + bit_and q 7 ≡ q + 4632 * 0 = omega (arith, place_in q) in
    let e = f.ensures.0 ∙ ap (framing_of s) p in (
      omega arith,
      e,
      f.ensures.1,
      (refl, link_more s q 0 0 f.result a.link.now w.new.out refl (omega arith) e w.ensures 12 refl refl, refl),
      refl,
    )

framing_requires_2 : tie.Need-framing-next-requires invariant_loop decreases_loop
framing_requires_2 c κs =
    let l = c.before in
    let d = l.before.before.before.before.before.before.before.before in
    let q = d.args.q in
    let there = d.requires.0.there in
    (omega (arith, at_place q (l.loop-b.b + 1)), omega (arith, and_le_r q 7))

put_link_requires_2 : tie.Need-put_link-requires-in-loop-b invariant_loop decreases_loop
put_link_requires_2 c κs =
    let l = c.before.before.before in
    let a = 12 * l.loop-b.b + 12 in
    let long = l.loop-b.invariant.3.0 ∙ l.before.before.link-1.given.1 in
    part_length a (a + 12) l.loop-b.link (omega arith) ∙ omega arith

check_at_requires : tie.Need-check_at-requires invariant_loop decreases_loop
check_at_requires c κs =
    let l = c.before.before.before.before.before.before in
    let d = l.before.before.before.before.before.before.before.before in
    let q = d.args.q in
    let there = d.requires.0.there in (
      omega (arith, place_in q),
      omega (arith, and_le_r q 7),
      l.loop-b.invariant.1 ∙ ap (framing_of d.args.s.now) (sym (at_place q l.loop-b.b)),
      l.loop-b.invariant.2,
    )

add_errored : tie.Need-overflow_add-errored invariant_loop decreases_loop
add_errored c =
    let l = c.before.before.before.before.before.before.before.before.before in
    let d = l.before.before.before.before.before.before.before.before in
    omega (arith, l.loop-b.invariant.4, count_le l.loop-b.b (differs d.args.s.now d.args.q))

loop_again : tie.Need-loop-b-preserved invariant_loop decreases_loop
loop_again c =
    let k = c.before.carried_by in
    let t = c.before.before.check_at in
    let put = c.before.before.before.before in
    let w = put.before.put_link-in-loop-b in
    let f = put.before.before.before.framing-next in
    let l = put.before.before.before.before.before in
    let d = l.before.before.before.before.before.before.before.before in
    let a = d.args in
    let s = a.s.now in
    let q = a.q in
    let b = l.loop-b.b in
    let v = l.loop-b.invariant in
    let p : 8 * (q / 8 + 579 * b + 579) + bit_and q 7 ≡ q + 4632 * (b + 1) = omega (arith, at_place q (b + 1)) in
    let n : q + 4632 * (b + 1) ≡ q + 4632 * b + 4632 = omega arith in
    let e = f.ensures.0 ∙ ap (framing_of s) p in
    let x = t.result in
    let y = k.result in
    let so = sym (judged s (q + 4632 * b) x y (t.ensures ∙ ap (super_check s) (at_place q b))
    (k.ensures.0 s (q + 4632 * b + 4632) (e ∙ ap (framing_of s) n))) in
    let ys = w.new.out in
    let long = v.3.0 ∙ l.before.before.link-1.given.1 in
    let fits : 12 * b + 12 + 12 ≤ length l.loop-b.link = omega (arith, long, d.requires.2) in
    let next : 12 * b + 12 ≡ 12 * (b + 1) = omega arith in
    let step : 12 * (b + 1) + 12 ≡ 12 * b + 12 + 12 = omega arith in (
      omega arith,
      e,
      f.ensures.1,
      (
        put.link-in-loop-b-1.given.1 ∙ v.3.0,
        link_more s q (b + 1) (12 * b + 12) f.result l.loop-b.link ys next fits e w.ensures _ step v.3.1,
        link_rest s q (b + 1) (12 * b + 12) f.result l.loop-b.link ys next fits e w.ensures _ step _ v.3.2,
      ),
      elim c.if-check_at-carried_by.branch [
        | then-check_at-carried_by w ↦ w.errored-is ∙ ap (λ m. m + 1) v.4 ∙ sym (count_yes b (differs s q) (ap not (so ∙ ne_eqb x y w.if-check_at-carried_by.true)))
        | else-check_at-carried_by w ↦ w.errored-is ∙ v.4 ∙ sym (count_no b (differs s q) (ap not (so ∙ eq-eqb x y w.if-check_at-carried_by.false)))
      ],
    )

returns : tie.Need-returns invariant_loop decreases_loop
unfolding link_of errored
returns c =
    let l = c.before in
    let w = l.before.before.before.put_link in
    let f = l.before.before.before.before.before.framing-framing in
    let d = l.before.before.before.before.before.before.before.before in
    let a = d.args in
    let s = a.s.now in
    let q = a.q in
    let v = l.loop-b.invariant in
    let all : 12 * l.loop-b.b + 12 ≡ 12 * a.n = omega arith in
    let p : 8 * (q / 8) + bit_and q 7 ≡ q + 4632 * 0 = omega (arith, place_in q) in
    let last : l.loop-b.b ≡ a.n - 1 = omega arith in
    let n : 12 + (12 * a.n - 12) ≡ 12 * a.n = omega arith in
    let link₀ = put_mid 0 12 a.link.now w.new.out in
    let e = f.ensures.0 ∙ ap (framing_of s) p in
    let first = link_rest s q 0 0 f.result a.link.now w.new.out refl (omega arith) e w.ensures 12 refl a.link.now refl in
    let rest = ap (λ m. drop m link₀) (sym n) ∙ sym (drop-drop (12 * a.n - 12) 12 link₀) ∙ ap (drop (12 * a.n - 12)) first
    ∙ drop-drop (12 * a.n - 12) 12 a.link.now ∙ ap (λ m. drop m a.link.now) n in (
      parts_kept (link_bit s q) (12 * a.n) (12 * l.loop-b.b + 12) l.loop-b.link link₀ all v.3.1 v.3.2
          ∙ ap (λ z. tab (12 * a.n) (link_bit s q) ++ z) rest,
      v.4 ∙ ap (λ b. count b (differs s q)) last,
    )

pub judge_spec : {M : Type 1} → statement M
judge_spec =
    tie.close
    (tie.spec invariant_loop decreases_loop
    framing_requires
    (omega arith)
    (omega arith)
    (omega arith)
    (λ c κs. part_length 0 12 c.before.before.before.before.args.link.now (omega arith))
    (omega arith)
    loop_holds
    (omega arith)
    (λ c. let d = c.before.before.before.before.before.before.before.before.before in omega (arith, d.requires.0.there, d.requires.0.countable))
    (λ c. let d = c.before.before.before.before.before.before.before.before.before in omega (arith, d.requires.0.there, d.requires.0.countable))
    framing_requires_2
    (omega arith)
    (omega arith)
    (omega arith)
    (omega arith)
    (omega arith)
    (omega arith)
    put_link_requires_2
    (omega arith)
    (λ c.
    let d = c.before.before.before.before.before.before.before.before.before.before.before.before.before.before in
    omega (arith, d.requires.0.there, d.requires.0.countable))
    check_at_requires
    (search rules)
    add_errored
    (omega arith)
    (omega arith)
    loop_again
    (omega arith)
    returns)
