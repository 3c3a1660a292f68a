-- `signals` meets its contract: the two halves of the signal are all of it.
use Prim.Native.Nat.{ℕ, zero, suc, ◌+◌, ◌-◌, ◌*◌, ◌/◌, ◌%◌, ◌<◌}
use mathlib.Core.Path.{◌≡◌}
use mathlib.Core.List.{List}
use mathlib.Core.Logic.{◌↔◌}
use native.Mathlib.Omega.{arith}
use borrow.Author.Rules.{rules}
use lib.Bits.{bit_and}
use lib.Dec.{lit<}
use lib.ListN.{length-take, length-drop}
use Rattle.line.proofs.WindowLaws.{zero_none}
use Rattle.t1sliced.specs.Sliced.{Exactly}
use Rattle.t1align.specs.Stands.{Framed}
use Rattle.t1align.specs.Window.{HalfFramed, BothHalfFramed, BothFramed}
use Rattle.t1align.proofs.Parts.{octets_at, half_of_octets}
use Rattle.t1align.proofs.Sets.{HasBit, both_exactly, none_exactly, as_exactly}
use Rattle.t1align.proofs.signals.Statement.{statement}
use Rattle.t1align.proofs.signals.Tie as tie

module _ (s : List ℕ) where
  -- bit i of the signal is bit i / 2 of one half
  two_halves : (q : ℕ) → HalfFramed 0 s q × HalfFramed 1 s q ↔ Framed s q
  two_halves q = (there, λ h. (λ k l. h (2 * k + 0) (omega arith), λ k l. h (2 * k + 1) (omega arith)))
    where
      half_of : HalfFramed 0 s q × HalfFramed 1 s q → (e : ℕ) → e < 2 → HalfFramed e s q
      half_of h zero l = h.0
      half_of h (suc zero) l = h.1
      half_of h (suc (suc e)) l = absurd (omega arith)

      there : HalfFramed 0 s q × HalfFramed 1 s q → Framed s q
      there h i l =
          let e : 2 * (i / 2) + i % 2 ≡ i = omega arith in
          let bit : HasBit (i % 2) s (i / 2) q = half_of h (i % 2) (omega arith) (i / 2) (omega arith) in
          rw e at bit

  -- so what both tests say
  two_tests : (o : ℕ) → (BothHalfFramed 0 s o × HalfFramed 1 s o) × HalfFramed 1 s (o + 4632) ↔ BothFramed s o
  two_tests o =
      let first = two_halves o in
      let second = two_halves (o + 4632) in (
        λ h. (first.0 (h.0.0.0, h.0.1), second.0 (h.0.0.1, h.1)),
        λ h. ((((first.1 h.0).0, (second.1 h.1).0), (first.1 h.0).1), (second.1 h.1).1),
      )

  -- a superframe of the part by itself
  sevens_of_part : (i : ℕ) (q : ℕ → ℕ) → ((o : ℕ) → q o ≡ 8 * i + o) → (x : ℕ) → Exactly (HalfFramed 1 (octets_at s i 579)) x
      → Exactly (λ o. HalfFramed 1 s (q o)) x
  sevens_of_part i q e = as_exactly _ _ (λ o l. half_of_octets s i 579 o (q o) (e o) (omega arith) 1 (lit< tt))

-- what the first test says
most : (c : tie.After-sevens)
    → (let three = c.before.before in
    let s = three.before.before.args.part.now in
    Exactly (λ o. BothHalfFramed 0 s o × HalfFramed 1 s o) (bit_and three.threes.result c.sevens.result))
most c =
    let three = c.before.before in
    both_exactly _ _ _ _ three.threes.ensures
    (sevens_of_part three.before.before.args.part.now 0 (λ o. o) (λ o. omega arith) _ c.sevens.ensures)

returns : tie.Need-returns-then-most-eq0
returns c o l =
    let three = c.before.before.before in
    let s = three.before.before.args.part.now in (
      λ e. absurd (zero_none (63 - o) e),
      λ h. absurd (none_exactly _ _ c.if-most-eq0.true (most c.before) o l ((two_tests s o).1 h).0),
    )

returns_2 : tie.Need-returns
returns_2 c =
    let m = c.before.before.before in
    let s = m.before.before.before.before.args.part.now in
    as_exactly _ _ (λ o l. two_tests s o) _
    (both_exactly _ _ _ _ (most m) (sevens_of_part s 579 (λ o. o + 4632) (λ o. omega arith) _ c.sevens-2.ensures))

pub signals_spec : {M : Type 1} → statement M
signals_spec =
    tie.close
    (tie.spec
    (search rules)
    (search rules)
    (search rules)
    (search rules)
    (λ c κs. simp (length-take, length-drop) (omega arith))
    returns
    (search rules)
    (search rules)
    (search rules)
    (λ c κs. simp (length-take, length-drop) (omega arith))
    returns_2)
