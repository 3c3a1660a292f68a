-- `of` meets its contract: at the head of the loop the first 64 c - 8 bits of all rows are taken in.
use Prim.Native.Nat.{ℕ, ◌+◌, ◌-◌, ◌*◌, ◌/◌, ◌^◌, ◌≤◌, ◌<◌}
use mathlib.Core.Path.{◌≡◌, sym, ap, ap₂, ◌∙◌, subst}
use native.Mathlib.Omega.{arith}
use borrow.Author.Rules.{rules}
use lib.Bits.{bit_xor}
use lib.Dec.{lit≤}
use lib.Pow.{pow_mono, pow-add, high}
use Rattle.line.specs.Bit.{field}
use Rattle.line.proofs.BitLaws.{field_lt, field_add}
use Rattle.crc.specs.Remainder.{after}
use Rattle.crc.specs.Word.{remainder, wide_remainder}
use Rattle.crc.proofs.Digits.{digits}
use Rattle.crc.proofs.FoldLaws.{xors_ext}
use Rattle.crc.proofs.WordLaws.{remainder_sum}
use Rattle.t1.proofs.RawLaws.{row_sum, rows_begin, rows_on, rows_raw}
use Rattle.t1.proofs.raw.of.Statement.{statement}
use Rattle.t1.proofs.raw.of.Tie as tie

abbrev invariant_loop : tie.invariant-loop-c
invariant_loop octets first row₀ c₀ row c =
    (1 ≤ c) × (c ≤ 8) × (row.high < 2 ^ c) × (wide_remainder 6 row ≡ remainder 6 (64 * c - 8) (row_sum octets (64 * c - 8)))

abbrev decreases_loop : tie.decreases-loop-c
decreases_loop octets first row₀ c₀ row c = 8 - c

loop_holds : tie.Need-loop-c-init invariant_loop decreases_loop
loop_holds c =
    (omega arith, omega arith, omega arith, rows_begin c.before.before.args.octets.now c.windows-first.result c.windows-first.ensures)

loop_again : tie.Need-loop-c-preserved invariant_loop decreases_loop
loop_again c =
    let l = c.before.before.before in
    let s = l.before.before.before.args.octets.now in
    let k = l.loop-c.c in
    let n = 64 * k - 8 in
    let m : n + 64 ≡ 64 * (k + 1) - 8 = omega arith in
    let p : (r : ℕ) → 8 * (11 + 8 * k + 63 * r) ≡ 96 + 504 * r + n = λ r. omega arith in
    let more : 2 ^ (k + 1) ≡ 2 ^ k * 2 = pow-add 2 k 1 in
    let x = c.before.windows.result in
    let next = c.before.windows.ensures
    ∙ xors_ext 9 (λ r. field s (8 * (11 + 8 * k + 63 * r)) 64) (λ r. field s (96 + 504 * r + n) 64) (λ r. ap (λ q. field s q 64) (p r)) in (
      omega arith,
      omega arith,
      omega (arith, c.after_word-row.ensures.1),
      c.after_word-row.ensures.0 ∙ ap (λ r. after 6 r (digits 64 x)) l.loop-c.invariant.3 ∙ rows_on s n x next
          ∙ ap (λ j. remainder 6 j (row_sum s j)) m,
    )

returns : tie.Need-returns invariant_loop decreases_loop
returns c =
    let f = c.before in
    let r = f.before in
    let second = r.before.window-2 in
    let first = r.before.before.window in
    let l = r.before.before.before.before in
    let s = l.before.before.before.args.octets.now in
    let e : 64 * l.loop-c.c - 8 ≡ 504 = omega arith in
    let h : first.result / 2 ^ 32 ≡ field s 0 32
    = ap (λ x. x / 2 ^ 32) (first.ensures ∙ field_add s 0 32 32) ∙ high (field s 0 32) 32 (field_lt s 32 32) in
    let front : first.result / 2 ^ 32 * 2 ^ 64 + second.result ≡ field s 0 96
    = ap₂ (λ x y. x * 2 ^ 64 + y) h second.ensures ∙ sym (field_add s 0 32 64) in (
      c.reduced.ensures.0 ∙ remainder_sum 6 (lit≤ tt) 64 r.narrowed.result f.narrowed-2.result
          ∙ ap₂ bit_xor (r.narrowed.ensures ∙ l.loop-c.invariant.3 ∙ ap (λ j. remainder 6 j (row_sum s j)) e)
          (f.narrowed-2.ensures ∙ ap (remainder 6 128) front)
          ∙ rows_raw s,
      c.reduced.ensures.1,
    )

pub of_spec : {M : Type 1} → statement M
of_spec =
    tie.close
    (tie.spec invariant_loop decreases_loop
    (λ c κs. omega arith)
    loop_holds
    (omega arith)
    (omega arith)
    (λ c κs. omega arith)
    (λ c κs. let k = c.before.before.loop-c.c in omega (arith, pow_mono {i = k} {j = 8} (omega arith)))
    (omega arith)
    (omega arith)
    loop_again
    (λ c κs. omega arith)
    (λ c κs. omega arith)
    (λ c κs.
    let k = c.before.before.before.loop-c.c in omega (arith, pow_mono {i = k} {j = 8} (omega arith)))
    (λ c κs.
    let w = c.before.before.window in
    let s = c.before.before.before.before.before.before.before.args.octets.now in
    let h : w.result < 2 ^ 64 = subst (λ x. x < 2 ^ 64) (sym w.ensures) (field_lt s (8 * 0) 64) in omega arith)
    (search rules)
    returns)
