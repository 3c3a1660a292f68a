-- An octet that is no digit ends the word, and each digit goes on with it.
use Rattle.std.proofs.Common.{◌≡◌, ℕ, ◌+◌, ◌*◌, ◌-◌, ◌^◌, ◌<◌, ◌≤◌, min, true, false, List, length, get_or, drop, add-one, sym, ap, ◌∙◌, arith, drop-cons, le-ltb}
use Rattle.std.proofs.lemmas.List.{drop_all}
use Rattle.std.specs.Prelude.{None}
use Rattle.std.specs.Char.{is_ascii_digit}
use Rattle.program.specs.Text.{no_digit, decimal}
use Rattle.program.proofs.text.number.Goals as goal

digit : (x : ℕ) → (48 ≤ x) × (x ≤ 57) → no_digit x ≡ false
digit x h = rw (le-ltb x 48 h.0, le-ltb 57 x h.1)

other : (x : ℕ) → is_ascii_digit x ≡ false → no_digit x ≡ true
other x e = grind arith

-- what the octet at i does
module _ (s : List ℕ) (v i : ℕ) (h : i < length s) (e : decimal 0 s ≡ decimal v (drop i s)) where
  ends : no_digit (get_or s i 0) ≡ true → None ≡ decimal 0 s
  unfolding decimal
  ends t = sym (e ∙ rw (drop-cons s i 0 h, t))

  goes_on : no_digit (get_or s i 0) ≡ false
      → decimal 0 s ≡ decimal (min (10 * v + (get_or s i 0 - 48)) (2 ^ 64 - 1)) (drop (i + 1) s)
  unfolding decimal
  goes_on t = e ∙ rw (drop-cons s i 0 h, add-one i, t)

pub returns-then-not-is_ascii_digit : goal.returns-then-not-is_ascii_digit
returns-then-not-is_ascii_digit c =
    let l = c.loop-x in
    ends _ l.v l.x-index (omega arith) l.invariant
    (other (get_or c.args.s.now l.x-index 0) (sym c.is_ascii_digit.ensures.value ∙ c.if-not-is_ascii_digit.true))

pub loop-x-preserved : goal.loop-x-preserved
loop-x-preserved c =
    let l = c.loop-x in
    let s = c.args.s.now in
    goes_on s l.v l.x-index (omega arith) l.invariant (digit _ c.if-not-is_ascii_digit.ensures.cases)
    ∙ ap (λ w. decimal w (drop (l.x-index + 1) s)) (omega arith)

pub returns : goal.returns
unfolding decimal
returns c = sym (c.loop-x.invariant ∙ ap (decimal c.loop-x.v) (drop_all c.loop-x.x-index _ (omega arith)))
