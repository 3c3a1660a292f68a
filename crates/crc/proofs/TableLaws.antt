-- The rule of the table, and what the octets stand for that are looked up.
use Prim.Native.Nat.{ℕ, ◌*◌, ◌/◌, ◌%◌, ◌<◌}
use mathlib.Core.Path.{◌≡◌, refl, sym, ap, ap₂, ◌∙◌}
use mathlib.Core.List.{List, []}
use native.Mathlib.Omega.{arith}
use borrow.Author.Tests.{eqb-true}
use lib.Dec.{eqb, lit≤}
use lib.ListN.{get_or}
use Rattle.base.specs.Tab.{tab, tab_from, all}
use Rattle.base.proofs.TabLaws.{get_d_tab, all_at}
use Rattle.line.specs.Bit.{octet_bits}
use Rattle.crc.specs.Remainder.{zeros, step, after}
use Rattle.crc.specs.Fold.{remainders}
use Rattle.crc.proofs.Laws.{after_append, after_lt}
use Rattle.crc.proofs.Digits.{digits, digits_bits, digits_add, digits_low}

-- each entry is the remainder after an octet
pub table_rule : (t : List (List ℕ)) (r o : ℕ) → t ≡ remainders → r < 16 → o < 256
    → get_or (get_or t r []) o 0 ≡ after 4 r (octet_bits o)
unfolding remainders
table_rule t r o e hr ho =
    ap (λ l. get_or (get_or l r []) o 0) e ∙ ap (λ l. get_or l o 0) (get_d_tab 16 (λ r. tab 256 (λ o. after 4 r (octet_bits o))) r [] hr)
    ∙ get_d_tab 256 (λ o. after 4 r (octet_bits o)) o 0 ho

pub octet_lt : (r o : ℕ) → r < 16 → after 4 r (octet_bits o) < 16
unfolding octet_bits
octet_lt r o h = after_lt 4 (lit≤ tt) r (digits 8 o) h (digits_bits 8 o)

-- 15 digits: seven behind a 0, and eight
pub two_octets : (n r : ℕ) → r ≡ after 4 0 (octet_bits (n / 256 % 128))
    → after 4 r (octet_bits (n % 256)) ≡ after 4 0 (digits 15 n)
unfolding octet_bits after step tab_from
two_octets n r e =
    let y : ℕ = n / 256 % 128 in
    let none : y / 128 ≡ 0 = omega arith in
    let front : r ≡ after 4 0 (digits 7 (n / 256))
    = e ∙ ap (after 4 0) (digits_add 1 7 y) ∙ ap (λ z. after 4 (step 4 0 (z / 1 % 2)) (digits 7 y)) none
    ∙ ap (after 4 0) (digits_low 7 y (n / 256) (let m : y % 128 ≡ n / 256 % 128 = omega arith in m)) in
    ap₂ (after 4) front (digits_low 8 (n % 256) n (let m : n % 256 % 256 ≡ n % 256 = omega arith in m))
    ∙ sym (ap (after 4 0) (digits_add 7 8 n) ∙ after_append 4 0 (digits 7 (n / 256)) (digits 8 n))

-- a remainder and four zeros behind it
pub four_zeros : (r : ℕ) → r < 16 → after 4 0 (octet_bits (16 * r)) ≡ after 4 r (zeros 4)
unfolding octet_bits after step tab_from all
four_zeros r h =
    eqb-true _ _ (all_at 16 (λ r. eqb (after 4 0 (octet_bits (16 * r))) (after 4 r (zeros 4))) refl r h)
