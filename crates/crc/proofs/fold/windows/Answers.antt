use Prim.Native.Nat.{ℕ, zero, suc, ◌+◌, ◌*◌}
use mathlib.Core.Path.{◌≡◌, refl, sym, ap, ap₂, ◌∙◌}
use mathlib.Core.List.{[], ◌∷◌, ◌++◌}
use native.Mathlib.Nat.{add-zero, zero-add}
use native.Mathlib.Omega.{arith}
use lib.Bits.{bit_xor}
use Rattle.std.proofs.Common.{rules, tests}
use Rattle.std.specs.List.{fold, range_with_len}
use Rattle.std.proofs.lemmas.Iterator.{YieldsList-from_range}
use Rattle.std.proofs.lemmas.Iterator.Consumers.{fold_from_yields_List}
use Rattle.std.proofs.lemmas.List.Sums.{fold-append}
use Rattle.line.specs.Bit.{field}
use Rattle.crc.specs.Fold.{xors}
use Rattle.crc.proofs.fold.windows.Goals as goal

range_more : (a n : ℕ) → range_with_len a (suc n) ≡ range_with_len a n ++ (a + n) ∷ []
range_more a zero = ap (λ x. x ∷ []) (sym (add-zero a))
range_more a (suc n) =
    ap (λ l. a ∷ l) (range_more (a + 1) n ∙ ap (λ x. range_with_len (a + 1) n ++ x ∷ []) (omega arith))

abbrev adding : (ℕ → ℕ) → ℕ → ℕ → ℕ
adding f x k = bit_xor x (f k)

added : (f : ℕ → ℕ) (n : ℕ) → fold (adding f) 0 (range_with_len 0 n) ≡ xors n f
unfolding xors
added f zero = refl
added f (suc n) =
    ap (fold (adding f) 0) (range_more 0 n) ∙ fold-append (adding f) 0 (range_with_len 0 n) ((0 + n) ∷ [])
    ∙ ap₂ (adding f) (added f n) (zero-add n)

pub returns : goal.returns
returns c =
    let a = c.args in
    let f : ℕ → ℕ = λ k. field a.s.now (8 * (a.i + a.d * k)) 64 in
    fold_from_yields_List _ (adding f) 0 _ c.fold.ensures.ran (YieldsList-from_range 0 a.n a.n refl (omega arith))
    (λ x k y q r. search (rules, tests))
    ∙ added f a.n
