-- The data link of a superframe, from its framing bits, and whether it agrees.
use Prim.Native.Nat.{ℕ, ◌+◌, ◌-◌, ◌*◌, ◌≤◌, ◌<◌}
use mathlib.Core.Path.{◌≡◌, sym, ap, ap₂, ◌∙◌}
use mathlib.Core.List.{List}
use native.Mathlib.Omega.{arith}
use borrow.Rule.Slice.PartMut.{put_mid}
use lib.Dec.{eqb}
use lib.ListN.{length, take, drop}
use Rattle.base.specs.Tab.{tab}
use Rattle.base.proofs.TabLaws.{tab_agree}
use Rattle.base.proofs.PartLaws.{part_more, part_rest}
use Rattle.line.specs.Bit.{bit_at}
use Rattle.line.specs.Spelt.{digit}
use Rattle.line.proofs.BitLaws.{bit_lt}
use Rattle.line.proofs.SpeltLaws.{digit_spelt}
use Rattle.t1.specs.Superframe.{super_check, carried, agrees}
use Rattle.t1.specs.Raw.{framing_of}
use Rattle.t1read.specs.Reading.{link_bit}

-- the data link of superframe b is put at octet a of the output
module _ (s : List ℕ) (q b a framing : ℕ) (xs ys : List ℕ) (here : a ≡ 12 * b) (fits : a + 12 ≤ length xs)
    (e : framing ≡ framing_of s (q + 4632 * b)) (y : ys ≡ tab 12 (λ k. digit 24 framing (2 * k))) where
  at_link_bit : (k : ℕ) → k < 12 → digit 24 framing (2 * k) ≡ link_bit s q (a + k)
  unfolding framing_of
  at_link_bit k h =
      let p : q + 4632 * b + 193 * (2 * k) ≡ q + 193 * (2 * (a + k)) = omega arith in
      ap (λ x. digit 24 x (2 * k)) e
      ∙ digit_spelt 24 (2 * k) (λ f. bit_at s (q + 4632 * b + 193 * f)) (λ f. bit_lt s (q + 4632 * b + 193 * f)) (omega arith)
      ∙ ap (bit_at s) p

  link_part_lem : ys ≡ tab (a + 12 - a) (λ k. link_bit s q (a + k))
  link_part_lem =
      let n : 12 ≡ a + 12 - a = omega arith in
      y ∙ tab_agree 12 (λ k. digit 24 framing (2 * k)) (λ k. link_bit s q (a + k)) at_link_bit
      ∙ ap (λ m. tab m (λ k. link_bit s q (a + k))) n

  abbrev put : List ℕ
  put = put_mid a (a + 12 - a) xs ys

  pub link_more : (m : ℕ) → m ≡ a + 12 → take a xs ≡ tab a (link_bit s q) → take m put ≡ tab m (link_bit s q)
  link_more m n t =
      ap (λ k. take k put) n ∙ part_more (link_bit s q) a (a + 12) xs ys (omega arith) fits link_part_lem t
      ∙ ap (λ k. tab k (link_bit s q)) (sym n)

  pub link_rest : (m : ℕ) → m ≡ a + 12 → (xs₀ : List ℕ) → drop a xs ≡ drop a xs₀ → drop m put ≡ drop m xs₀
  link_rest m n xs₀ t =
      ap (λ k. drop k put) n ∙ part_rest (link_bit s q) a (a + 12) xs ys (omega arith) fits link_part_lem xs₀ t
      ∙ ap (λ k. drop k xs₀) (sym n)

-- it agrees where its check is the one that is carried
pub judged : (s : List ℕ) (q x y : ℕ) → x ≡ super_check s q → y ≡ carried s (q + 4632) → eqb x y ≡ agrees s q
unfolding agrees
judged s q x y ex ey = ap₂ eqb ex ey
