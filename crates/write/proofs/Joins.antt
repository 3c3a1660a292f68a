-- Two calls in a row make one line: what is written of n multiframes, and of m more with the check handed on, is what
-- is written of all.
use Prim.Native.Nat.{ℕ, zero, suc, ◌+◌, ◌*◌, ◌/◌, ◌%◌, ◌<◌}
use mathlib.Core.Path.{◌≡◌, refl, sym, ap, ap₂, ◌∙◌}
use mathlib.Core.Bool.{cond}
use mathlib.Core.List.{List, ◌++◌, append_assoc, append-nil}
use native.Mathlib.Nat.{add-zero, add-suc}
use native.Mathlib.Omega.{arith}
use lib.Dec.{eqb}
use lib.ListN.{length, get_or, drop, get_or-append}
use lib.Seq.{get_or-drop, drop_at}
use Rattle.base.proofs.TabLaws.{tab_agree}
use Rattle.e1.specs.Block.{block_check}
use Rattle.e1.specs.Payload.{index_of}
use Rattle.write.specs.Writing.{slot0, octet_in, block, carries, written}

-- what is written of b blocks is of the first 248b octets of the payload and the first 4b of the overhead
module _ (p p' o o' : List ℕ) (c : ℕ) where
  abbrev Same : ℕ → Type 0
  Same b = ((i : ℕ) → i < 248 * b → get_or p i 0 ≡ get_or p' i 0) × ((h : ℕ) → h < 4 * b → get_or o h 0 ≡ get_or o' h 0)

  same_block : (k n b : ℕ) → b < n → Same n → block p o k b ≡ block p' o' k b
  unfolding block
  same_block k n b h s =
      tab_agree 256 _ _
      (λ i l.
      let f = 8 * b + i / 32 in
      let j = i % 32 in
      ap₂ (λ x y. cond (eqb j 0) (slot0 k f x) y) (s.1 (f / 2) (omega arith)) (s.0 (index_of f j) (omega arith)))

  fewer : (b : ℕ) → Same (suc b) → Same b
  fewer b s = (λ i l. s.0 i (omega arith), λ h l. s.1 h (omega arith))

  pub same_carries : (b : ℕ) → Same b → carries p o c b ≡ carries p' o' c b
  unfolding carries
  same_carries zero s = refl
  same_carries (suc b) s =
      ap (λ l. block_check l 0) (ap (λ k. block p o k b) (same_carries b (fewer b s)) ∙ same_block (carries p' o' c b) (suc b) b (omega arith) s)

  pub same_written : (b : ℕ) → Same b → written p o c b ≡ written p' o' c b
  unfolding written
  same_written zero s = refl
  same_written (suc b) s =
      ap₂ (λ x y. x ++ y) (same_written b (fewer b s))
      (ap (λ k. block p o k b) (same_carries b (fewer b s)) ∙ same_block (carries p' o' c b) (suc b) b (omega arith) s)

-- from multiframe n on
module _ (p o : List ℕ) (n : ℕ) where
  abbrev later_payload : List ℕ
  later_payload = drop (496 * n) p

  abbrev later_overhead : List ℕ
  later_overhead = drop (8 * n) o

  later_slot0 : (k f x : ℕ) → slot0 k (16 * n + f) x ≡ slot0 k f x
  unfolding slot0
  later_slot0 k f x =
      let e₁ : (16 * n + f) % 2 ≡ f % 2 = omega arith in
      let e : (16 * n + f) / 2 ≡ 8 * n + f / 2 = omega arith in
      let e₂ : (8 * n + f / 2) % 4 ≡ f / 2 % 4 = mod4 (f / 2) in
      let e₃ : (8 * n + f / 2) % 8 ≡ f / 2 % 8 = mod8 (f / 2) in
      rw (e₁, e, e₂, e₃)
    where
      mod4 : (y : ℕ) → (8 * n + y) % 4 ≡ y % 4
      mod4 y = omega arith

      mod8 : (y : ℕ) → (8 * n + y) % 8 ≡ y % 8
      mod8 y = omega arith

  later_octet : (k f j : ℕ) → octet_in p o k (16 * n + f) j ≡ octet_in later_payload later_overhead k f j
  later_octet k f j =
      let e : (16 * n + f) / 2 ≡ 8 * n + f / 2 = omega arith in
      let e' : index_of (16 * n + f) j ≡ 496 * n + index_of f j = omega arith in
      ap₂ (cond (eqb j 0))
      (later_slot0 k f (get_or o ((16 * n + f) / 2) 0) ∙ ap (slot0 k f) (ap (λ h. get_or o h 0) e ∙ sym (get_or-drop (8 * n) o (f / 2) 0)))
      (ap (λ i. get_or p i 0) e' ∙ sym (get_or-drop (496 * n) p (index_of f j) 0))

  later_block : (k b : ℕ) → block p o k (2 * n + b) ≡ block later_payload later_overhead k b
  unfolding block
  later_block k b =
      tab_agree 256 _ _
      (λ i l.
      let e : 8 * (2 * n + b) + i / 32 ≡ 16 * n + (8 * b + i / 32) = omega arith in
      ap (λ f. octet_in p o k f (i % 32)) e ∙ later_octet k (8 * b + i / 32) (i % 32))

  module _ (c : ℕ) where
    pub later_carries : (b : ℕ)
        → carries p o c (2 * n + b) ≡ carries later_payload later_overhead (carries p o c (2 * n)) b
    unfolding carries
    later_carries zero = ap (carries p o c) (add-zero (2 * n))
    later_carries (suc b) =
        let k' = carries later_payload later_overhead (carries p o c (2 * n)) b in
        ap (carries p o c) (add-suc (2 * n) b)
        ∙ ap (λ l. block_check l 0) (ap (λ k. block p o k (2 * n + b)) (later_carries b) ∙ later_block k' b)

    pub later_written : (b : ℕ)
        → written p o c (2 * n + b) ≡ written p o c (2 * n) ++ written later_payload later_overhead (carries p o c (2 * n)) b
    unfolding written
    later_written zero = ap (written p o c) (add-zero (2 * n)) ∙ sym (append-nil (written p o c (2 * n)))
    later_written (suc b) =
        let k = carries p o c (2 * n) in
        let k' = carries later_payload later_overhead k b in
        ap (written p o c) (add-suc (2 * n) b)
        ∙ ap₂ (λ x y. x ++ y) (later_written b) (ap (λ x. block p o x (2 * n + b)) (later_carries b) ∙ later_block k' b)
        ∙ append_assoc (written p o c (2 * n)) (written later_payload later_overhead k b)
        (block later_payload later_overhead k' b)

-- n multiframes, and then m
module _ (p p' o o' : List ℕ) (c n m : ℕ) (hp : length p ≡ 496 * n) (ho : length o ≡ 8 * n) where
  first : ((i : ℕ) → i < 248 * (2 * n) → get_or (p ++ p') i 0 ≡ get_or p i 0) × ((h : ℕ) → h < 4 * (2 * n) → get_or (o ++ o') h 0 ≡ get_or o h 0)
  first = (λ i l. get_or-append p p' 0 i (omega arith), λ h l. get_or-append o o' 0 h (omega arith))

  all : 2 * (n + m) ≡ 2 * n + 2 * m
  all = omega arith

  handed_on : carries (p ++ p') (o ++ o') c (2 * n) ≡ carries p o c (2 * n)
  handed_on = same_carries (p ++ p') p (o ++ o') o c (2 * n) first

  pub carries_join : carries (p ++ p') (o ++ o') c (2 * (n + m)) ≡ carries p' o' (carries p o c (2 * n)) (2 * m)
  carries_join =
      ap (carries (p ++ p') (o ++ o') c) all ∙ later_carries (p ++ p') (o ++ o') n c (2 * m)
      ∙ ap₂ (λ x y. carries x y (carries (p ++ p') (o ++ o') c (2 * n)) (2 * m)) (drop_at p p' (496 * n) hp)
      (drop_at o o' (8 * n) ho)
      ∙ ap (λ k. carries p' o' k (2 * m)) handed_on

  pub written_join : written (p ++ p') (o ++ o') c (2 * (n + m)) ≡ written p o c (2 * n) ++ written p' o' (carries p o c (2 * n)) (2 * m)
  written_join =
      ap (written (p ++ p') (o ++ o') c) all ∙ later_written (p ++ p') (o ++ o') n c (2 * m)
      ∙ ap₂ (λ x y. x ++ y) (same_written (p ++ p') p (o ++ o') o c (2 * n) first)
      (ap₂ (λ x y. written x y (carries (p ++ p') (o ++ o') c (2 * n)) (2 * m)) (drop_at p p' (496 * n) hp) (drop_at o o' (8 * n) ho)
      ∙ ap (λ k. written p' o' k (2 * m)) handed_on)
