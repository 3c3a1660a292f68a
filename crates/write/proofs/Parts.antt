-- Blocks that are written frame after frame, and multiframes block after block.
use Prim.Native.Nat.{ℕ, zero, suc, ◌+◌, ◌-◌, ◌*◌, ◌/◌, ◌%◌, ◌≤◌, ◌<◌}
use mathlib.Core.Path.{◌≡◌, refl, sym, ap, ap₂, ◌∙◌}
use mathlib.Core.Bool.{false, cond}
use mathlib.Core.List.{List, [], ◌∷◌, ◌++◌, append-nil}
use native.Mathlib.Decide.{dec_lt}
use native.Mathlib.Omega.{arith}
use borrow.Author.Tests.{ne_eqb}
use borrow.Rule.Slice.PartMut.{put_mid, drop_put}
use lib.Dec.{eqb}
use lib.ListN.{length, get_or, take, drop, length-drop, drop_of_length-le, take-append-drop, get_or-eq_default}
use lib.Seq.{get_or-take, get_or-drop, drop-drop, take_at, drop_at}
use Rattle.std.specs.List.{between}
use Rattle.base.specs.Tab.{tab}
use Rattle.base.proofs.TabLaws.{tab_of, tab_fill}
use Rattle.base.proofs.PartLaws.{part_more, part_length, take_put_more}
use Rattle.e1.specs.Block.{block_check}
use Rattle.e1.specs.Payload.{index_of}
use Rattle.write.specs.Writing.{slot0, octet_in, block, carries, written}
use Rattle.write.specs.Inputs.{Inputs}
use Rattle.write.proofs.Laws.{limit_range, length_block, length_written}
use Rattle.write.proofs.Joins.{same_carries, same_written, later_carries, later_written}

-- octet i of block b
abbrev pub block_octet : List ℕ → List ℕ → ℕ → ℕ → ℕ → ℕ
block_octet p o k b i = octet_in p o k (8 * b + i / 32) (i % 32)

module _ (p o : List ℕ) (k b : ℕ) where
  -- slot j of frame i, which the payload's part stands behind
  slot_octet : (i j : ℕ) → j < 32 → 31 * (8 * b + i) + 31 ≤ length p
      → get_or (slot0 k (8 * b + i) (get_or o ((8 * b + i) / 2) 0) ∷ between (31 * (8 * b + i)) (31 * (8 * b + i) + 31) p) j 0
      ≡ octet_in p o k (8 * b + i) j
  slot_octet i zero h hp = refl
  slot_octet i (suc j) h hp =
      let f = 8 * b + i in
      let g = 31 * f in
      let z : eqb (suc j) 0 ≡ false = ne_eqb (suc j) 0 (λ e. omega arith) in
      let e : g + j ≡ index_of f (suc j) = omega arith in
      get_or-take (g + 31 - g) (drop g p) j 0 (omega arith) ∙ get_or-drop g p j 0 ∙ ap (λ x. get_or p x 0) e
      ∙ sym (ap (λ t. cond t (slot0 k f (get_or o (f / 2) 0)) (get_or p (index_of f (suc j)) 0)) z)

  pub frame_more : (i x : ℕ) (xs ys : List ℕ) → 32 * i + 32 ≤ length xs → 31 * (8 * b + i) + 31 ≤ length p
      → x ≡ slot0 k (8 * b + i) (get_or o ((8 * b + i) / 2) 0)
      → ys ≡ x ∷ between (31 * (8 * b + i)) (31 * (8 * b + i) + 31) p
      → take (32 * i) xs ≡ tab (32 * i) (block_octet p o k b)
      → take (32 * (i + 1)) (put_mid (32 * i) (32 * i + 32 - 32 * i) xs ys) ≡ tab (32 * (i + 1)) (block_octet p o k b)
  frame_more i x xs ys hx hp ex ey q =
      let f = 8 * b + i in
      let g = 31 * f in
      let a = 32 * i in
      let e = 32 * i + 32 in
      let t = block_octet p o k b in
      let n : 32 * (i + 1) ≡ e = omega arith in
      let l : length (x ∷ between g (g + 31) p) ≡ e - a = ap suc (part_length g (g + 31) p hp) ∙ omega arith in
      let y : ys ≡ tab (e - a) (λ j. t (a + j)) =
      ey
      ∙ sym (tab_of (e - a) (λ j. t (a + j)) (x ∷ between g (g + 31) p) l
      (λ j hj.
      let e₁ : (32 * i + j) / 32 ≡ i = omega arith in
      let e₂ : (32 * i + j) % 32 ≡ j = omega arith in
      ap₂ (λ u v. octet_in p o k (8 * b + u) v) e₁ e₂ ∙ sym (slot_octet i j (omega arith) hp)
      ∙ ap (λ x. get_or (x ∷ between g (g + 31) p) j 0) (sym ex))) in
      ap (λ m. take m (put_mid a (e - a) xs ys)) n ∙ part_more t a e xs ys (omega arith) hx y q ∙ ap (λ m. tab m t) (sym n)

  pub block_done : (i : ℕ) (xs : List ℕ) → i ≡ 8 → length xs ≡ 256
      → take (32 * i) xs ≡ tab (32 * i) (block_octet p o k b) → xs ≡ block p o k b
  unfolding block
  block_done i xs e l q =
      let n : 32 * i ≡ 256 = omega arith in
      tab_fill xs 256 (block_octet p o k b) (omega arith) (rw n at q)

-- two parts of one length, one behind the other
pub two_parts : (n : ℕ) (xs y z : List ℕ) → length xs ≡ n + n → length y ≡ n → put_mid n n (put_mid 0 n xs y) z ≡ y ++ z
two_parts n xs y z lx ly =
    let r = drop n (drop 0 xs) in
    let e : drop n (drop n (y ++ r)) ≡ [] = ap (drop n) (drop_at y r n ly) ∙ drop_of_length-le r {i = n} (omega (arith, length-drop n (drop 0 xs))) in
    ap₂ (λ u v. u ++ (z ++ v)) (take_at y r n ly) e ∙ ap (λ v. y ++ v) (append-nil z)

-- the two blocks of a multiframe
pub multiframe_done : (p o : List ℕ) (k : ℕ) (xs y z : List ℕ) (c d : ℕ) → length xs ≡ 512
    → y ≡ block p o k 0 → c ≡ block_check y 0 → z ≡ block p o c 1 → d ≡ block_check z 0
    → (put_mid 256 256 (put_mid 0 256 xs y) z ≡ written p o k 2) × (d ≡ carries p o k 2)
unfolding written carries
multiframe_done p o k xs y z c d lx ey ec ez ed =
    let ec' : c ≡ carries p o k 1 = ec ∙ ap (λ l. block_check l 0) ey in
    let ez' : z ≡ block p o (carries p o k 1) 1 = ez ∙ ap (λ x. block p o x 1) ec' in (
      two_parts 256 xs y z lx (ap length ey ∙ length_block p o k 0) ∙ ap₂ (λ u v. u ++ v) ey ez',
      ed ∙ ap (λ l. block_check l 0) ez',
    )

-- multiframe m's part of the payload and of the overhead
abbrev pub payload_part : ℕ → List ℕ → List ℕ
payload_part m p = between (496 * m) (496 * m + 496) p

abbrev pub overhead_part : ℕ → List ℕ → List ℕ
overhead_part m o = between (8 * m) (8 * m + 8) o

pub part_inputs : (p o : List ℕ) (c n m k : ℕ) → Inputs p o c n → m < n → k < 16
    → Inputs (payload_part m p) (overhead_part m o) k 1
part_inputs p o c n m k g h hk =
    record {
      payload_length = part_length (496 * m) (496 * m + 496) p (omega arith) ∙ omega arith;
      overhead_length = part_length (8 * m) (8 * m + 8) o (omega arith) ∙ omega arith;
      limited = λ i.
          elim (dec_lt i 8) [
            | yes l ↦
                let e : (8 * m + i) % 8 ≡ i % 8 = omega arith in
                rw (get_or-take (8 * m + 8 - 8 * m) (drop (8 * m) o) i 0 (omega arith), get_or-drop (8 * m) o i 0, ← e)
                (g.limited (8 * m + i))
            | no l ↦
                let short = part_length (8 * m) (8 * m + 8) o (omega arith) in
                rw (get_or-eq_default (overhead_part m o) 0 {n = i} (omega arith)) (limit_range i).0
          ];
      four_bits = hk;
    }

module _ (p o : List ℕ) (c m : ℕ) where
  shown : ((i : ℕ) → i < 248 * 2 → get_or (payload_part m p) i 0 ≡ get_or (drop (496 * m) p) i 0)
      × ((h : ℕ) → h < 4 * 2 → get_or (overhead_part m o) h 0 ≡ get_or (drop (8 * m) o) h 0)
  shown = (
    λ i l. get_or-take (496 * m + 496 - 496 * m) (drop (496 * m) p) i 0 (omega arith),
    λ h l. get_or-take (8 * m + 8 - 8 * m) (drop (8 * m) o) h 0 (omega arith),
  )

  two : 2 * m + 2 ≡ 2 * (m + 1)
  two = omega arith

  next_carries : carries (payload_part m p) (overhead_part m o) (carries p o c (2 * m)) 2 ≡ carries p o c (2 * (m + 1))
  next_carries =
      same_carries (payload_part m p) (drop (496 * m) p) (overhead_part m o) (drop (8 * m) o)
      (carries p o c (2 * m)) 2 shown
      ∙ sym (later_carries p o m c 2) ∙ ap (carries p o c) two

  next_written : written p o c (2 * m) ++ written (payload_part m p) (overhead_part m o) (carries p o c (2 * m)) 2 ≡ written p o c (2 * (m + 1))
  next_written =
      ap (λ l. written p o c (2 * m) ++ l)
      (same_written (payload_part m p) (drop (496 * m) p) (overhead_part m o) (drop (8 * m) o) (carries p o c (2 * m)) 2 shown)
      ∙ sym (later_written p o m c 2) ∙ ap (written p o c) two

  -- one multiframe more, of output xs₀
  pub all_more : (k d : ℕ) (xs ys xs₀ : List ℕ) → 512 * m + 512 ≤ length xs → k ≡ carries p o c (2 * m)
      → ys ≡ written (payload_part m p) (overhead_part m o) k 2 → d ≡ carries (payload_part m p) (overhead_part m o) k 2
      → take (512 * m) xs ≡ written p o c (2 * m) → drop (512 * m) xs ≡ drop (512 * m) xs₀
      → (d ≡ carries p o c (2 * (m + 1)))
      × (take (512 * (m + 1)) (put_mid (512 * m) (512 * m + 512 - 512 * m) xs ys) ≡ written p o c (2 * (m + 1)))
      × (drop (512 * (m + 1)) (put_mid (512 * m) (512 * m + 512 - 512 * m) xs ys) ≡ drop (512 * (m + 1)) xs₀)
  all_more k d xs ys xs₀ hx ek ey ed q r =
      let n : 512 * (m + 1) ≡ 512 * m + 512 = omega arith in
      let l : length ys ≡ 512 * m + 512 - 512 * m = ap length ey ∙ length_written (payload_part m p) (overhead_part m o) k 2 ∙ omega arith in
      let z = put_mid (512 * m) (512 * m + 512 - 512 * m) xs ys in (
        ed ∙ ap (λ x. carries (payload_part m p) (overhead_part m o) x 2) ek ∙ next_carries,
        ap (λ x. take x z) n
            ∙ take_put_more (512 * m) (512 * m + 512) xs ys (written p o c (2 * m)) (omega arith) hx l q
            ∙ ap (λ x. written p o c (2 * m) ++ x) (ey ∙ ap (λ x. written (payload_part m p) (overhead_part m o) x 2) ek) ∙ next_written,
        ap (λ x. drop x z) n ∙ drop_put (512 * m) (512 * m + 512) xs ys (omega arith) hx l
            ∙ sym (drop-drop 512 (512 * m) xs) ∙ ap (drop 512) r ∙ drop-drop 512 (512 * m) xs₀ ∙ ap (λ x. drop x xs₀) (sym n),
      )

  pub all_done : (n k : ℕ) (xs xs₀ : List ℕ) → m ≡ n → k ≡ carries p o c (2 * m)
      → take (512 * m) xs ≡ written p o c (2 * m) → drop (512 * m) xs ≡ drop (512 * m) xs₀
      → (xs ≡ written p o c (2 * n) ++ drop (512 * n) xs₀) × (k ≡ carries p o c (2 * n))
  all_done n k xs xs₀ e ek q r = (
    sym (take-append-drop (512 * m) xs) ∙ ap₂ (λ u v. u ++ v) (q ∙ ap (λ m. written p o c (2 * m)) e) (r ∙ ap (λ m. drop (512 * m) xs₀) e),
    ek ∙ ap (λ m. carries p o c (2 * m)) e,
  )
