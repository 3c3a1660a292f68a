-- Each frame's and each multiframe's part of a payload with slot 16 replaced, and each multiframe's of the signalling.
use Rattle.std.specs.Prelude.{if◌then◌else◌}
use Prim.Native.Nat.{ℕ, ◌+◌, ◌-◌, ◌*◌, ◌/◌, ◌%◌, ◌≤◌, ◌<◌}
use mathlib.Core.Path.{◌≡◌, refl, sym, ap, ap₂, ◌∙◌}
use mathlib.Core.Bool.{Bool, true, false}
use mathlib.Core.List.{List}
use native.Mathlib.Omega.{arith}
use borrow.Author.Tests.{eqb-true, eqb-false}
use lib.Dec.{eqb}
use lib.ListN.{length, get_or, drop, set, length-set}
use lib.Seq.{ext_get_or, get_or-take, get_or-drop, get_or-set_same, get_or-set_other}
use Rattle.base.proofs.PartLaws.{part_length}
use Rattle.e1.specs.Payload.{index_of, frame_of, slot_of}
use Rattle.std.specs.List.{between}
use Rattle.signalled.specs.Slot16.{abcd_of, signalling_frame, slot16, with_slot16}
use Rattle.signalled.proofs.Laws.{with_length, with_at, with_slot16_lem, with_other}

-- multiframe m's part of XY and of ABCD
abbrev pub xy_part : ℕ → List ℕ → List ℕ
xy_part m xy = between m (m + 1) xy

abbrev pub abcd_part : ℕ → List ℕ → List ℕ
abcd_part m v = between (30 * m) (30 * m + 30) v

module _ (xy v : List ℕ) (m : ℕ) where
  part_xy : get_or xy m 0 ≡ get_or (xy_part m xy) 0 0
  part_xy =
      let z : m + 0 ≡ m = omega arith in
      sym (get_or-take (m + 1 - m) (drop m xy) 0 0 (omega arith) ∙ get_or-drop m xy 0 0 ∙ ap (λ i. get_or xy i 0) z)

  part_abcd : (c : ℕ) → c ≤ 30 → abcd_of v m c ≡ abcd_of (abcd_part m v) 0 c
  part_abcd c h =
      let z : 30 * 0 + (c - 1) ≡ c - 1 = omega arith in
      sym (ap (λ i. get_or (abcd_part m v) i 0) z
      ∙ get_or-take (30 * m + 30 - 30 * m) (drop (30 * m) v) (c - 1) 0 (omega arith) ∙ get_or-drop (30 * m) v (c - 1) 0)

  part_slot16 : (f : ℕ) → f < 16 → slot16 xy v (16 * m + f) ≡ slot16 (xy_part m xy) (abcd_part m v) f
  unfolding slot16
  part_slot16 f h =
      let e₁ : (16 * m + f) / 16 ≡ m = omega arith in
      let e₂ : (16 * m + f) % 16 ≡ f = omega arith in
      let e₃ : f / 16 ≡ 0 = omega arith in
      let e₄ : f % 16 ≡ f = omega arith in
      ap₂ (signalling_frame xy v) e₁ e₂
      ∙ ap₂ (λ x y. if eqb f 0 then x else y) part_xy
      (ap₂ (λ a b. 16 * a + b) (part_abcd _ (omega arith)) (part_abcd _ (omega arith)))
      ∙ sym (ap₂ (signalling_frame (xy_part m xy) (abcd_part m v)) e₃ e₄)

  -- multiframe m's part of a payload with slot 16 replaced
  pub part_with : (p : List ℕ) → 496 * m + 496 ≤ length p
      → with_slot16 (between (496 * m) (496 * m + 496) p) (xy_part m xy) (abcd_part m v)
      ≡ between (496 * m) (496 * m + 496) (with_slot16 p xy v)
  part_with p h =
      let a = 496 * m in
      let q = with_slot16 p xy v in
      let s = between a (a + 496) p in
      let x = xy_part m xy in
      let w = abcd_part m v in
      let long : length s ≡ 496 = part_length a (a + 496) p h ∙ omega arith in
      let long' : length (between a (a + 496) q) ≡ 496 = part_length a (a + 496) q (omega (arith, with_length p xy v)) ∙ omega arith in
      sym (ext_get_or 0 (between a (a + 496) q) (with_slot16 s x w) (long' ∙ sym (with_length s x w ∙ long))
      (λ i l.
      let b : i < 496 = omega (arith, long') in
      let e : slot_of (a + i) ≡ slot_of i = omega arith in
      let k : frame_of (a + i) ≡ 16 * m + frame_of i = omega arith in
      get_or-take (a + 496 - a) (drop a q) i 0 (omega arith) ∙ get_or-drop a q i 0
      ∙ with_at p xy v (a + i) (omega arith)
      ∙ ap₂ (λ t y. if eqb t 16 then y else get_or p (a + i) 0) e (ap (slot16 xy v) k ∙ part_slot16 (frame_of i) (omega arith))
      ∙ ap (λ y. if eqb (slot_of i) 16 then slot16 x w (frame_of i) else y)
      (sym (get_or-take (a + 496 - a) (drop a p) i 0 (omega arith) ∙ get_or-drop a p i 0))
      ∙ sym (with_at s x w i (omega arith))))

-- frame f's part of a payload with slot 16 replaced
pub frame_with : (p xy v : List ℕ) (f : ℕ) → 31 * f + 31 ≤ length p
    → between (31 * f) (31 * f + 31) (with_slot16 p xy v) ≡ set (between (31 * f) (31 * f + 31) p) 15 (slot16 xy v f)
frame_with p xy v f h =
    ext_get_or 0 (between a (a + 31) q) (set s 15 x) (long' ∙ sym (length-set s 15 x ∙ long))
    (λ i l. let b : i < 31 = omega (arith, long') in octet i b ∙ which i b (eqb i 15) refl)
  where
    a : ℕ
    a = 31 * f

    q : List ℕ
    q = with_slot16 p xy v

    s : List ℕ
    s = between a (a + 31) p

    x : ℕ
    x = slot16 xy v f

    long : length s ≡ 31
    long = part_length a (a + 31) p h ∙ omega arith

    long' : length (between a (a + 31) q) ≡ 31
    long' = part_length a (a + 31) q (omega (arith, with_length p xy v)) ∙ omega arith

    octet : (i : ℕ) → i < 31 → get_or (between a (a + 31) q) i 0 ≡ get_or q (a + i) 0
    octet i b = get_or-take (a + 31 - a) (drop a q) i 0 (omega arith) ∙ get_or-drop a q i 0

    which : (i : ℕ) → i < 31 → (t : Bool) → eqb i 15 ≡ t → get_or q (a + i) 0 ≡ get_or (set s 15 x) i 0
    which i b true t =
        let e = eqb-true i 15 t in
        let k : a + i ≡ index_of f 16 = omega arith in
        ap (λ j. get_or q j 0) k ∙ with_slot16_lem p xy v f (omega arith)
        ∙ sym (ap (λ j. get_or (set s 15 x) j 0) e ∙ get_or-set_same s 15 x 0 (omega (arith, long)))
    which i b false t =
        let n = eqb-false i 15 t in
        let k : a + i ≡ index_of f (i + 1) = omega arith in
        ap (λ j. get_or q j 0) k ∙ with_other p xy v f (i + 1) (omega arith) (omega arith) (omega arith) (λ e. n (omega arith))
        ∙ ap (λ j. get_or p j 0) (sym k)
        ∙ sym (get_or-set_other s 15 i x 0 n ∙ get_or-take (a + 31 - a) (drop a p) i 0 (omega arith) ∙ get_or-drop a p i 0)
