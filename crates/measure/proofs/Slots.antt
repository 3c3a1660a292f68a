-- Slots frame after frame, as the loops write them.
use Prim.Native.Nat.{ℕ, ◌+◌, ◌-◌, ◌*◌, ◌≤◌, ◌<◌}
use mathlib.Core.Path.{◌≡◌, refl, sym, ap, ap₂, ◌∙◌}
use mathlib.Core.List.{List, [], ◌++◌}
use native.Mathlib.Omega.{arith}
use borrow.Rule.Slice.PartMut.{put_mid}
use lib.ListN.{length, take, drop, set, take-append-drop}
use lib.Seq.{take_all}
use Rattle.line.specs.Bit.{octet_at}
use Rattle.base.specs.Tab.{tab, tab_from}
use Rattle.base.proofs.TabLaws.{tab_agree}
use Rattle.base.proofs.PartLaws as parts
use Rattle.e1.specs.Frame.{frame_at, slot_at}
use Rattle.e1.specs.Payload.{frame_of, slot_of}
use Rattle.measure.specs.Reading.{slots, slots0}

-- Slots 1 to 31

abbrev pub octet_of : List ℕ → ℕ → ℕ → ℕ
octet_of s q i = octet_at s (slot_at q (frame_of i) (slot_of i))

pub slots_none : (s : List ℕ) (q : ℕ) → slots s q 0 ≡ []
unfolding slots tab_from
slots_none s q = refl

-- k frames behind n, as octets from a to e of the payload
slots_later : (s : List ℕ) (q n k a e : ℕ) → a ≡ 31 * n → e ≡ a + 31 * k
    → slots s (frame_at q n) k ≡ tab (e - a) (λ i. octet_of s q (a + i))
unfolding slots
slots_later s q n k a e ha he =
    let l : 31 * k ≡ e - a = omega arith in
    tab_agree (31 * k) (octet_of s (frame_at q n)) (λ i. octet_of s q (a + i))
    (λ i h.
    let p : slot_at (frame_at q n) (frame_of i) (slot_of i) ≡ slot_at q (frame_of (a + i)) (slot_of (a + i)) = omega arith in
    ap (octet_at s) p)
    ∙ ap (λ x. tab x (λ i. octet_of s q (a + i))) l

-- n frames stand in xs up to a; the part from a to e is put back as ys, k more
module _ (s : List ℕ) (q n k a e : ℕ) (xs ys : List ℕ) (ha : a ≡ 31 * n) (he : e ≡ a + 31 * k) (fits : e ≤ length xs)
    (y : ys ≡ slots s (frame_at q n) k) where
  later : ys ≡ tab (e - a) (λ i. octet_of s q (a + i))
  later = y ∙ slots_later s q n k a e ha he

  pub part_more : (e' n' : ℕ) → e' ≡ e → n' ≡ n + k → take a xs ≡ slots s q n
      → take e' (put_mid a (e - a) xs ys) ≡ slots s q n'
  unfolding slots
  part_more e' n' p r t =
      let l : e ≡ 31 * n' = omega arith in
      ap (λ x. take x (put_mid a (e - a) xs ys)) p
      ∙ parts.part_more (octet_of s q) a e xs ys (omega arith) fits later (t ∙ ap (λ x. tab x (octet_of s q)) (sym ha))
      ∙ ap (λ x. tab x (octet_of s q)) l

  pub part_rest : (e' : ℕ) (xs₀ : List ℕ) → e' ≡ e → drop a xs ≡ drop a xs₀
      → drop e' (put_mid a (e - a) xs ys) ≡ drop e' xs₀
  part_rest e' xs₀ p t =
      ap (λ x. drop x (put_mid a (e - a) xs ys)) p
      ∙ parts.part_rest (octet_of s q) a e xs ys (omega arith) fits later xs₀ t
      ∙ ap (λ x. drop x xs₀) (sym p)

-- all n frames fill the output
pub slots_full : (s out : List ℕ) (q f n : ℕ) → f ≡ n → length out ≤ 31 * n → take (31 * f) out ≡ slots s q f
    → out ≡ slots s q n
slots_full s out q f n e l t = sym (take_all (31 * n) out l) ∙ rw e at t

-- all g multiframes, and the rest of the output
pub slots_kept : (s out out₀ : List ℕ) (q m g : ℕ) → m ≡ g → take (496 * m) out ≡ slots s q (16 * m)
    → drop (496 * m) out ≡ drop (496 * m) out₀
    → out ≡ slots s q (16 * g) ++ drop (496 * g) out₀
slots_kept s out out₀ q m g e t d =
    sym (take-append-drop (496 * m) out) ∙ ap₂ (λ u v. u ++ v) t d
    ∙ ap (λ x. slots s q (16 * x) ++ drop (496 * x) out₀) e

-- Slot 0

pub slot0_more : (s d out : List ℕ) (q f v : ℕ) → f < length d → v ≡ octet_at s (slot_at q f 0)
    → out ≡ slots0 s q f ++ drop f d
    → set out f v ≡ slots0 s q (f + 1) ++ drop (f + 1) d
unfolding slots0
slot0_more s d out q f v h e t = parts.octet_set (λ f. octet_at s (slot_at q f 0)) f v out d h e t
