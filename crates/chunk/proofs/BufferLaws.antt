-- Octets at the front of a buffer, and joined to one image.
use Prim.Native.Nat.{ℕ, ◌+◌, ◌-◌, ◌≤◌}
use mathlib.Core.Path.{◌≡◌, sym, ap, ap₂, ◌∙◌}
use mathlib.Core.List.{List, [], ◌++◌, append_assoc, append-nil}
use native.Mathlib.Omega.{arith}
use borrow.Rule.Slice.PartMut.{put_mid}
use lib.ListN.{length, take, drop, length-append, length-drop, drop_of_length-le}
use lib.Seq.{length-take-le, take_at, take_all, drop_at, drop-drop}

-- `&s[e..]` is all from octet e on
pub to_end : (s : List ℕ) (e : ℕ) → take (length s - e) (drop e s) ≡ drop e s
to_end s e = take_all (length s - e) (drop e s) (omega (arith, length-drop e s))

-- two outputs, one behind the other: O₁ and O₂ are what the buffer and its part from a on become
pub two_outputs : (P Q out O₁ O₂ : List ℕ) (a b n : ℕ) → length P ≡ a → O₁ ≡ P ++ drop a out
    → O₂ ≡ Q ++ drop b (take (length O₁ - a) (drop a O₁)) → a + b ≡ n
    → put_mid a (length O₁ - a) O₁ O₂ ≡ (P ++ Q) ++ drop n out
two_outputs P Q out O₁ O₂ a b n l e k m =
    let front : take a O₁ ≡ P = ap (take a) e ∙ take_at P (drop a out) a l in
    let back : drop a O₁ ≡ drop a out = ap (drop a) e ∙ drop_at P (drop a out) a l in
    let none : drop (length O₁ - a) (drop a O₁) ≡ [] =
    drop_of_length-le (drop a O₁) {i = length O₁ - a} (omega (arith, length-drop a O₁)) in
    let tail : O₂ ≡ Q ++ drop n out =
    k ∙ ap (λ x. Q ++ drop b x) (to_end O₁ a ∙ back) ∙ ap (λ x. Q ++ x) (drop-drop b a out ∙ ap (λ y. drop y out) m) in
    ap₂ (λ x y. x ++ y) front (ap₂ (λ x y. x ++ y) tail none ∙ append-nil (Q ++ drop n out))
    ∙ sym (append_assoc P Q (drop n out))

-- the filled part of a window
pub filled : (window : List ℕ) (fill : ℕ) → length window ≡ 2048 → fill ≤ 2048 → length (take fill window) ≡ fill
filled window fill l h = length-take-le fill window (omega arith)

-- the image that two are joined to
pub image_length : (w t image : List ℕ) (e : ℕ) → e ≡ length w + length t → take e image ≡ w ++ t → length (take e image) ≡ e
image_length w t image e n k = ap length k ∙ length-append w t ∙ sym n
