-- A line that comes at once is read as an image is: what is found, what is counted and what leaves are those of the image.
use Prim.Native.Nat.{ℕ, ◌+◌, ◌-◌, ◌*◌, ◌/◌, ◌%◌, ◌≤◌, ◌<◌}
use mathlib.Core.Path.{◌≡◌, refl, sym, ap, subst, ◌∙◌}
use mathlib.Core.List.{List, []}
use Rattle.std.specs.Prelude.{Option, None, Some}
use native.Mathlib.Nat.{zero-add}
use native.Mathlib.Omega.{arith}
use lib.ListN.{length, drop, length-drop}
use Rattle.align.specs.Place.{found_in, number_of, start_of}
use Rattle.align.specs.declared.Found.{Found}
use Rattle.align.specs.declared.Found.TheVariants.{At, BasicAt, Nothing}
use Rattle.measure.specs.Reading.{whole, loss, loss_from, lost_at, used_of, payload_of, slot0_of}
use Rattle.measure.specs.Reading.{word_errors, word_bits, compared, disagreeing, errored, far_end}
use Rattle.measure.proofs.FromLaws.{from_first}
use Rattle.growth.specs.Growth.{Grown, unread, nothing, later_by, read_on, read_from, searched, grown}
use Rattle.growth.proofs.Sees.{Sees, back_sees}
use Rattle.growth.proofs.Counts.{loss_seen, disagreeing_seen, Counts, words_count, bits_count, far_end_count}
use Rattle.growth.proofs.Counts.{Leaves, payload_leaves, slot0_leaves}
use Rattle.growth.proofs.Bounds.{start_within}

-- the used multiframes of an image, from bit q on
abbrev pub used_from : List ℕ → ℕ → ℕ
used_from s q = used_of (loss s q (whole s q)) (whole s q)

-- x is what the image s gives from bit q on
pub record AtOnce (s : List ℕ) (q : ℕ) (x : Grown) : Type 0 where
  pub used : x.line.used ≡ used_from s q
  pub lost : x.line.lost ≡ lost_at (loss s q (whole s q))
  pub words : x.line.words ≡ word_errors s q (used_from s q)
  pub errored : x.line.errored ≡ errored s q (used_from s q)
  pub farend : x.line.farend ≡ far_end s q (used_from s q)
  pub wordbits : x.line.wordbits ≡ word_bits s q (used_from s q)
  pub payload : x.payload ≡ payload_of s q (used_from s q)
  pub slot0 : x.slot0 ≡ slot0_of s q (used_from s q)

-- The image from the octet of bit q on
module _ (s : List ℕ) (q : ℕ) (h : q ≤ 8 * length s) where
  abbrev part : List ℕ
  part = drop (q / 8) s

  sees : (n : ℕ) → Sees s part (8 * (q / 8)) n
  sees n = back_sees s (q / 8) n

  whole_part : whole part (q % 8) ≡ whole s q
  unfolding whole
  whole_part =
      let e : 8 * length part - q % 8 ≡ 8 * length s - q = omega (arith, length-drop (q / 8) s) in
      ap (λ x. x / 4096) e

  loss_part : (m : ℕ) → loss_from part (q % 8) 0 m ≡ loss s q m
  loss_part m =
      let n = q % 8 + 4096 * m in
      sym (loss_seen s part (8 * (q / 8)) n (sees n) q (q % 8) 0 m (omega arith) (omega arith)) ∙ from_first s q m

  -- of which no multiframe has left before
  count_part : (X : List ℕ → ℕ → ℕ → ℕ) → Counts X → (g : ℕ) → 0 + X part (q % 8 + 4096 * 0) (g - 0) ≡ X s q g
  count_part X k g =
      let a = q % 8 + 4096 * 0 in
      let n = a + 4096 * (g - 0) in
      let z : g - 0 ≡ g = omega arith in
      zero-add _ ∙ sym (k.seen s part (8 * (q / 8)) n (sees n) q a (g - 0) (omega arith) (omega arith)) ∙ ap (X s q) z

  errored_part : (g : ℕ) → 0 + disagreeing part (q % 8 + 2048 * compared 0) (compared g - compared 0) ≡ errored s q g
  unfolding errored
  errored_part g =
      let a = q % 8 + 2048 * compared 0 in
      let m = compared g - compared 0 in
      let n = a + 2048 * m + 2048 in
      let z : m ≡ compared g = omega arith in
      zero-add _ ∙ sym (disagreeing_seen s part (8 * (q / 8)) n (sees n) q a m (omega arith) (omega arith)) ∙ ap (disagreeing s q) z

  output_part : (Y : List ℕ → ℕ → ℕ → List ℕ) (u : ℕ) → Leaves Y u → (g : ℕ) → Y part (q % 8 + 4096 * 0) (g - 0) ≡ Y s q g
  output_part Y u k g =
      let a = q % 8 + 4096 * 0 in
      let n = a + 4096 * (g - 0) in
      let z : g - 0 ≡ g = omega arith in
      sym (k.seen s part (8 * (q / 8)) n (sees n) q a (g - 0) (omega arith) (omega arith)) ∙ ap (Y s q) z

  lost_part : (l : Option ℕ) → lost_at (later_by 0 l) ≡ lost_at l
  lost_part None = refl
  lost_part (Some f) = zero-add f

  -- read from the start of its first multiframe on
  pub read_part : (before : ℕ) (f : Found) → start_of f % 8 ≡ q % 8 → AtOnce s q (read_from (unread before f) part)
  unfolding read_on
  read_part before f e =
      let c = unread before f in
      let l = loss s q (whole s q) in
      let g = used_from s q in
      let x : read_from c part ≡ read_on c part (q % 8) 0 l g =
      ap (λ b. read_on c part b 0 (loss_from part b 0 (whole part b)) (used_of (loss_from part b 0 (whole part b)) (whole part b))) e
      ∙ ap (λ m. read_on c part (q % 8) 0 (loss_from part (q % 8) 0 m) (used_of (loss_from part (q % 8) 0 m) m)) whole_part
      ∙ ap (λ o. read_on c part (q % 8) 0 o (used_of o (whole s q))) (loss_part (whole s q)) in
      subst (AtOnce s q) (sym x) (record {
        used = omega arith;
        lost = lost_part l;
        words = count_part word_errors words_count g;
        errored = errored_part g;
        farend = count_part far_end far_end_count g;
        wordbits = count_part word_bits bits_count g;
        payload = output_part payload_of 496 payload_leaves g;
        slot0 = output_part slot0_of 16 slot0_leaves g;
      })

pub at_once : (s : List ℕ) (p k : ℕ) → found_in s ≡ At p k → AtOnce s (p + 512 * k) (grown nothing s)
at_once s p k e =
    let q = p + 512 * k in
    let r : (8 * 0 + p + 512 * k) % 8 ≡ q % 8 = omega arith in
    subst (AtOnce s q) (sym (ap (searched 0 Nothing s) e)) (read_part s q (start_within s p k e) (0 + q / 8) (At (8 * 0 + p) k) r)

-- what is found is what is found in the image
pub found_at_once : (s : List ℕ) → (grown nothing s).line.found ≡ found_in s
unfolding read_on
found_at_once s = by (found_in s)
  where
    by : (f : Found) → (searched 0 Nothing s f).line.found ≡ f
    by (At p k) = ap (λ x. At x k) (omega arith)
    by (BasicAt p) = ap BasicAt (omega arith)
    by Nothing = refl

-- and where no place stands nothing leaves
pub none_left : (s : List ℕ) → 0 < number_of (found_in s) → ((grown nothing s).payload ≡ []) × ((grown nothing s).slot0 ≡ [])
none_left s = by (found_in s)
  where
    by : (f : Found) → 0 < number_of f → ((searched 0 Nothing s f).payload ≡ []) × ((searched 0 Nothing s f).slot0 ≡ [])
    by (At p k) h = absurd (omega arith)
    by (BasicAt p) h = (refl, refl)
    by Nothing h = (refl, refl)
