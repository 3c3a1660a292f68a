-- The first place that stands, from the places of one window and from those before it.
use Prim.Native.Nat.{ℕ, ◌+◌, ◌-◌, ◌*◌, ◌%◌, ◌^◌, ◌≤◌, ◌<◌}
use mathlib.Core.Path.{◌≡◌, sym}
use mathlib.Core.List.{List}
use native.Mathlib.Decide.{dec_lt}
use native.Mathlib.Omega.{arith}
use borrow.Author.Tests.{le-leb, lt-leb}
use lib.Bits.{bit_and, and_le_l}
use lib.Count.{count_leading_zeros}
use lib.Dec.{leb}
use lib.ListN.{length}
use Rattle.std.specs.Prelude.{None}
use Rattle.std.specs.Bool.{then_some}
use Rattle.t1.specs.Raw.{raw}
use Rattle.t1sliced.specs.Sliced.{Exactly, AgreesAt}
use Rattle.t1align.specs.Place.{first_standing}
use Rattle.t1align.specs.Stands.{Stands}
use Rattle.t1align.specs.Window.{BothFramed, NoneFramed}
use Rattle.t1align.proofs.Laws.{first_stands, none_stands}
use Rattle.t1align.proofs.Sets.{both_exactly, none_before, first_has}
use Rattle.t1align.proofs.Parts.{part, stands_in_part}

-- r is the remainder at the octet at, some windows before i
abbrev pub Known : List ℕ → ℕ → ℕ → ℕ → Type 0
Known s at r i = (at ≤ i) × (at % 7 ≡ i % 7) × (r ≡ raw s (8 * at)) × (r < 64)

abbrev pub NoneBefore : List ℕ → ℕ → Type 0
NoneBefore s p = (q : ℕ) → q < p → Stands s q → ⊥

-- where no later place has room, none stands
pub nowhere : (s : List ℕ) (p : ℕ) → NoneBefore s p → 8 * length s < p + 9264 → None ≡ first_standing s
nowhere s p before end = sym ((none_stands s).1 (λ q h. before q (omega (arith, h.room)) h))

-- no place of windows that are passed over stands, as it has not both signals
pub none_passed : (s : List ℕ) (i at : ℕ) → NoneBefore s (8 * i) → NoneFramed s (8 * i) (8 * at) → NoneBefore s (8 * at)
none_passed s i at before none q l h =
    elim (dec_lt q (8 * i)) [
      | yes g ↦ before q g h
      | no g ↦ none q (omega arith) l (h.first, h.second)
    ]

-- in the window at octet i, whose places with both signals are known, and those that agree
module _ (s : List ℕ) (i framed agreed : ℕ) (few : framed < 2 ^ 64) (signals : Exactly (λ o. BothFramed s (8 * i + o)) framed)
    (agreeing : Exactly (AgreesAt (part s i)) agreed) (before : NoneBefore s (8 * i)) where
  abbrev zeros : ℕ
  zeros = count_leading_zeros 64 (bit_and framed agreed)

  both : Exactly (λ o. BothFramed s (8 * i + o) × AgreesAt (part s i) o) (bit_and framed agreed)
  both = both_exactly _ _ framed agreed signals agreeing

  pub past_zeros : (n : ℕ) → n ≤ 56 → n ≤ zeros → NoneBefore s (8 * i + n)
  past_zeros n m z q l h =
      elim (dec_lt q (8 * i)) [
        | yes g ↦ before q g h
        | no g ↦
            let e : 8 * i + (q - 8 * i) ≡ q = omega arith in
            let w : Stands s (8 * i + (q - 8 * i)) = rw e h in
            none_before _ (bit_and framed agreed) (omega (arith, and_le_l framed agreed)) both (q - 8 * i) (omega arith) (omega arith)
            ((stands_in_part s i (q - 8 * i) (omega arith) w.room).1 w)
      ]

  pub answered : zeros < 56 → then_some (leb (8 * i + zeros + 9264) (8 * length s)) (8 * i + zeros) ≡ first_standing s
  answered l =
      let none_yet = past_zeros zeros (omega arith) (omega arith) in
      elim (dec_lt (8 * length s) (8 * i + zeros + 9264)) [
        | yes h ↦ rw (lt-leb _ _ h) (nowhere s (8 * i + zeros) none_yet h)
        | no h ↦
            rw (le-leb (8 * i + zeros + 9264) (8 * length s) (omega arith)) (sym ((first_stands s (8 * i + zeros)).1 (record {
              stands =
                  (stands_in_part s i zeros l (omega arith)).0
                  (first_has _ (bit_and framed agreed) (omega (arith, and_le_l framed agreed)) both l);
              before = none_yet;
            })))
      ]
