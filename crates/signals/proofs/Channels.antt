-- The channels of a signalling multiframe, two with each octet.
use Prim.Native.Nat.{ℕ, ◌+◌, ◌-◌, ◌/◌, ◌%◌, ◌<◌}
use mathlib.Core.Path.{◌≡◌, sym, ap, ◌∙◌}
use mathlib.Core.List.{List}
use native.Mathlib.Omega.{arith}
use native.Mathlib.Decide.{dec_lt}
use lib.ListN.{length, get_or, set, take, drop, length-set}
use lib.Seq.{ext_get_or, get_or-take, get_or-drop}
use Rattle.std.proofs.lemmas.List.{get_or-set_same, get_or-set_other}
use Rattle.base.specs.Tab.{tab}
use Rattle.base.proofs.TabLaws.{length_tab, get_d_tab}
use Rattle.signals.specs.Signalling.{abcd_at}
use Rattle.signals.specs.Follow.{channels}
use Rattle.signals.proofs.Laws.{high_four, low_four}

-- channel i + 1 and channel i + 16 are written
abbrev pub Both : List ℕ → List ℕ → ℕ → Type 0
Both t out i = (get_or out i 0 ≡ abcd_at t 0 (i + 1)) × (get_or out (i + 15) 0 ≡ abcd_at t 0 (i + 15 + 1))

-- what is written with octet x of frame i + 1
module _ (t out : List ℕ) (i x : ℕ) (its : x ≡ get_or t (i + 1) 0) (inside : i < 15) (room : length out ≡ 30) where
  abbrev pub written : List ℕ
  written = set (set out i (x / 16)) (i + 15) (x % 16)

  other : (n : ℕ) → (n ≡ i → ⊥) → (n ≡ i + 15 → ⊥) → get_or written n 0 ≡ get_or out n 0
  other n a b = get_or-set_other (set out i (x / 16)) (i + 15) n (x % 16) 0 b ∙ get_or-set_other out i n (x / 16) 0 a

  both_kept : (j : ℕ) → j < i → Both t out j → Both t written j
  both_kept j l h = (
    other j (λ e. omega arith) (λ e. omega arith) ∙ h.0,
    other (j + 15) (λ e. omega arith) (λ e. omega arith) ∙ h.1,
  )

  both_now : Both t written i
  both_now =
      let e : i + 1 ≡ i + 15 - 14 = omega arith in (
        get_or-set_other (set out i (x / 16)) (i + 15) i (x % 16) 0 (λ e. omega arith)
            ∙ get_or-set_same out i (x / 16) 0 (omega arith) ∙ ap (λ x. x / 16) its ∙ high_four t i inside,
        get_or-set_same (set out i (x / 16)) (i + 15) (x % 16) 0 (omega (arith, length-set out i (x / 16)))
            ∙ ap (λ x. x % 16) (its ∙ ap (λ n. get_or t n 0) e) ∙ low_four t (i + 15) (omega arith),
      )

  both_written : ((j : ℕ) → j < i → Both t out j) → (j : ℕ) → j < i + 1 → Both t written j
  both_written h j k = elim (dec_lt j i) [ yes l ↦ both_kept j l (h j l) | no l ↦ now (omega arith) ]
    where
      now : j ≡ i → Both t written j
      now e = rw e both_now

module _ (t out : List ℕ) (whole : length t ≡ 16) (room : length out ≡ 30) where
  pub both_more : (i : ℕ) → i < 15 → ((j : ℕ) → j < i → Both t out j)
      → (let x = get_or (take (length t - 1) (drop 1 t)) i 0 in
      (j : ℕ) → j < i + 1 → Both t (set (set out i (x / 16)) (i + 15) (x % 16)) j)
  both_more i l h =
      let e : 1 + i ≡ i + 1 = omega arith in
      let its = get_or-take (length t - 1) (drop 1 t) i 0 (omega arith) ∙ get_or-drop 1 t i 0 ∙ ap (λ n. get_or t n 0) e in
      both_written t out i _ its l room h

  pub both_all : ((j : ℕ) → j < 15 → Both t out j) → out ≡ channels t 0
  unfolding channels
  both_all h = ext_get_or 0 out _ (room ∙ sym (length_tab 30 (λ i. abcd_at t 0 (i + 1)))) at
    where
      at : (n : ℕ) → n < length out → get_or out n 0 ≡ get_or (tab 30 (λ i. abcd_at t 0 (i + 1))) n 0
      at n l =
          elim (dec_lt n 15) [
            | yes m ↦ (h n m).0 ∙ sym (get_d_tab 30 (λ i. abcd_at t 0 (i + 1)) n 0 (omega arith))
            | no m ↦
                let e : n - 15 + 15 ≡ n = omega arith in
                ap (λ k. get_or out k 0) (sym e) ∙ (h (n - 15) (omega arith)).1 ∙ ap (λ k. abcd_at t 0 (k + 1)) e
                ∙ sym (get_d_tab 30 (λ i. abcd_at t 0 (i + 1)) n 0 (omega arith))
          ]
