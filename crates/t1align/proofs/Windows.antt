-- The window at octet k, come to from octet i on, and its places with both signals.
use Prim.Native.Nat.{ℕ, ◌+◌, ◌-◌, ◌*◌}
use mathlib.Core.Path.{◌≡◌, refl}
use mathlib.Core.List.{List}
use native.Mathlib.Decide.{dec_lt}
use native.Mathlib.Omega.{arith}
use Rattle.t1sliced.specs.Sliced.{Exactly}
use Rattle.t1align.specs.Window.{BothFramed, NoneFramed, Passed}
use Rattle.t1align.proofs.Parts.{part, both_of_part}
use Rattle.t1align.proofs.Sets.{as_exactly, none_exactly}

pub in_image : (s : List ℕ) (k places : ℕ) → Exactly (BothFramed (part s k)) places → Exactly (λ o. BothFramed s (8 * k + o)) places
in_image s k places signals = as_exactly _ _ (both_of_part s k) places signals

-- where there are none, it is passed too
pub passed_none : (s : List ℕ) (i k : ℕ) → NoneFramed s (8 * i) (8 * k) → Exactly (BothFramed (part s k)) 0
    → NoneFramed s (8 * i) (8 * k + 56)
passed_none s i k before signals q g l w =
    elim (dec_lt q (8 * k)) [
      | yes h ↦ before q g h w
      | no h ↦
          let p : 8 * k + (q - 8 * k) ≡ q = omega arith in
          none_exactly (λ o. BothFramed s (8 * k + o)) 0 refl (in_image s k 0 signals) (q - 8 * k) (omega arith) (rw p w)
    ]

pub passes : {s : List ℕ} {i k : ℕ} → Passed s i k → {places : ℕ} → places ≡ 0 → Exactly (BothFramed (part s k)) places
    → {at : ℕ} → at ≡ k + 7 → Passed s i at
passes {s} {i} {k} before {places} z signals {at} e =
    let none = passed_none s i k before.none (rw z at signals) in
    record { onward = omega (arith, before.onward); windows = omega (arith, before.windows); none = λ q g l. none q g (omega arith) }
