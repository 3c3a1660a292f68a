-- The laws of the signalling that is given, of slot 16, and of a payload with slot 16 replaced.
use Rattle.std.specs.Prelude.{if◌then◌else◌}
use Prim.Native.Nat.{ℕ, ◌+◌, ◌*◌, ◌/◌, ◌%◌, ◌≤◌, ◌<◌}
use mathlib.Core.Path.{◌≡◌, ap, ◌∙◌}
use mathlib.Core.Bool.{Bool, true, false, ◌&&◌, and-eq-true_iff}
use mathlib.Core.List.{List}
use native.Mathlib.Decide.{dec_lt}
use native.Mathlib.Omega.{arith}
use borrow.Author.Tests.{eq-eqb, ne_eqb, eqb-true, leb-true, le-leb}
use lib.Dec.{eqb, leb, lit<}
use lib.ListN.{length, get_or, get_or-eq_default}
use Rattle.base.specs.Tab.{all}
use Rattle.base.proofs.TabLaws.{length_tab, get_d_tab, all_at, at_all}
use Rattle.e1.specs.Payload.{index_of, frame_of, slot_of, multiframes}
use Rattle.signalled.specs.Slot16.{slot16, with_slot16, nibbles, signals_fit}
use Rattle.signalled.specs.Given.{Nibbles, Given}

-- octet i is from low to 15
abbrev pub within : ℕ → List ℕ → ℕ → Bool
within low l i = leb low (get_or l i 0) && leb (get_or l i 0) 15

nibbles_given : (low n : ℕ) (l : List ℕ) → nibbles low n l ≡ true → Nibbles low n l
unfolding nibbles
nibbles_given low n l e =
    let h = (and-eq-true_iff (eqb (length l) n) (all n (within low l))).0 e in
    let k : length l ≡ n = eqb-true (length l) n h.0 in
    let at : (i : ℕ) → i < n → (leb low (get_or l i 0) ≡ true) × (leb (get_or l i 0) 15 ≡ true) =
    λ i b. (and-eq-true_iff (leb low (get_or l i 0)) (leb (get_or l i 0) 15)).0 (all_at n (within low l) h.1 i b) in
    record {
      long = k;
      least = λ i b. leb-true low (get_or l i 0) (at i b).0;
      most = λ i.
          elim (dec_lt i n) [
            | yes b ↦ leb-true (get_or l i 0) 15 (at i b).1
            | no b ↦ let z : get_or l i 0 ≡ 0 = get_or-eq_default l 0 {n = i} (omega arith) in omega arith
          ];
    }

nibbles_fit : (low n : ℕ) (l : List ℕ) → Nibbles low n l → nibbles low n l ≡ true
unfolding nibbles
nibbles_fit low n l g =
    (and-eq-true_iff (eqb (length l) n) (all n (within low l))).1 (
      eq-eqb (length l) n g.long,
      at_all n (within low l)
          (λ i b. (and-eq-true_iff (leb low (get_or l i 0)) (leb (get_or l i 0) 15)).1
          (le-leb low (get_or l i 0) (g.least i b), le-leb (get_or l i 0) 15 (g.most i))),
    )

module _ (xy v : List ℕ) (n : ℕ) where
  pub given : signals_fit xy v n ≡ true → Given xy v n
  given e =
      let h = (and-eq-true_iff (nibbles 0 n xy) (nibbles 1 (30 * n) v)).0 e in
      record { its_xy = nibbles_given 0 n xy h.0; its_abcd = nibbles_given 1 (30 * n) v h.1 }

  pub fits : Given xy v n → signals_fit xy v n ≡ true
  fits g =
      (and-eq-true_iff (nibbles 0 n xy) (nibbles 1 (30 * n) v)).1
      (nibbles_fit 0 n xy g.its_xy, nibbles_fit 1 (30 * n) v g.its_abcd)

two_nibbles : (a b : ℕ) → a ≤ 15 → b ≤ 15 → 16 * a + b < 256
two_nibbles a b h k = omega arith

module _ (xy v : List ℕ) (n : ℕ) (g : Given xy v n) where
  pub slot16_lt : (f : ℕ) → slot16 xy v f < 256
  unfolding slot16
  slot16_lt f = go (eqb (f % 16) 0) (two_nibbles _ _ (g.its_abcd.most _) (g.its_abcd.most _))
    where
      go : (b : Bool) {x : ℕ} → x < 256 → (if b then get_or xy (f / 16) 0 else x) < 256
      go true h = omega (arith, g.its_xy.most (f / 16))
      go false h = h

-- octet i of a payload p with slot 16 replaced
abbrev pub octet_with : List ℕ → List ℕ → List ℕ → ℕ → ℕ
octet_with p xy v i = if eqb (slot_of i) 16 then slot16 xy v (frame_of i) else get_or p i 0

module _ (p xy v : List ℕ) where
  pub with_length : length (with_slot16 p xy v) ≡ length p
  unfolding with_slot16
  with_length = length_tab (length p) (octet_with p xy v)

  pub with_multiframes : multiframes (with_slot16 p xy v) ≡ multiframes p
  with_multiframes = ap (λ l. l / 496) with_length

  pub with_at : (i : ℕ) → i < length p → get_or (with_slot16 p xy v) i 0 ≡ octet_with p xy v i
  unfolding with_slot16
  with_at i h = get_d_tab (length p) (octet_with p xy v) i 0 h

  -- slot 16 is replaced
  pub with_slot16_lem : (f : ℕ) → index_of f 16 < length p → get_or (with_slot16 p xy v) (index_of f 16) 0 ≡ slot16 xy v f
  with_slot16_lem f h =
      let e : slot_of (index_of f 16) ≡ 16 = omega arith in
      let k : frame_of (index_of f 16) ≡ f = omega arith in
      with_at (index_of f 16) h ∙ rw (e, k)

  -- and nothing else
  pub with_other : (f j : ℕ) → index_of f j < length p → 1 ≤ j → j ≤ 31 → (j ≡ 16 → ⊥)
      → get_or (with_slot16 p xy v) (index_of f j) 0 ≡ get_or p (index_of f j) 0
  with_other f j h h₁ h₂ n =
      with_at (index_of f j) h ∙ rw (ne_eqb (slot_of (index_of f j)) 16 (λ e. n (omega arith)))

  pub with_octets : (n : ℕ) → Given xy v n → ((i : ℕ) → get_or p i 0 < 256) → (i : ℕ) → get_or (with_slot16 p xy v) i 0 < 256
  with_octets n g h i =
      elim (dec_lt i (length p)) [
        | yes l ↦ rw (with_at i l) (go (eqb (slot_of i) 16))
        | no l ↦ rw (get_or-eq_default (with_slot16 p xy v) 0 {n = i} (omega (arith, with_length))) (lit< tt)
      ]
    where
      go : (b : Bool) → (if b then slot16 xy v (frame_of i) else get_or p i 0) < 256
      go true = slot16_lt xy v n g (frame_of i)
      go false = h i
