-- Eight octets spell the bits that they have; the octets of a number are those that the library's methods give.
use Prim.Native.Nat.{ℕ, suc, ◌+◌, ◌*◌, ◌/◌, ◌%◌, ◌^◌, ◌≤◌, ◌<◌}
use mathlib.Core.Path.{◌≡◌, refl, sym, ap, ◌∙◌}
use mathlib.Core.List.{List}
use native.Mathlib.Nat.{div-one}
use native.Mathlib.Decide.{dec_lt}
use native.Mathlib.Omega.{arith}
use lib.ListN.{length, get_or, take, drop}
use Rattle.std.specs.Int.{w64, from_le_bytes, to_be_bytes, from_be_bytes, swap_bytes}
use Rattle.std.proofs.lemmas.List.{get_or-take, get_or-drop, get_or_past, length-take-le, length-drop}
use Rattle.std.proofs.lemmas.Nat.{le_bytes_8}
use Rattle.base.specs.Tab.{tab, tab_from}
use Rattle.line.specs.Spelt.{spelt, spelt_octet}
use Rattle.line.specs.Bit.{field}
use Rattle.line.proofs.BitLaws.{field_add, field_in}
use Rattle.line.specs.Window.{turned}

-- weights for nested products
weights : (a b c d e f g h : ℕ)
    → a * 72057594037927936 + b * 281474976710656 + c * 1099511627776 + d * 4294967296 + e * 16777216 + f * 65536 + g * 256 + h
    ≡ 256 * (256 * (256 * (256 * (256 * (256 * (256 * (256 * 0 + a) + b) + c) + d) + e) + f) + g) + h
weights a b c d e f g h = omega arith

pub swapped : (w : ℕ) → swap_bytes w64 w ≡ turned 8 w
unfolding turned
swapped w =
    rw (div-one w)
    (weights (w % 256) (w / 256 % 256) (w / 65536 % 256) (w / 16777216 % 256) (w / 4294967296 % 256) (w / 1099511627776 % 256)
    (w / 281474976710656 % 256)
    (w / 72057594037927936 % 256))

pub spelt_octets : (n : ℕ) → to_be_bytes w64 n ≡ tab 8 (spelt_octet n)
unfolding tab_from
spelt_octets n = rw (div-one n) refl

module _ (s : List ℕ) (octets : (i : ℕ) → get_or s i 0 < 256) (i : ℕ) (room : i + 8 ≤ length s) where
  abbrev eight : List ℕ
  eight = take 8 (drop i s)

  octet : (j : ℕ) → j < 8 → get_or eight j 0 ≡ get_or s (i + j) 0
  octet j h = get_or-take 8 (drop i s) j 0 h ∙ get_or-drop i s j 0

  next_octet : (n : ℕ) → field s (8 * i) (8 * suc n) ≡ 256 * field s (8 * i) (8 * n) + get_or s (i + n) 0
  next_octet n =
      let a : 8 * n + 8 ≡ 8 * suc n = omega arith in
      let b : 8 * i + 8 * n ≡ 8 * (i + n) + 0 = omega arith in
      let c : field s (8 * (i + n) + 0) 8 ≡ get_or s (i + n) 0 / 2 ^ 0 % 2 ^ 8 = field_in s (i + n) 0 8 0 refl in
      rw (← a, field_add s (8 * i) (8 * n) 8, b, c) (omega (arith, octets (i + n)))

  next : (n : ℕ) → n < 8 → field s (8 * i) (8 * suc n) ≡ 256 * field s (8 * i) (8 * n) + get_or eight n 0
  next n h = next_octet n ∙ ap (λ x. 256 * field s (8 * i) (8 * n) + x) (sym (octet n h))

  more : (n x : ℕ) → n < 8 → field s (8 * i) (8 * n) ≡ x → field s (8 * i) (8 * suc n) ≡ 256 * x + get_or eight n 0
  more n x h e = next n h ∙ ap (λ y. 256 * y + get_or eight n 0) e

  none : field s (8 * i) (8 * 0) ≡ 0
  unfolding field spelt
  none = refl

  pub spelt_by : from_be_bytes w64 eight ≡ field s (8 * i) 64
  spelt_by =
      weights (get_or eight 0 0) (get_or eight 1 0) (get_or eight 2 0) (get_or eight 3 0) (get_or eight 4 0) (get_or eight 5 0)
      (get_or eight 6 0)
      (get_or eight 7 0)
      ∙ sym (more 7 _ (omega arith) (more 6 _ (omega arith) (more 5 _ (omega arith) (more 4 _ (omega arith)
      (more 3 _ (omega arith) (more 2 _ (omega arith) (more 1 _ (omega arith) (more 0 _ (omega arith) none))))))))

  eight_length : length eight ≡ 8
  eight_length = length-take-le 8 (drop i s) (omega (arith, length-drop i s))

  small : (j : ℕ) → get_or eight j 0 < 256
  small j =
      elim (dec_lt j 8) [
        | yes h ↦ omega (arith, octet j h, octets (i + j))
        | no h ↦ omega (arith, get_or_past eight j 0 (omega (arith, eight_length)))
      ]

  -- turned, as a number whose first octet is the lowest
  pub turned_by : turned 8 (from_le_bytes w64 eight) ≡ field s (8 * i) 64
  turned_by =
      sym (swapped (from_le_bytes w64 eight))
      ∙ ap (from_be_bytes w64) (le_bytes_8 eight (from_le_bytes w64 eight) eight_length small refl)
      ∙ spelt_by
