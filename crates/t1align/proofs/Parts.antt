-- The octets from octet i of an image on: their bits are those of the image, and so are their signals, checks and
-- remainders.
use Prim.Native.Nat.{ℕ, ◌+◌, ◌-◌, ◌*◌, ◌≤◌, ◌<◌}
use mathlib.Core.Path.{◌≡◌, sym, ap, ◌∙◌}
use mathlib.Core.List.{List}
use mathlib.Core.Logic.{◌↔◌}
use native.Mathlib.Omega.{arith}
use lib.ListN.{length, take, drop}
use Rattle.base.proofs.PartLaws.{part_length}
use Rattle.line.specs.Bit.{bit_at}
use Rattle.line.proofs.SpeltLaws.{spelt_agree}
use Rattle.crc.specs.Remainder.{check}
use Rattle.crc.proofs.StripedLaws.{striped_agree}
use Rattle.t1.specs.Superframe.{framing_at, check_of, super_check, carried}
use Rattle.t1.proofs.Laws.{bit_part}
use Rattle.t1sliced.specs.Sliced.{AgreesAt}
use Rattle.t1align.specs.Stands.{Framed, Stands}
use Rattle.t1align.specs.Window.{HalfFramed, BothFramed}

-- n of them
abbrev pub octets_at : List ℕ → ℕ → ℕ → List ℕ
octets_at s i n = take (i + n - i) (drop i s)

module _ (s : List ℕ) (i n : ℕ) where
  pub length_of_octets : i + n ≤ length s → length (octets_at s i n) ≡ n
  length_of_octets h = omega (arith, part_length i (i + n) s h)

  -- place x of them and q of the image, y bits on
  bit_on : (x q y : ℕ) → q ≡ 8 * i + x → x + y < 8 * n → bit_at (octets_at s i n) (x + y) ≡ bit_at s (q + y)
  bit_on x q y e h = bit_part s i (i + n - i) (x + y) (omega arith) ∙ ap (bit_at s) (omega arith)

  -- the superframe at place x, its signal
  module _ (x q : ℕ) (e : q ≡ 8 * i + x) (h : x + 4440 ≤ 8 * n) where
    framing_of_octets : (f : ℕ) → f < 24 → bit_at (octets_at s i n) (framing_at x f) ≡ bit_at s (framing_at q f)
    framing_of_octets f l = bit_on x q (193 * f) e (omega arith)

    pub half_of_octets : (d : ℕ) → d < 2 → HalfFramed d (octets_at s i n) x ↔ HalfFramed d s q
    half_of_octets d g = (
      λ w k l. sym (framing_of_octets (4 * (2 * k + d) + 3) (omega arith)) ∙ w k l,
      λ w k l. framing_of_octets (4 * (2 * k + d) + 3) (omega arith) ∙ w k l,
    )

    framed_of_octets : Framed (octets_at s i n) x ↔ Framed s q
    framed_of_octets = (
      λ w k l. sym (framing_of_octets (4 * k + 3) (omega arith)) ∙ w k l,
      λ w k l. framing_of_octets (4 * k + 3) (omega arith) ∙ w k l,
    )

    carried_of_octets : carried (octets_at s i n) x ≡ carried s q
    unfolding carried
    carried_of_octets = spelt_agree 6 _ _ (λ k l. framing_of_octets (4 * k + 1) (omega arith))

-- two superframes
abbrev pub part : List ℕ → ℕ → List ℕ
part s i = octets_at s i 1158

module _ (s : List ℕ) (i : ℕ) where
  check_of_part : (o : ℕ) → o < 56 → super_check (part s i) o ≡ super_check s (8 * i + o)
  unfolding check_of
  check_of_part o h =
      ap (check 6) (striped_agree 193 1 4632 _ _ (λ k l n. bit_on s i 1158 o (8 * i + o) k (omega arith) (omega arith)))

  module _ (o : ℕ) (h : o < 56) where
    pub both_of_part : BothFramed (part s i) o ↔ BothFramed s (8 * i + o)
    both_of_part =
        let first = framed_of_octets s i 1158 o (8 * i + o) (omega arith) (omega arith) in
        let second = framed_of_octets s i 1158 (o + 4632) (8 * i + o + 4632) (omega arith) (omega arith) in
        (λ w. (first.0 w.0, second.0 w.1), λ w. (first.1 w.0, second.1 w.1))

    -- so a place of the image with both signals, and with room, stands where the part agrees
    pub stands_in_part : 8 * i + o + 9264 ≤ 8 * length s
        → BothFramed s (8 * i + o) × AgreesAt (part s i) o ↔ Stands s (8 * i + o)
    stands_in_part room =
        let check = check_of_part o h in
        let next = carried_of_octets s i 1158 (o + 4632) (8 * i + o + 4632) (omega arith) (omega arith) in (
          λ w. record { room = room; first = w.0.0; second = w.0.1; agreement = sym check ∙ w.1 ∙ next },
          λ w. ((w.first, w.second), check ∙ w.agreement ∙ sym next),
        )
