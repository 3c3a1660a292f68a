-- What is found, as a line grows: a place that stands stays the first, and where none stands the last 2,048 octets are
-- enough to go on with.
use Prim.Native.Nat.{ℕ, ◌+◌, ◌-◌, ◌*◌, ◌≤◌, ◌<◌}
use mathlib.Core.Path.{◌≡◌, refl, sym, ap, ◌∙◌}
use mathlib.Core.List.{List, ◌++◌}
use mathlib.Core.Logic.{◌↔◌}
use Rattle.std.specs.Prelude.{Option, None, Some}
use native.Mathlib.Decide.{dec_lt}
use native.Mathlib.Omega.{arith}
use lib.ListN.{length, drop, length-append, length-drop}
use lib.Seq.{drop-append-le}
use Rattle.align.specs.Place.{Standing, first_standing, first_basic, found, found_in}
use Rattle.align.specs.Stands.{Basic, Stands, StandsFirst}
use Rattle.align.specs.declared.Found.{Found}
use Rattle.align.specs.declared.Found.TheVariants.{At, BasicAt, Nothing}
use Rattle.align.proofs.Laws.{first_stands, none_stands, basic_first, none_basic, finds_at}
use Rattle.growth.specs.Growth.{later_by, noted}
use Rattle.growth.proofs.Sees.{front_sees, back_sees, basic_seen, stands_seen}

-- a place counted from d places earlier
abbrev pub standing_by : ℕ → Option Standing → Option Standing
standing_by d None = None
standing_by d (Some w) = Some (record { place = d + w.place; k = w.k })

-- A property of places that looks only at the 16,384 bits from the place on: in a longer line and in one without its
-- first octets it is the same.
pub record Local (P : List ℕ → ℕ → Type 0) : Type 0 where
  pub room : (s : List ℕ) (p : ℕ) → P s p → p + 16384 ≤ 8 * length s
  pub kept : (s t : List ℕ) (p : ℕ) → p + 16384 ≤ 8 * length s → P (s ++ t) p ↔ P s p
  pub rest : (s : List ℕ) (c p : ℕ) → 8 * c + p + 16384 ≤ 8 * length s → P s (8 * c + p) ↔ P (drop c s) p

-- where no place in the first c octets has it, the places that do are those of the rest
module _ (P : List ℕ → ℕ → Type 0) (l : Local P) (s : List ℕ) (c : ℕ) (h : (p : ℕ) → p < 8 * c → P s p → ⊥) where
  not_before : (p : ℕ) → P s p → 8 * c ≤ p
  not_before p g = elim (dec_lt p (8 * c)) [ yes k ↦ absurd (h p k g) | no k ↦ omega arith ]

  in_rest : (p : ℕ) → P s p → P (drop c s) (p - 8 * c)
  in_rest p g =
      let e : 8 * c + (p - 8 * c) ≡ p = omega (arith, not_before p g) in
      (l.rest s c (p - 8 * c) (omega (arith, not_before p g, l.room s p g))).0 (rw e g)

  in_whole : (p : ℕ) → P (drop c s) p → P s (8 * c + p)
  in_whole p g = (l.rest s c p (omega (arith, l.room (drop c s) p g, length-drop c s))).1 g

stands_local : (k : ℕ) → Local (λ s p. Stands s p k)
stands_local k =
    record {
      room = λ s p h. h.room;
      kept = λ s t p h.
          stands_seen (s ++ t) s 0 (8 * length s) (front_sees s t) p p k (omega arith) h h (omega (arith, length-append s t));
      rest = λ s c p h.
          stands_seen s (drop c s) (8 * c) (p + 16384) (back_sees s c (p + 16384)) (8 * c + p) p k refl (omega arith)
          (omega (arith, length-drop c s)) h;
    }

-- basic alignment, and room
abbrev BasicHere : List ℕ → ℕ → Type 0
BasicHere s p = (p + 16384 ≤ 8 * length s) × Basic s p

basic_local : Local BasicHere
basic_local =
    record {
      room = λ s p h. h.0;
      kept = λ s t p h.
          let b = basic_seen (s ++ t) s 0 (8 * length s) (front_sees s t) p p (omega arith) (omega arith) in
          (λ g. (h, b.0 g.1), λ g. (omega (arith, length-append s t), b.1 g.1));
      rest = λ s c p h.
          let b = basic_seen s (drop c s) (8 * c) (p + 520) (back_sees s c (p + 520)) (8 * c + p) p refl (omega arith) in
          (λ g. (omega (arith, length-drop c s), b.0 g.1), λ g. (h, b.1 g.1));
    }

-- The first of them is kept

module _ (s t : List ℕ) where
  stands_kept : (p k : ℕ) → p + 16384 ≤ 8 * length s → Stands (s ++ t) p k ↔ Stands s p k
  stands_kept p k h = (stands_local k).kept s t p h

  pub first_kept : (p k : ℕ) → StandsFirst s p k → StandsFirst (s ++ t) p k
  first_kept p k f =
      record {
        stands = (stands_kept p k f.stands.room).1 f.stands;
        before = λ q l h g. f.before q l h ((stands_kept q l (omega (arith, f.stands.room))).0 g);
      }

  pub at_kept : (p k : ℕ) → found_in s ≡ At p k → found_in (s ++ t) ≡ At p k
  at_kept p k e = (finds_at (s ++ t) p k).1 (first_kept p k ((finds_at s p k).0 e))

  pub basic_kept : (p : ℕ) → first_basic s ≡ Some p → first_basic (s ++ t) ≡ Some p
  basic_kept p e =
      let f = (basic_first s p).0 e in
      let w = (basic_local.kept s t p f.room).1 (f.room, f.basic) in
      (basic_first (s ++ t) p).1 (record {
        room = w.0;
        basic = w.1;
        before = λ q h g.
            f.before q h ((basic_local.kept s t q (omega (arith, f.room))).0 (omega (arith, w.0), g)).1;
      })

-- Octets in which there is none only shift them

module _ (s : List ℕ) (c : ℕ) (h : (p k : ℕ) → p < 8 * c → Stands s p k → ⊥) where
  pub first_later : first_standing s ≡ standing_by (8 * c) (first_standing (drop c s))
  first_later = go (first_standing (drop c s)) refl
    where
      inside : (p k : ℕ) → Stands s p k → Stands (drop c s) (p - 8 * c) k
      inside p k = in_rest (λ s p. Stands s p k) (stands_local k) s c (λ p. h p k) p

      go : (o : Option Standing) → first_standing (drop c s) ≡ o → first_standing s ≡ standing_by (8 * c) o
      go None e = (none_stands s).1 (λ p k g. (none_stands (drop c s)).0 e (p - 8 * c) k (inside p k g))
      go (Some w) e =
          let f = (first_stands (drop c s) w.place w.k).0 e in
          (first_stands s (8 * c + w.place) w.k).1 (record {
            stands = in_whole (λ s p. Stands s p w.k) (stands_local w.k) s c (λ p. h p w.k) w.place f.stands;
            before = λ q l i g.
                let b = not_before (λ s p. Stands s p l) (stands_local l) s c (λ p. h p l) q g in
                f.before (q - 8 * c) l (omega (arith, b)) (inside q l g);
          })

module _ (s : List ℕ) (c : ℕ) (h : (p : ℕ) → p < 8 * c → BasicHere s p → ⊥) where
  pub basic_later : first_basic s ≡ later_by (8 * c) (first_basic (drop c s))
  basic_later = go (first_basic (drop c s)) refl
    where
      inside : (p : ℕ) → BasicHere s p → BasicHere (drop c s) (p - 8 * c)
      inside = in_rest BasicHere basic_local s c h

      go : (o : Option ℕ) → first_basic (drop c s) ≡ o → first_basic s ≡ later_by (8 * c) o
      go None e =
          (none_basic s).1 (λ p r b. let g = inside p (r, b) in (none_basic (drop c s)).0 e (p - 8 * c) g.0 g.1)
      go (Some p) e =
          let f = (basic_first (drop c s) p).0 e in
          let w = in_whole BasicHere basic_local s c h p (f.room, f.basic) in
          (basic_first s (8 * c + p)).1 (record {
            room = w.0;
            basic = w.1;
            before = λ q i b.
                let g : BasicHere s q = (omega (arith, w.0), b) in
                let n = not_before BasicHere basic_local s c h q g in
                f.before (q - 8 * c) (omega (arith, n)) (inside q g).1;
          })

-- Where there is none yet, the last 2,048 octets are enough to go on with

module _ (s t : List ℕ) where
  abbrev gone : ℕ
  gone = length s - 2048

  abbrev goes_on : List ℕ
  goes_on = drop gone s ++ t

  is_rest : drop gone (s ++ t) ≡ goes_on
  is_rest = drop-append-le gone s t (omega arith)

  pub first_goes_on : first_standing s ≡ None → first_standing (s ++ t) ≡ standing_by (8 * gone) (first_standing goes_on)
  first_goes_on e =
      first_later (s ++ t) gone (λ p k l g. (none_stands s).0 e p k ((stands_kept s t p k (omega arith)).0 g))
      ∙ ap (λ x. standing_by (8 * gone) (first_standing x)) is_rest

  pub basic_goes_on : first_basic s ≡ None → first_basic (s ++ t) ≡ later_by (8 * gone) (first_basic goes_on)
  basic_goes_on e =
      basic_later (s ++ t) gone (λ p l g. let b = (basic_local.kept s t p (omega arith)).0 g in (none_basic s).0 e p b.0 b.1)
      ∙ ap (λ x. later_by (8 * gone) (first_basic x)) is_rest

-- What was found of a line in which none stands, and what is found of the rest, counted from d places earlier
abbrev pub found_on : ℕ → Found → Found → Found
found_on d known (At p k) = At (d + p) k
found_on d known (BasicAt p) = noted known (BasicAt (d + p))
found_on d known Nothing = known

pub found_goes_on : (s t : List ℕ) → first_standing s ≡ None
    → found_in (s ++ t) ≡ found_on (8 * (length s - 2048)) (found_in s) (found_in (drop (length s - 2048) s ++ t))
found_goes_on s t e =
    ap (λ o. found o (first_basic (s ++ t))) (first_goes_on s t e)
    ∙ by (first_basic s) refl
    ∙ sym (ap (λ o. found_on d (found o (first_basic s)) (found_in rest)) e)
  where
    d : ℕ
    d = 8 * (length s - 2048)

    rest : List ℕ
    rest = drop (length s - 2048) s ++ t

    later : (o : Option Standing) (b : Option ℕ) → found (standing_by d o) (later_by d b) ≡ found_on d Nothing (found o b)
    later None None = refl
    later None (Some p) = refl
    later (Some w) b = refl

    known : (o : Option Standing) (p : ℕ) (b : Option ℕ) → found (standing_by d o) (Some p) ≡ found_on d (BasicAt p) (found o b)
    known None p None = refl
    known None p (Some q) = refl
    known (Some w) p b = refl

    by : (b : Option ℕ) → first_basic s ≡ b
        → found (standing_by d (first_standing rest)) (first_basic (s ++ t)) ≡ found_on d (found None (first_basic s)) (found_in rest)
    by None k =
        ap (found (standing_by d (first_standing rest))) (basic_goes_on s t k)
        ∙ later (first_standing rest) (first_basic rest)
        ∙ sym (ap (λ b. found_on d (found None b) (found_in rest)) k)
    by (Some p) k =
        ap (found (standing_by d (first_standing rest))) (basic_kept s t p k)
        ∙ known (first_standing rest) p (first_basic rest)
        ∙ sym (ap (λ b. found_on d (found None b) (found_in rest)) k)
