-- Wherever an image is cut, the same is known and the same leaves: while no place stands, and then whatever is known.
use Prim.Native.Nat.{ℕ, zero, suc, ◌+◌, ◌-◌, ◌*◌, ◌/◌, ◌<◌}
use mathlib.Core.Path.{◌≡◌, refl, sym, ap, ap₂, ◌∙◌}
use mathlib.Core.List.{List, [], ◌++◌, append_assoc}
use Rattle.std.specs.Prelude.{None}
use native.Mathlib.Nat.{zero-add}
use native.Mathlib.Omega.{arith}
use lib.ListN.{length, drop, length-append, length-drop}
use lib.Seq.{drop-append-le, drop-drop}
use Rattle.align.specs.Place.{first_standing, first_basic, found_in, number_of}
use Rattle.align.specs.declared.Found.{Found}
use Rattle.align.specs.declared.Found.TheVariants.{At, BasicAt, Nothing}
use Rattle.align.proofs.Laws.{found_basic, found_nothing}
use Rattle.growth.specs.declared.Line.{Line}
use Rattle.growth.specs.Growth.{Grown, unread, read_from, noted, waits, searched, passed, grown_by, grown, fed, after}
use Rattle.growth.proofs.Places.{found_on, at_kept, found_goes_on}
use Rattle.growth.proofs.ReadCut.{lost_passes, passing_cut, reading_cut}
use Rattle.growth.proofs.Bounds.{start_within}

-- While no place stands

-- nothing leaves then
after_waits : (before : ℕ) (f : Found) (s : List ℕ) (y : Grown) → after (waits before f s) y ≡ y
after_waits before f s y =
    ap (λ m. record { line = y.line; window = y.window; multiframes = m; payload = y.payload; slot0 = y.slot0 })
    (zero-add y.multiframes)

-- and the next image is searched
searches : (before : ℕ) (known : Found) → 0 < number_of known → (s : List ℕ)
    → grown (unread before known) s ≡ searched before known s (found_in s)
searches before (At p k) h s = absurd (omega arith)
searches before (BasicAt p) h s = refl
searches before Nothing h s = refl

still_none : (known : Found) (p : ℕ) → 0 < number_of known → 0 < number_of (noted known (BasicAt p))
still_none (At q k) p h = absurd (omega arith)
still_none (BasicAt q) p h = omega arith
still_none Nothing p h = omega arith

noted_once : (known : Found) (p q : ℕ) → noted (noted known (BasicAt p)) (BasicAt q) ≡ noted known (BasicAt p)
noted_once (At r k) p q = refl
noted_once (BasicAt r) p q = refl
noted_once Nothing p q = refl

-- s is followed by b: the search goes on in the last octets of s as it does in all of them
module _ (before : ℕ) (known : Found) (s b : List ℕ) where
  abbrev gone : ℕ
  gone = length s - 2048

  abbrev rest : List ℕ
  rest = drop gone s ++ b

  same_drop : (n : ℕ) → drop (gone + n) (s ++ b) ≡ drop n rest
  same_drop n = sym (drop-drop n gone (s ++ b)) ∙ ap (drop n) (drop-append-le gone s b (omega arith))

  same_length : length (s ++ b) - 2048 ≡ gone + (length rest - 2048)
  same_length = omega (arith, length-append s b, length-append (drop gone s) b, length-drop gone s)

  waits_on : (f g : Found) → f ≡ g → waits before f (s ++ b) ≡ waits (before + gone) g rest
  waits_on f g e =
      let n = length rest - 2048 in
      let z : before + (length (s ++ b) - 2048) ≡ before + gone + n = omega (arith, same_length) in
      ap (λ x. waits before x (s ++ b)) e
      ∙ ap₂ (λ x w. record { line = unread x g; window = w; multiframes = 0; payload = []; slot0 = [] }) z
      (ap (λ k. drop k (s ++ b)) same_length ∙ same_drop n)

  reads_on : (p k : ℕ) → searched before known (s ++ b) (At (8 * gone + p) k) ≡ searched (before + gone) known rest (At p k)
  reads_on p k =
      let q = p + 512 * k in
      let e : (8 * gone + p + 512 * k) / 8 ≡ gone + q / 8 = omega arith in
      let x : before + (8 * gone + p + 512 * k) / 8 ≡ before + gone + q / 8 = omega (arith, e) in
      let y : 8 * before + (8 * gone + p) ≡ 8 * (before + gone) + p = omega arith in
      ap₂ (λ a c. read_from (unread a (At (8 * before + (8 * gone + p)) k)) c) x (ap (λ n. drop n (s ++ b)) e ∙ same_drop (q / 8))
      ∙ ap (λ a. read_from (unread (before + gone + q / 8) (At a k)) (drop (q / 8) rest)) y

  -- a place with basic alignment was found in s
  goes_on_basic : (p : ℕ) (f : Found) → searched before known (s ++ b) (found_on (8 * gone) (BasicAt p) f)
      ≡ searched (before + gone) (noted known (BasicAt (8 * before + p))) rest f
  goes_on_basic p (At q k) = reads_on q k
  goes_on_basic p (BasicAt q) = waits_on _ _ (sym (noted_once known (8 * before + p) (8 * (before + gone) + q)))
  goes_on_basic p Nothing = waits_on _ _ refl

  -- or nothing was
  goes_on : (f : Found) → searched before known (s ++ b) (found_on (8 * gone) Nothing f) ≡ searched (before + gone) known rest f
  goes_on (At q k) = reads_on q k
  goes_on (BasicAt q) =
      let e : 8 * before + (8 * gone + q) ≡ 8 * (before + gone) + q = omega arith in
      waits_on _ _ (ap (λ x. noted known (BasicAt x)) e)
  goes_on Nothing = waits_on known known refl

-- the image is cut anywhere
pub searching_cut : (before : ℕ) (known : Found) → 0 < number_of known → (s b : List ℕ)
    → searched before known (s ++ b) (found_in (s ++ b))
    ≡ after (searched before known s (found_in s))
    (grown (searched before known s (found_in s)).line ((searched before known s (found_in s)).window ++ b))
searching_cut before known h s b = by (found_in s) refl
  where
    parts : Found → Grown
    parts f = let x = searched before known s f in after x (grown x.line (x.window ++ b))

    d : ℕ
    d = length s - 2048

    last : List ℕ
    last = drop d s ++ b

    -- where no place stands in s
    on : (f : Found) → found_in s ≡ f → first_standing s ≡ None → found_in (s ++ b) ≡ found_on (8 * d) f (found_in last)
    on f e n = found_goes_on s b n ∙ ap (λ x. found_on (8 * d) x (found_in last)) e

    then : (f : Found) → 0 < number_of f
        → searched (before + d) f last (found_in last) ≡ after (waits before f s) (grown (unread (before + d) f) last)
    then f l = sym (searches (before + d) f l last) ∙ sym (after_waits before f s (grown (unread (before + d) f) last))

    by : (f : Found) → found_in s ≡ f → searched before known (s ++ b) (found_in (s ++ b)) ≡ parts (found_in s)
    by (At p k) e =
        let q = p + 512 * k in
        let c = unread (before + q / 8) (At (8 * before + p) k) in
        ap (searched before known (s ++ b)) (at_kept s b p k e)
        ∙ ap (read_from c) (drop-append-le (q / 8) s b (omega (arith, start_within s p k e)))
        ∙ reading_cut c (8 * before + p) k refl (drop (q / 8) s) b
        ∙ sym (ap parts e)
    by (BasicAt p) e =
        ap (searched before known (s ++ b)) (on (BasicAt p) e (found_basic (first_standing s) (first_basic s) p e).0)
        ∙ goes_on_basic before known s b p (found_in last)
        ∙ then (noted known (BasicAt (8 * before + p))) (still_none known (8 * before + p) h)
        ∙ sym (ap parts e)
    by Nothing e =
        ap (searched before known (s ++ b)) (on Nothing e (found_nothing (first_standing s) (first_basic s) e).0)
        ∙ goes_on before known s b (found_in last)
        ∙ then known h
        ∙ sym (ap parts e)

-- Whatever is known

pub grown_cut : (c : Line) (s b : List ℕ) → grown c (s ++ b) ≡ after (grown c s) (grown (grown c s).line ((grown c s).window ++ b))
grown_cut c s b = by c.found refl c.lost refl
  where
    parts : Found → ℕ → Grown
    parts f l = let x = grown_by f l c s in after x (grown x.line (x.window ++ b))

    by : (f : Found) → c.found ≡ f → (l : ℕ) → c.lost ≡ l → grown_by f l c (s ++ b) ≡ parts f l
    by (At p k) e zero z = reading_cut c p k e s b
    by (At p k) e (suc l) z =
        let x = passed c s in
        passing_cut c s b ∙ sym (ap (after x) (lost_passes x.line p k e (x.window ++ b) (omega (arith, z))))
    by (BasicAt p) e l z = searching_cut c.before (BasicAt p) (omega arith) s b
    by Nothing e l z = searching_cut c.before Nothing (omega arith) s b

-- and wherever a chunk is cut
pub fed_cut : (c : Line) (w a b : List ℕ) → fed c w (a ++ b) ≡ after (fed c w a) (fed (fed c w a).line (fed c w a).window b)
fed_cut c w a b = ap (grown c) (sym (append_assoc w a b)) ∙ grown_cut c (w ++ a) b
