-- A row heard frame by frame: what is known behind its first n frames, and behind all of them.
use Rattle.std.specs.Prelude.{if◌then◌else◌}
use Prim.Native.Nat.{ℕ, zero, suc, ◌+◌, ◌-◌, ◌*◌, ◌/◌, ◌%◌, ◌≤◌, ◌<◌}
use mathlib.Core.Path.{◌≡◌, refl, sym, ap, ap₂, subst, ◌∙◌}
use mathlib.Core.Bool.{Bool, true, false, ◌&&◌, not}
use mathlib.Core.List.{List, [], ◌∷◌, ◌++◌, append-nil, append_assoc}
use native.Mathlib.Decide.{dec_lt}
use native.Mathlib.Nat.{zero-add}
use native.Mathlib.Omega.{arith}
use borrow.Author.Tests.{eqb-true, eqb-false, leb-true, leb-false, lt-ltb}
use lib.Dec.{eqb, leb, ltb}
use lib.ListN.{length, get_or, drop, replicate, length-append, length-drop, get_or-append}
use lib.Seq.{drop-cons, drop-length, get_or-append-add, get_or-drop, get_or_at}
use Rattle.base.specs.Tab.{tab, tab_from, sum, first}
use Rattle.base.proofs.TabLaws.{tab_split, tab_agree, count_yes, count_no}
use Rattle.signals.specs.Signalling.{aligns, Walk, searching, step, walk, ends, loses, starts_in, read_in, first_in, losses_in}
use Rattle.signals.specs.Signalling.{held_in, abcd_at, abcd_in, xy_in}
use Rattle.signals.proofs.Laws.{walk_more, passed_few, first_set, first_unset, first_kept, unset_searching}
use Rattle.signals.proofs.Starts.{starts_new, starts_kept}
use Rattle.signals.proofs.LossLaws.{takes}
use Rattle.heard.specs.declared.Hearing.{Hearing}
use Rattle.heard.specs.Hearing.{nothing, walk_of, tallied, after_frame, after_row, hearing_of, xy_of, is_read, channel_of}
use Rattle.heard.specs.Hearing.{told, told_along, Hears}

-- frame 0 of the last that is read of the first n frames, alignment held or not
abbrev last_xy : List ℕ → ℕ → ℕ
last_xy t n = if ltb 0 (read_in t n) then get_or t (get_or (starts_in t n) (read_in t n - 1) 0) 0 else 11

-- the row, with zeros for the frames before it
abbrev padded : List ℕ → List ℕ
padded t = replicate 16 0 ++ t

record Knows (t : List ℕ) (n : ℕ) (h : Hearing) : Type 0 where
  its_frames : h.frames ≡ n
  its_walk : walk_of h ≡ walk t n
  its_multiframes : h.multiframes ≡ read_in t n
  its_first : h.first ≡ first_in t n
  its_losses : h.losses ≡ losses_in t n
  its_xy : h.xy ≡ last_xy t n
  long : length h.row ≡ 16
  its_row : (i : ℕ) → i < 16 → get_or h.row i 0 ≡ get_or (padded t) (n + i) 0

and-false : (b : Bool) → b && false ≡ false
and-false true = refl
and-false false = refl

module _ (t : List ℕ) where
  padded_at : (m : ℕ) → 16 ≤ m → get_or (padded t) m 0 ≡ get_or t (m - 16) 0
  padded_at m l =
      let e : m ≡ 16 + (m - 16) = omega arith in
      ap (λ m. get_or (padded t) m 0) e ∙ get_or-append-add (replicate 16 0) t (m - 16) 0

  knows_nothing : Knows t 0 nothing
  unfolding walk starts_in first_in losses_in sum first
  knows_nothing =
      record {
        its_frames = refl;
        its_walk = refl;
        its_multiframes = refl;
        its_first = refl;
        its_losses = refl;
        its_xy = refl;
        long = refl;
        its_row = λ i l. sym (get_or-append (replicate 16 0) t 0 i l) ∙ sym (ap (λ i. get_or (padded t) i 0) (zero-add i));
      }

  -- the frame before, or a zero, is enough to tell whether alignment can be taken
  aligns_by : (n b : ℕ) → b ≡ get_or (padded t) (n + 15) 0 → eqb (get_or t n 0 / 16) 0 && not (eqb b 0) ≡ aligns t n
  unfolding aligns
  aligns_by zero b e = ap (λ b. eqb (get_or t 0 0 / 16) 0 && not (eqb b 0)) e ∙ and-false (eqb (get_or t 0 0 / 16) 0)
  aligns_by (suc n) b e =
      let m : suc n + 15 - 16 ≡ n = omega arith in
      ap (λ b. eqb (get_or t (suc n) 0 / 16) 0 && not (eqb b 0))
      (e ∙ padded_at (suc n + 15) (omega arith) ∙ ap (λ n. get_or t n 0) m)

  -- where the last that is read begins
  read_new : (f : ℕ) → (walk t (f + 1)).passed ≡ 16 → read_in t (f + 1) ≡ read_in t f + 1
  read_new f e = ap length (starts_new t f e) ∙ length-append (starts_in t f) ((f - 15) ∷ [])

  last_start : (f : ℕ) → (walk t (f + 1)).passed ≡ 16 → get_or (starts_in t (f + 1)) (read_in t (f + 1) - 1) 0 ≡ f - 15
  last_start f e =
      let k : read_in t f ≡ read_in t (f + 1) - 1 = omega (arith, read_new f e) in
      ap (λ l. get_or l (read_in t (f + 1) - 1) 0) (starts_new t f e) ∙ get_or_at (starts_in t f) (f - 15) [] 0 (read_in t (f + 1) - 1) k

  -- One frame more

  module _ (n : ℕ) (h : Hearing) (k : Knows t n h) where
    abbrev octet : ℕ
    octet = get_or t n 0

    abbrev stepped : Walk
    stepped = step (get_or h.row 15 0 ∷ octet ∷ []) 1 (walk_of h)

    walk_so : stepped ≡ walk t (n + 1)
    unfolding step aligns
    walk_so =
        ap (λ a. if eqb h.passed 0 then (if a then record { passed = 1; wrong = not (eqb (octet / 16) 0) } else searching) else
        if eqb h.passed 16 then (if h.wrong && not (eqb (octet / 16) 0) then searching else record { passed = 1; wrong = not (eqb (octet / 16) 0) }) else
        record { passed = h.passed + 1; wrong = h.wrong })
        (aligns_by n (get_or h.row 15 0) (k.its_row 15 (omega arith)))
        ∙ ap (step t n) k.its_walk ∙ sym (walk_more t n)

    abbrev passed : ℕ
    passed = (walk t (n + 1)).passed

    passed_so : stepped.passed ≡ passed
    passed_so = ap (λ (w : Walk). w.passed) walk_so

    multiframes_so : (if eqb passed 16 then h.multiframes + 1 else h.multiframes) ≡ read_in t (n + 1)
    multiframes_so = go (eqb passed 16) refl
      where
        go : (b : Bool) → eqb passed 16 ≡ b → (if b then h.multiframes + 1 else h.multiframes) ≡ read_in t (n + 1)
        go true e = ap (λ m. m + 1) k.its_multiframes ∙ sym (read_new n (eqb-true passed 16 e))
        go false e = k.its_multiframes ∙ sym (ap length (starts_kept t n (eqb-false passed 16 e)))

    first_so : (if eqb h.first 0 && eqb passed 1 then h.frames else h.first) ≡ first_in t (n + 1)
    first_so =
        ap₂ (λ f m. if eqb f 0 && eqb passed 1 then m else f) k.its_first k.its_frames ∙ go (eqb (first_in t n) 0) refl
      where
        -- none was taken before
        taken : first_in t n ≡ 0 → (b : Bool) → aligns t n ≡ b → (if eqb passed 1 then n else first_in t n) ≡ first_in t (n + 1)
        taken z true a =
            let p : passed ≡ 1 = ap (λ (w : Walk). w.passed) (takes t n (unset_searching t n z) a) in
            ap (λ p. if eqb p 1 then n else first_in t n) p ∙ sym (first_set t n z a)
        taken z false a =
            let u = first_unset t n z a in
            let p : passed ≡ 0 = ap (λ (w : Walk). w.passed) (unset_searching t (n + 1) u) in
            ap (λ p. if eqb p 1 then n else first_in t n) p ∙ z ∙ sym u

        go : (b : Bool) → eqb (first_in t n) 0 ≡ b → (if b && eqb passed 1 then n else first_in t n) ≡ first_in t (n + 1)
        go true e = taken (eqb-true (first_in t n) 0 e) (aligns t n) refl
        go false e = sym (first_kept t n (n + 1) (eqb-false (first_in t n) 0 e) (omega arith))

    losses_so : (if eqb h.passed 16 && eqb passed 0 then h.losses + 1 else h.losses) ≡ losses_in t (n + 1)
    unfolding losses_in loses
    losses_so =
        ap₂ (λ p m. if eqb p 16 && eqb passed 0 then m + 1 else m) (ap (λ (w : Walk). w.passed) k.its_walk) k.its_losses
        ∙ go (loses t n) refl
      where
        go : (b : Bool) → loses t n ≡ b → (if b then losses_in t n + 1 else losses_in t n) ≡ losses_in t (n + 1)
        go true e = sym (count_yes n (loses t) e)
        go false e = sym (count_no n (loses t) e)

    abbrev row : List ℕ
    row = drop 1 h.row ++ octet ∷ []

    behind : length (drop 1 h.row) ≡ 15
    behind = omega (arith, length-drop 1 h.row, k.long)

    row_so : (i : ℕ) → i < 16 → get_or row i 0 ≡ get_or (padded t) (n + 1 + i) 0
    row_so i l =
        elim (dec_lt i 15) [
          | yes m ↦ let e : n + (1 + i) ≡ n + 1 + i = omega arith in
              get_or-append (drop 1 h.row) (octet ∷ []) 0 i (omega (arith, behind))
              ∙ get_or-drop 1 h.row i 0 ∙ k.its_row (1 + i) (omega arith) ∙ ap (λ j. get_or (padded t) j 0) e
          | no m ↦ let e : n + 1 + i - 16 ≡ n = omega arith in
              get_or_at (drop 1 h.row) octet [] 0 i (omega (arith, behind))
              ∙ sym (padded_at (n + 1 + i) (omega arith) ∙ ap (λ j. get_or t j 0) e)
        ]

    xy_so : (if eqb passed 16 then get_or row 0 0 else h.xy) ≡ last_xy t (n + 1)
    xy_so = go (eqb passed 16) refl
      where
        go : (b : Bool) → eqb passed 16 ≡ b → (if b then get_or row 0 0 else h.xy) ≡ last_xy t (n + 1)
        go true e =
            let p = eqb-true passed 16 e in
            let few = passed_few t (n + 1) in
            let z : n + 1 + 0 - 16 ≡ n - 15 = omega arith in
            let some : ltb 0 (read_in t (n + 1)) ≡ true = lt-ltb 0 (read_in t (n + 1)) (omega (arith, read_new n p)) in
            row_so 0 (omega arith) ∙ padded_at (n + 1 + 0) (omega arith) ∙ ap (λ j. get_or t j 0) z
            ∙ ap (λ j. get_or t j 0) (sym (last_start n p))
            ∙ sym (ap (λ b. if b then get_or t (get_or (starts_in t (n + 1)) (read_in t (n + 1) - 1) 0) 0 else 11) some)
        go false e =
            k.its_xy
            ∙ sym (ap (λ l. if ltb 0 (length l) then get_or t (get_or l (length l - 1) 0) 0 else 11) (starts_kept t n (eqb-false passed 16 e)))

    knows_more : Knows t (n + 1) (after_frame h octet)
    unfolding after_frame tallied
    knows_more =
        record {
          its_frames = ap (λ m. m + 1) k.its_frames;
          its_walk = walk_so;
          its_multiframes = ap (λ p. if eqb p 16 then h.multiframes + 1 else h.multiframes) passed_so ∙ multiframes_so;
          its_first = ap (λ p. if eqb h.first 0 && eqb p 1 then h.frames else h.first) passed_so ∙ first_so;
          its_losses = ap (λ p. if eqb h.passed 16 && eqb p 0 then h.losses + 1 else h.losses) passed_so ∙ losses_so;
          its_xy = ap (λ p. if eqb p 16 then get_or row 0 0 else h.xy) passed_so ∙ xy_so;
          long = omega (arith, length-append (drop 1 h.row) (octet ∷ []), behind);
          its_row = row_so;
        }

  -- What it tells

  module _ (n : ℕ) (h : Hearing) (k : Knows t n h) where
    passed_is : h.passed ≡ (walk t n).passed
    passed_is = ap (λ (w : Walk). w.passed) k.its_walk

    xy_is : xy_of h ≡ xy_in t n
    unfolding xy_in held_in
    xy_is =
        ap₂ (λ p x. if not (eqb p 0) then x else 11) passed_is k.its_xy
        ∙ go (not (eqb (walk t n).passed 0)) (ltb 0 (read_in t n))
      where
        go : (a b : Bool)
            → (let x = get_or t (get_or (starts_in t n) (read_in t n - 1) 0) 0 in
            (if a then (if b then x else 11) else 11) ≡ (if a && b then x else 11))
        go true true = refl
        go true false = refl
        go false b = refl

    read_is : is_read h ≡ ends t (n - 1)
    unfolding walk ends
    read_is = ap (λ p. eqb p 16) passed_is ∙ go n
      where
        go : (n : ℕ) → eqb (walk t n).passed 16 ≡ eqb (walk t (n - 1 + 1)).passed 16
        go zero = let z : (walk t 1).passed ≡ 0 = omega (arith, passed_few t 1) in sym (ap (λ p. eqb p 16) z)
        go (suc n) = let z : suc n ≡ suc n - 1 + 1 = omega arith in ap (λ n. eqb (walk t n).passed 16) z

    module _ (e : is_read h ≡ true) where
      whole : (walk t n).passed ≡ 16
      whole = sym passed_is ∙ eqb-true h.passed 16 e

      enough : 17 ≤ n
      enough = omega (arith, whole, passed_few t n)

      began_is : h.frames - 16 ≡ get_or (starts_in t n) (read_in t n - 1) 0
      began_is =
          let l = enough in
          let f = n - 1 in
          let z : f + 1 ≡ n = omega arith in
          let y : n - 16 ≡ f - 15 = omega arith in
          ap (λ m. m - 16) k.its_frames ∙ y
          ∙ sym (last_start f (ap (λ n. (walk t n).passed) z ∙ whole))
          ∙ ap (λ n. get_or (starts_in t n) (read_in t n - 1) 0) z

      row_at : (i : ℕ) → i < 16 → get_or h.row (0 + i) 0 ≡ get_or t (n - 16 + i) 0
      row_at i l =
          let m = enough in
          let z : n + i - 16 ≡ n - 16 + i = omega arith in
          ap (λ i. get_or h.row i 0) (zero-add i) ∙ k.its_row i l ∙ padded_at (n + i) (omega arith) ∙ ap (λ i. get_or t i 0) z

      channel_is : (c : ℕ) → c ≤ 30 → channel_of h c ≡ abcd_at t (n - 16) c
      channel_is c l = go (leb c 15) refl
        where
          go : (b : Bool) → leb c 15 ≡ b → channel_of h c ≡ abcd_at t (n - 16) c
          go true q = let m = leb-true c 15 q in rw q (ap (λ x. x / 16) (row_at c (omega arith)))
          go false q = let m = leb-false c 15 q in rw q (ap (λ x. x % 16) (row_at (c - 15) (omega arith)))

  -- All frames

  knows_on : (m n : ℕ) (h : Hearing) → Knows t n h → n + m ≡ length t → Knows t (length t) (after_row h (drop n t))
  unfolding after_row
  knows_on zero n h k e =
      let z : n ≡ length t = omega arith in
      subst (λ l. Knows t (length t) (after_row h l)) (sym (ap (λ n. drop n t) z ∙ drop-length t)) (subst (λ n. Knows t n h) z k)
  knows_on (suc m) n h k e =
      let z : suc n ≡ n + 1 = omega arith in
      subst (λ l. Knows t (length t) (after_row h l)) (sym (drop-cons t n 0 (omega arith) ∙ ap (λ j. get_or t n 0 ∷ drop j t) z))
      (knows_on m (n + 1) (after_frame h (get_or t n 0)) (knows_more n h k) (omega arith))

  -- The channels that are told

  abbrev abcd_of : List ℕ → List ℕ
  abcd_of starts = tab (30 * length starts) (λ i. abcd_at t (get_or starts (i / 30) 0) (i % 30 + 1))

  abcd_more : (l : List ℕ) (a : ℕ) → abcd_of (l ++ a ∷ []) ≡ abcd_of l ++ tab 30 (λ i. abcd_at t a (i + 1))
  abcd_more l a =
      let n = length l in
      let f : List ℕ → ℕ → ℕ = λ l i. abcd_at t (get_or l (i / 30) 0) (i % 30 + 1) in
      let m = l ++ a ∷ [] in
      let e : 30 * length m ≡ 30 * n + 30 = omega (arith, length-append l (a ∷ [])) in
      ap (λ k. tab k (f m)) e ∙ tab_split (30 * n) 30 (f m)
      ∙ ap₂ (λ x y. x ++ y)
      (tab_agree (30 * n) (f m) (f l)
      (λ i h. ap (λ s. abcd_at t s (i % 30 + 1)) (get_or-append l (a ∷ []) 0 (i / 30) (omega arith))))
      (tab_agree 30 (λ i. f m (30 * n + i)) (λ i. abcd_at t a (i + 1))
      (λ i h.
      let q : (30 * n + i) / 30 ≡ n = omega arith in
      let r : (30 * n + i) % 30 ≡ i = omega arith in
      ap₂ (λ q r. abcd_at t (get_or m q 0) (r + 1)) q r ∙ ap (λ s. abcd_at t s (i + 1)) (get_or_at l a [] 0 n refl)))

  told_more : (n : ℕ) (h : Hearing) → Knows t (n + 1) h → abcd_in t n ++ told h ≡ abcd_in t (n + 1)
  unfolding abcd_in told
  told_more n h k = go (is_read h) refl
    where
      go : (b : Bool) → is_read h ≡ b → abcd_of (starts_in t n) ++ (if b then tab 30 (λ i. channel_of h (i + 1)) else []) ≡ abcd_of (starts_in t (n + 1))
      go true e =
          let z : n + 1 - 16 ≡ n - 15 = omega arith in
          ap (λ l. abcd_of (starts_in t n) ++ l)
          (tab_agree 30 (λ i. channel_of h (i + 1)) (λ i. abcd_at t (n - 15) (i + 1))
          (λ i l. channel_is (n + 1) h k e (i + 1) (omega arith) ∙ ap (λ a. abcd_at t a (i + 1)) z))
          ∙ sym (abcd_more (starts_in t n) (n - 15))
          ∙ ap abcd_of (sym (starts_new t n (whole (n + 1) h k e)))
      go false e =
          append-nil (abcd_of (starts_in t n))
          ∙ ap abcd_of (sym (starts_kept t n (λ q. eqb-false h.passed 16 e (passed_is (n + 1) h k ∙ q))))

  told_on : (m n : ℕ) (h : Hearing) → Knows t n h → n + m ≡ length t → abcd_in t n ++ told_along h (drop n t) ≡ abcd_in t (length t)
  unfolding told_along
  told_on zero n h k e =
      let z : n ≡ length t = omega arith in
      ap (λ l. abcd_in t n ++ told_along h l) (ap (λ n. drop n t) z ∙ drop-length t) ∙ append-nil (abcd_in t n) ∙ ap (abcd_in t) z
  told_on (suc m) n h k e =
      let z : suc n ≡ n + 1 = omega arith in
      let g = after_frame h (get_or t n 0) in
      let l = knows_more n h k in
      ap (λ l. abcd_in t n ++ told_along h l) (drop-cons t n 0 (omega arith) ∙ ap (λ j. get_or t n 0 ∷ drop j t) z)
      ∙ sym (append_assoc (abcd_in t n) (told g) (told_along g (drop (n + 1) t)))
      ∙ ap (λ x. x ++ told_along g (drop (n + 1) t)) (told_more n g l)
      ∙ told_on m (n + 1) g l (omega arith)

pub hears_all : (t : List ℕ) → Hears t (hearing_of t)
unfolding held_in
hears_all t =
    let n = length t in
    let h = hearing_of t in
    let k = knows_on t n 0 nothing (knows_nothing t) (zero-add n) in
    record {
      frames = k.its_frames;
      walked = k.its_walk;
      multiframes = k.its_multiframes;
      first = k.its_first;
      losses = k.its_losses;
      held = ap (λ p. not (eqb p 0)) (passed_is t n h k);
      xy = xy_is t n h k;
      read = read_is t n h k;
      began = began_is t n h k;
      channel = λ e c a b. channel_is t n h k e c b;
    }

pub told_all : (t : List ℕ) → told_along nothing t ≡ abcd_in t (length t)
unfolding abcd_in starts_in tab_from
told_all t = told_on t (length t) 0 nothing (knows_nothing t) (zero-add (length t))

-- A row may be heard in pieces

pub heard_on : (h : Hearing) (t u : List ℕ) → after_row h (t ++ u) ≡ after_row (after_row h t) u
unfolding after_row
heard_on h [] u = refl
heard_on h (octet ∷ t) u = heard_on (after_frame h octet) t u

pub told_joined : (h : Hearing) (t u : List ℕ) → told_along h (t ++ u) ≡ told_along h t ++ told_along (after_row h t) u
unfolding after_row told_along
told_joined h [] u = refl
told_joined h (octet ∷ t) u =
    let g = after_frame h octet in
    ap (λ l. told g ++ l) (told_joined g t u) ∙ sym (append_assoc (told g) (told_along g t) (told_along (after_row g t) u))
