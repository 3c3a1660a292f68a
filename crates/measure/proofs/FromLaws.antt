-- The laws of the loss among the frames of multiframes h to m - 1 alone.
use Rattle.std.specs.Prelude.{if◌then◌else◌}
use Prim.Native.Nat.{ℕ, zero, suc, ◌+◌, ◌-◌, ◌*◌, ◌≤◌, ◌<◌}
use mathlib.Core.Path.{◌≡◌, refl, sym, ap, ap₂, ◌∙◌}
use mathlib.Core.Bool.{Bool, true, false, ◌&&◌, not, and-eq-true_iff}
use mathlib.Core.List.{List}
use mathlib.Core.Logic.{◌⊎◌, inl, inr, ⊎_elim}
use Rattle.std.specs.Prelude.{Option, None, Some}
use Rattle.base.proofs.OptionLaws.{none-ne-some, some-ne-none}
use native.Mathlib.Nat.{add-zero, zero-add, add-suc}
use native.Mathlib.Omega.{arith}
use borrow.Author.Tests.{leb-true, leb-false, le-leb, lt-leb}
use lib.Dec.{eqb, leb}
use Rattle.base.specs.Choice.{or_else, when_so}
use Rattle.base.specs.Tab.{first}
use Rattle.base.proofs.TabLaws.{some_first, first_less, none_first, first_some, when_so_some}
use Rattle.line.specs.Bit.{bit_at}
use Rattle.e1.specs.Frame.{frame_at, wrong_bits}
use Rattle.measure.specs.Reading.{wrong_bits_of, wrong, wrong_bit2, third, word_loss, bit2_loss, earlier, loss, loss_from, used_of}
use Rattle.measure.proofs.Runs.{loss_in}

-- Searches in parts

pub first_ext : {A : Type 0} (n : ℕ) (f g : ℕ → Option A) → ((i : ℕ) → i < n → f i ≡ g i) → first n f ≡ first n g
unfolding first
first_ext zero f g h = refl
first_ext (suc n) f g h = ap₂ or_else (first_ext n f g (λ i l. h i (omega arith))) (h n (omega arith))

-- where none of the first a has any
first_split : {A : Type 0} (a b : ℕ) (f : ℕ → Option A) → first a f ≡ None → first (a + b) f ≡ first b (λ i. f (a + i))
unfolding first
first_split a zero f e = ap (λ n. first n f) (add-zero a) ∙ e
first_split a (suc b) f e = ap (λ n. first n f) (add-suc a b) ∙ ap (λ o. or_else o (f (a + b))) (first_split a b f e)

-- The earlier of two, by what is known of the other

pub earlier_first : (f : ℕ) (o : Option ℕ) → ((g : ℕ) → o ≡ Some g → f ≤ g) → earlier (Some f) o ≡ Some f
earlier_first f None h = refl
earlier_first f (Some g) h = ap (λ b. Some (if b then f else g)) (le-leb f g (h g refl))

pub earlier_second : (o : Option ℕ) (g : ℕ) → ((f : ℕ) → o ≡ Some f → g < f) → earlier o (Some g) ≡ Some g
earlier_second None g h = refl
earlier_second (Some f) g h = ap (λ b. Some (if b then f else g)) (lt-leb f g (h f refl))

earlier_none : (x y : Option ℕ) → earlier x y ≡ None → (x ≡ None) × (y ≡ None)
earlier_none None y e = (refl, e)
earlier_none (Some f) None e = absurd (some-ne-none _ e)
earlier_none (Some f) (Some g) e = absurd (some-ne-none _ e)

earlier_some : (x y : Option ℕ) (f : ℕ) → earlier x y ≡ Some f → (x ≡ Some f) ⊎ (y ≡ Some f)
earlier_some None y f e = inr e
earlier_some (Some g) None f e = inl e
earlier_some (Some g) (Some h) f e = go (leb g h) e
  where
    go : (b : Bool) → Some (if b then g else h) ≡ Some f → (Some g ≡ Some f) ⊎ (Some h ≡ Some f)
    go true k = inl k
    go false k = inr k

-- The loss by one rule, among the n from c on

module _ (t : ℕ → Bool) (frame : ℕ → ℕ) (c : ℕ) where
  -- where none of the first a is lost
  in_on : (a : ℕ) → loss_in t frame c a ≡ None → (n : ℕ) → loss_in t frame c n ≡ loss_in t frame (c + a) (n - a)
  unfolding first
  in_on a e n = go (leb a n) refl
    where
      at : ℕ → Option ℕ
      at i = when_so (third t i) (frame i)

      go : (b : Bool) → leb a n ≡ b → loss_in t frame c n ≡ loss_in t frame (c + a) (n - a)
      go true k =
          let l = leb-true a n k in
          let z : n ≡ a + (n - a) = omega arith in
          ap (loss_in t frame c) z
          ∙ first_split a (n - a) (λ i. at (c + i)) e
          ∙ first_ext (n - a) (λ i. at (c + (a + i))) (λ i. at (c + a + i))
          (λ i l. let w : c + (a + i) ≡ c + a + i = omega arith in ap at w)
      go false k =
          let l = leb-false a n k in
          let z : n - a ≡ 0 = omega arith in
          first_less n a (λ i. at (c + i)) (omega arith) e ∙ sym (ap (loss_in t frame (c + a)) z)

  -- where it is
  in_at : (n f : ℕ) → loss_in t frame c n ≡ Some f → (j : ℕ) × (c ≤ j) × (j < c + n) × (2 ≤ j) × (f ≡ frame j)
  unfolding third
  in_at n f e =
      let w = first_some n (λ i. when_so (third t (c + i)) (frame (c + i))) f e in
      let j = c + w.0 in
      let r = when_so_some (third t j) (frame j) f w.2 in
      let x = (and-eq-true_iff (leb 2 j) (t (j - 2) && (t (j - 1) && t j))).0 r.0 in
      (j, omega arith, omega (arith, w.1), leb-true 2 j x.0, sym r.1)

module _ (t : ℕ → Bool) (frame : ℕ → ℕ) (c : ℕ) where
  -- past those without one
  in_past : (a : ℕ) → loss_in t frame c a ≡ None → (n f : ℕ) → loss_in t frame c n ≡ Some f → (j : ℕ) × (c + a ≤ j) × (f ≡ frame j)
  in_past a e n f k =
      let w = in_at t frame (c + a) (n - a) f (sym (in_on t frame c a e n) ∙ k) in
      (w.0, w.1, w.4)

  -- it stays, of more
  in_more : (n m f : ℕ) → n ≤ m → loss_in t frame c n ≡ Some f → loss_in t frame c m ≡ Some f
  in_more n m f l e =
      let at : ℕ → Option ℕ = λ i. when_so (third t (c + i)) (frame (c + i)) in
      let w = first_some n at f e in
      some_first m w.0 at f (omega (arith, w.1)) (none_first w.0 at w.3) w.2

-- Words and bits 2, j multiframes later

pub wrong_bits_later : (s : List ℕ) (q j i : ℕ) → wrong_bits_of s q (8 * j + i) ≡ wrong_bits_of s (q + 4096 * j) i
wrong_bits_later s q j i =
    let p : frame_at q (2 * (8 * j + i)) ≡ frame_at (q + 4096 * j) (2 * i) = omega arith in ap (wrong_bits s) p

pub wrong_later : (s : List ℕ) (q j i : ℕ) → wrong s q (8 * j + i) ≡ wrong s (q + 4096 * j) i
unfolding wrong
wrong_later s q j i = ap (λ x. not (eqb x 0)) (wrong_bits_later s q j i)

pub bit2_later : (s : List ℕ) (q j i : ℕ) → wrong_bit2 s q (8 * j + i) ≡ wrong_bit2 s (q + 4096 * j) i
unfolding wrong_bit2
bit2_later s q j i =
    let p : frame_at q (2 * (8 * j + i) + 1) + 1 ≡ frame_at (q + 4096 * j) (2 * i + 1) + 1 = omega arith in
    ap (λ x. eqb (bit_at s x) 0) p

-- The loss

module _ (s : List ℕ) (q : ℕ) where
  -- from the first multiframe on
  pub from_first : (m : ℕ) → loss_from s q 0 m ≡ loss s q m
  unfolding loss_from loss word_loss bit2_loss
  from_first m = ap₂ earlier (all (wrong s q) (λ i. 2 * i)) (all (wrong_bit2 s q) (λ i. 2 * i + 1))
    where
      all : (t : ℕ → Bool) (frame : ℕ → ℕ) → loss_in t frame (8 * 0) (8 * (m - 0)) ≡ first (8 * m) (λ i. when_so (third t i) (frame i))
      all t frame =
          let z : 8 * (m - 0) ≡ 8 * m = omega arith in
          ap (loss_in t frame (8 * 0)) z
          ∙ first_ext (8 * m) (λ i. when_so (third t (8 * 0 + i)) (frame (8 * 0 + i))) (λ i. when_so (third t i) (frame i))
          (λ i l. ap (λ k. when_so (third t k) (frame k)) (zero-add i))

  -- where none is in multiframes h to k - 1
  pub from_on : (h k m : ℕ) → h ≤ k → loss_from s q h k ≡ None → loss_from s q h m ≡ loss_from s q k m
  unfolding loss_from
  from_on h k m l e =
      let w = earlier_none (loss_in (wrong s q) (λ i. 2 * i) (8 * h) (8 * (k - h))) _ e in
      ap₂ earlier (on (wrong s q) (λ i. 2 * i) w.0) (on (wrong_bit2 s q) (λ i. 2 * i + 1) w.1)
    where
      on : (t : ℕ → Bool) (frame : ℕ → ℕ) → loss_in t frame (8 * h) (8 * (k - h)) ≡ None
          → loss_in t frame (8 * h) (8 * (m - h)) ≡ loss_in t frame (8 * k) (8 * (m - k))
      on t frame r =
          let x : 8 * h + 8 * (k - h) ≡ 8 * k = omega arith in
          let y : 8 * (m - h) - 8 * (k - h) ≡ 8 * (m - k) = omega arith in
          in_on t frame (8 * h) (8 * (k - h)) r (8 * (m - h)) ∙ ap₂ (loss_in t frame) x y

  -- where none is before multiframe h
  pub from_none : (h m : ℕ) → loss s q h ≡ None → loss_from s q h m ≡ loss s q m
  from_none h m e = sym (from_on 0 h m (omega arith) (from_first h ∙ e)) ∙ from_first m

  module _ (h m f : ℕ) (e : loss_from s q h m ≡ Some f) where
    from_where : (4 ≤ f) × (16 * h ≤ f) × (f < 16 * m)
    unfolding loss_from
    from_where =
        let n = 8 * (m - h) in
        ⊎_elim
        (λ k. let w = in_at (wrong s q) (λ i. 2 * i) (8 * h) n f k in (omega arith, omega arith, omega arith))
        (λ k. let w = in_at (wrong_bit2 s q) (λ i. 2 * i + 1) (8 * h) n f k in (omega arith, omega arith, omega arith))
        (earlier_some (loss_in (wrong s q) (λ i. 2 * i) (8 * h) n) (loss_in (wrong_bit2 s q) (λ i. 2 * i + 1) (8 * h) n) f e)

    -- it is at frame 4 or later, in one of the multiframes
    pub from_late : 4 ≤ f
    from_late = from_where.0

    pub from_among : (16 * h ≤ f) × (f < 16 * m)
    from_among = (from_where.1, from_where.2)

    -- and stays where it is, of more of them
    pub from_more : (n : ℕ) → m ≤ n → loss_from s q h n ≡ Some f
    unfolding loss_from
    from_more n l = go (words m) (bits2 m) refl refl e
      where
        words : ℕ → Option ℕ
        words m = loss_in (wrong s q) (λ i. 2 * i) (8 * h) (8 * (m - h))

        bits2 : ℕ → Option ℕ
        bits2 m = loss_in (wrong_bit2 s q) (λ i. 2 * i + 1) (8 * h) (8 * (m - h))

        words_more : (x : ℕ) → words m ≡ Some x → words n ≡ Some x
        words_more x = in_more (wrong s q) (λ i. 2 * i) (8 * h) (8 * (m - h)) (8 * (n - h)) x (omega arith)

        bits2_more : (x : ℕ) → bits2 m ≡ Some x → bits2 n ≡ Some x
        bits2_more x = in_more (wrong_bit2 s q) (λ i. 2 * i + 1) (8 * h) (8 * (m - h)) (8 * (n - h)) x (omega arith)

        go : (x y : Option ℕ) → words m ≡ x → bits2 m ≡ y → earlier x y ≡ Some f → earlier (words n) (bits2 n) ≡ Some f
        go None None i j k = absurd (none-ne-some f k)
        go (Some x) (Some y) i j k = ap₂ earlier (words_more x i) (bits2_more y j) ∙ k
        go (Some x) None i j k =
            let w = in_at (wrong s q) (λ i. 2 * i) (8 * h) (8 * (m - h)) x i in
            ap (λ o. earlier o (bits2 n)) (words_more x i)
            ∙ earlier_first x (bits2 n) (λ g r.
            let v = in_past (wrong_bit2 s q) (λ i. 2 * i + 1) (8 * h) (8 * (m - h)) j (8 * (n - h)) g r in omega arith)
            ∙ k
        go None (Some y) i j k =
            let w = in_at (wrong_bit2 s q) (λ i. 2 * i + 1) (8 * h) (8 * (m - h)) y j in
            ap (earlier (words n)) (bits2_more y j)
            ∙ earlier_second (words n) y (λ g r.
            let v = in_past (wrong s q) (λ i. 2 * i) (8 * h) (8 * (m - h)) i (8 * (n - h)) g r in omega arith)
            ∙ k

  -- the multiframes that are used: m of them at most, and those before h
  pub used_upto : (h m : ℕ) → used_of (loss_from s q h m) m ≤ m
  used_upto h m = go (loss_from s q h m) refl
    where
      go : (o : Option ℕ) → loss_from s q h m ≡ o → used_of o m ≤ m
      go None e = omega arith
      go (Some f) e = let w = from_among h m f e in omega arith

  pub used_from_lem : (h m : ℕ) → h ≤ m → h ≤ used_of (loss_from s q h m) m
  used_from_lem h m l = go (loss_from s q h m) refl
    where
      go : (o : Option ℕ) → loss_from s q h m ≡ o → h ≤ used_of o m
      go None e = l
      go (Some f) e = let w = from_among h m f e in omega arith
