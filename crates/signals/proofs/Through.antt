-- The octets of slot 16 as one pass goes through them.
use Prim.Native.Nat.{ℕ, suc, ◌+◌, ◌-◌, ◌*◌, ◌≤◌, ◌<◌}
use mathlib.Core.Path.{◌≡◌, refl, sym, ap, ap₂, ◌∙◌}
use mathlib.Core.Bool.{Bool, true, false, ◌&&◌, not, true≢false}
use mathlib.Core.List.{List, [], ◌∷◌, ◌++◌}
use mathlib.Core.Logic.{◌⊎◌, inl, inr}
use native.Mathlib.Omega.{arith}
use borrow.Author.Tests.{ne_eqb, eqb-true, eqb-false}
use lib.Dec.{eqb, lit≤}
use lib.ListN.{length, set, replicate, length-append}
use lib.Seq.{set_at, append_snoc}
use mir.Val.{bool_byte}
use Rattle.base.specs.Tab.{sum, first}
use Rattle.signals.specs.Signalling.{signal_at, aligns, Walk, searching, begun, walk, starts_in, read_in, first_in, losses_in, held_in}
use Rattle.signals.specs.Follow.{begins, starts_of, followed}
use Rattle.signals.proofs.Laws.{between, next_begun, next_searching, inside, whole_passed, first_set, first_unset, first_kept, unset_searching}
use Rattle.signals.proofs.Starts.{starts_kept, losses_more, losses_kept, starts_inside, losses_inside, starts_whole, losses_whole}

-- what is known before frame f, where alignment is held or searched for
pub record Through (t : List ℕ) (multiframes : ℕ) (starts : List ℕ) (first losses : ℕ) (held wrong : Bool) (f : ℕ) : Type 0 where
  pub its_walk : walk t f ≡ between held wrong
  pub its_read : multiframes ≡ read_in t f
  pub its_starts : starts ≡ starts_of t f
  pub its_first : first ≡ first_in t f
  pub its_losses : losses ≡ losses_in t f
  pub few : 16 * multiframes ≤ f
  pub few_losses : losses ≤ f

pub none_through : (t : List ℕ) → Through t 0 (replicate 16 0) 0 0 false false 0
unfolding walk starts_in first_in losses_in sum first
none_through t =
    record { its_walk = refl; its_read = refl; its_starts = refl; its_first = refl; its_losses = refl; few = lit≤ tt; few_losses = lit≤ tt }

-- a start more
start_set : (l : List ℕ) (n f : ℕ) → n ≡ length l → n < 16
    → set (l ++ replicate (16 - length l) 0) n f ≡ (l ++ f ∷ []) ++ replicate (16 - (length l + 1)) 0
start_set l n f e h =
    let k : 16 - length l ≡ suc (16 - (length l + 1)) = omega arith in
    ap (λ k. set (l ++ replicate k 0) n f) k
    ∙ set_at l 0 (replicate (16 - (length l + 1)) 0) f n (sym e)
    ∙ sym (append_snoc l f (replicate (16 - (length l + 1)) 0))

held_16 : (held wrong : Bool) → between held wrong ≡ searching → held ≡ false
held_16 true wrong e = let z : ◌≡◌ {A = ℕ} 16 0 = ap (λ (w : Walk). w.passed) e in absurd (omega arith)
held_16 false wrong e = refl

module _ {t : List ℕ} {multiframes : ℕ} {starts : List ℕ} {first losses : ℕ} {held wrong : Bool} {f : ℕ}
    (p : Through t multiframes starts first losses held wrong f) where
  -- while none was taken, one begins where alignment can be taken
  unset_begins : first_in t f ≡ 0 → begins t f held wrong ≡ aligns t f
  unfolding begins
  unset_begins z = ap (λ h. begins t f h wrong) (held_16 held wrong (sym p.its_walk ∙ unset_searching t f z))

  -- the first alignment, with frame f
  pub first_now : (b : Bool) → begins t f held wrong ≡ b → (first' : ℕ)
      → ((b && eqb first 0 ≡ true) × (first' ≡ f)) ⊎ ((b && eqb first 0 ≡ false) × (first' ≡ first))
      → first' ≡ first_in t (f + 1)
  first_now true e first' (inl (z, k)) =
      let y = sym p.its_first ∙ eqb-true first 0 z in
      k ∙ sym (first_set t f y (sym (unset_begins y) ∙ e))
  first_now true e first' (inr (z, k)) =
      k ∙ p.its_first ∙ sym (first_kept t f (f + 1) (λ y. eqb-false first 0 z (p.its_first ∙ y)) (omega arith))
  first_now false e first' (inl (z, k)) = absurd (true≢false (sym z))
  first_now false e first' (inr (z, k)) = k ∙ p.its_first ∙ go (eqb (first_in t f) 0) refl
    where
      go : (b : Bool) → eqb (first_in t f) 0 ≡ b → first_in t f ≡ first_in t (f + 1)
      go true q =
          let y = eqb-true (first_in t f) 0 q in
          y ∙ sym (first_unset t f y (sym (unset_begins y) ∙ e))
      go false q = sym (first_kept t f (f + 1) (eqb-false (first_in t f) 0 q) (omega arith))

  -- a signalling multiframe begins with frame f
  module _ (b : begins t f held wrong ≡ true) where
    begun_here : walk t (f + 1) ≡ begun t f
    begun_here = next_begun t f held wrong p.its_walk b

    first_stays : (n : ℕ) → f + 1 ≤ n → first_in t n ≡ first_in t (f + 1)
    first_stays n l =
        first_kept t (f + 1) n
        (λ z. let k : ◌≡◌ {A = ℕ} 1 0 = ap (λ (w : Walk). w.passed) (sym begun_here ∙ unset_searching t (f + 1) z) in omega arith) l

    -- and is whole
    pub through_more : {first' : ℕ} → first' ≡ first_in t (f + 1) → f + 16 ≤ 256
        → Through t (multiframes + 1) (set starts multiframes f) first' losses true (not (signal_at t f)) (f + 16)
    through_more e l =
        let s = starts_whole t f begun_here in
        let n : read_in t (f + 16) ≡ read_in t f + 1 = ap length s ∙ length-append (starts_in t f) (f ∷ []) in
        record {
          its_walk = whole_passed t f begun_here;
          its_read = ap (λ m. m + 1) p.its_read ∙ sym n;
          its_starts = ap (λ l. set l multiframes f) p.its_starts
              ∙ start_set (starts_in t f) multiframes f p.its_read (omega (arith, p.few))
              ∙ ap₂ (λ l m. l ++ replicate (16 - m) 0) (sym s) (sym n);
          its_first = e ∙ sym (first_stays (f + 16) (omega arith));
          its_losses = p.its_losses ∙ sym (losses_whole t f begun_here);
          few = omega (arith, p.few);
          few_losses = omega (arith, p.few_losses);
        }

    -- or is cut short by the end
    pub through_cut : {first' : ℕ} → first' ≡ first_in t (f + 1) → f < length t → length t < f + 16
        → record { multiframes = multiframes; starts = starts; first = first'; losses = losses; held = true } ≡ followed t
    unfolding followed held_in
    through_cut {first'} e l h =
        let n = length t in
        let k = n - (f + 1) in
        let z : f + 1 + k ≡ n = omega arith in
        let s : starts_in t n ≡ starts_in t f = ap (starts_in t) (sym z) ∙ starts_inside t f begun_here k (omega arith) in
        let w : (walk t n).passed ≡ k + 1 = ap (λ n. (walk t n).passed) (sym z) ∙ ap (λ (w : Walk). w.passed) (inside t f begun_here k (omega arith)) in
        let i₁ : multiframes ≡ read_in t n = p.its_read ∙ ap length (sym s) in
        let i₂ : starts ≡ starts_of t n = p.its_starts ∙ ap (λ l. l ++ replicate (16 - length l) 0) (sym s) in
        let i₃ : first' ≡ first_in t n = e ∙ sym (first_stays n (omega arith)) in
        let i₄ : losses ≡ losses_in t n = p.its_losses ∙ sym (losses_inside t f begun_here k (omega arith)) ∙ ap (losses_in t) z in
        let i₅ : true ≡ not (eqb (walk t n).passed 0) = sym (ap not (ne_eqb (walk t n).passed 0 (λ q. omega arith))) in
        λ i. record { multiframes = i₁ i; starts = i₂ i; first = i₃ i; losses = i₄ i; held = i₅ i }

  -- none begins with it
  pub through_lost : begins t f held wrong ≡ false → {first' : ℕ} → first' ≡ first_in t (f + 1)
      → Through t multiframes starts first' (losses + bool_byte held) false wrong (f + 1)
  through_lost b e =
      let w = next_searching t f held wrong p.its_walk b in
      let s = starts_kept t f (λ q. omega (arith, ap (λ (w : Walk). w.passed) w)) in
      record {
        its_walk = w;
        its_read = p.its_read ∙ ap length (sym s);
        its_starts = p.its_starts ∙ ap (λ l. l ++ replicate (16 - length l) 0) (sym s);
        its_first = e;
        its_losses = ap (λ l. l + bool_byte held) p.its_losses ∙ go held p.its_walk w;
        few = omega (arith, p.few);
        few_losses = at held;
      }
    where
      go : (h : Bool) → walk t f ≡ between h wrong → walk t (f + 1) ≡ searching → losses_in t f + bool_byte h ≡ losses_in t (f + 1)
      go true a w = sym (losses_more t f (ap (λ (w : Walk). w.passed) a) (ap (λ (w : Walk). w.passed) w))
      go false a w =
          let k = losses_kept t f (λ q r. omega (arith, ap (λ (w : Walk). w.passed) a)) in
          omega arith

      at : (h : Bool) → losses + bool_byte h ≤ f + 1
      at true = omega (arith, p.few_losses)
      at false = omega (arith, p.few_losses)

  -- all frames
  pub through_all : f ≡ length t
      → record { multiframes = multiframes; starts = starts; first = first; losses = losses; held = held } ≡ followed t
  unfolding followed held_in
  through_all e =
      let i₁ : multiframes ≡ read_in t (length t) = p.its_read ∙ ap (read_in t) e in
      let i₂ : starts ≡ starts_of t (length t) = p.its_starts ∙ ap (starts_of t) e in
      let i₃ : first ≡ first_in t (length t) = p.its_first ∙ ap (first_in t) e in
      let i₄ : losses ≡ losses_in t (length t) = p.its_losses ∙ ap (losses_in t) e in
      let i₅ : held ≡ not (eqb (walk t (length t)).passed 0) =
      go held ∙ ap (λ w. not (eqb w.passed 0)) (sym p.its_walk) ∙ ap (λ f. not (eqb (walk t f).passed 0)) e in
      λ i. record { multiframes = i₁ i; starts = i₂ i; first = i₃ i; losses = i₄ i; held = i₅ i }
    where
      go : (h : Bool) → h ≡ not (eqb (between h wrong).passed 0)
      go true = refl
      go false = refl
