-- A list that is written from the front on, part after part or octet after octet.
use Prim.Native.Nat.{ℕ, suc, ◌+◌, ◌-◌, ◌≤◌, ◌<◌}
use mathlib.Core.Path.{◌≡◌, sym, ap, ap₂, ◌∙◌}
use mathlib.Core.List.{List, [], ◌∷◌, ◌++◌, append_assoc}
use native.Mathlib.Omega.{arith}
use native.Mathlib.Numerals.{add-one}
use lib.ListN.{length, get_or, take, drop, set, length-append, length-take, length-drop, take-append-drop}
use lib.Seq.{length-take-le, take_at, take_all, take-take, take-suc, take-suc-set, set_at, drop-cons, drop-drop, get_or-take, get_or-drop}
use borrow.Rule.Slice.PartMut.{put_mid, post_of, Post-is, mid_len, drop_put}
use Rattle.base.specs.Tab.{tab}
use Rattle.base.proofs.TabLaws.{length_tab, tab_split, tab_more, tab_fill, fill_more, tab_of, tab_agree}

-- the part from a to e is put back as ys: the list up to e
pub take_put_more : (a e : ℕ) (xs ys w : List ℕ) → a ≤ e → e ≤ length xs → length ys ≡ e - a → take a xs ≡ w
    → take e (put_mid a (e - a) xs ys) ≡ w ++ ys
take_put_more a e xs ys w h g l q =
    ap (take e) (sym (append_assoc (take a xs) ys (post_of a (e - a) xs)))
    ∙ take_at (take a xs ++ ys) (post_of a (e - a) xs) e (omega (arith, length-append (take a xs) ys, length-take a xs))
    ∙ ap (λ z. z ++ ys) q

-- the length of a part
pub part_length : (a e : ℕ) (xs : List ℕ) → e ≤ length xs → length (take (e - a) (drop a xs)) ≡ e - a
part_length a e xs h = mid_len a e xs h

-- a copy of xs into ys, one octet more
pub copy_more : (ys xs : List ℕ) (i : ℕ) → i < length ys → i < length xs → take i ys ≡ take i xs
    → take (i + 1) (set ys i (get_or xs i 0)) ≡ take (i + 1) xs
copy_more ys xs i h l e = rw (add-one, take-suc-set ys i (get_or xs i 0) h, e) (sym (take-suc xs i 0 l))

-- and the whole of it
pub copy_done : (ys xs : List ℕ) (i : ℕ) → length ys ≤ i → length xs ≤ i → take i ys ≡ take i xs → ys ≡ xs
copy_done ys xs i h l e = sym (take_all i ys h) ∙ e ∙ take_all i xs l

-- a table written octet after octet, one more
pub octet_more : (xs : List ℕ) (j v : ℕ) (f : ℕ → ℕ) → j < length xs → v ≡ f j → take j xs ≡ tab j f
    → take (j + 1) (set xs j v) ≡ tab (j + 1) f
octet_more xs j v f h e t = ap (λ x. take (j + 1) (set xs j x)) e ∙ fill_more xs j f h t

-- all of them
pub octets_full : (xs : List ℕ) (j n : ℕ) (f : ℕ → ℕ) → j ≡ n → length xs ≤ n → take j xs ≡ tab j f → xs ≡ tab n f
octets_full xs j n f e l t = tab_fill xs n f l (rw e at t)

-- fewer of them
take_fewer : (xs : List ℕ) (f : ℕ → ℕ) (a c : ℕ) → a ≤ c → take c xs ≡ tab c f → take a xs ≡ tab a f
take_fewer xs f a c l t =
    let e : a + (c - a) ≡ c = omega arith in
    sym (take-take a c xs l)
    ∙ ap (take a) (t ∙ ap (λ x. tab x f) (sym e) ∙ tab_split a (c - a) f)
    ∙ take_at (tab a f) (tab (c - a) (λ i. f (a + i))) a (length_tab a f)

-- As a table says: the part from a to e is put back as ys.
module _ (f : ℕ → ℕ) (a e : ℕ) (xs ys : List ℕ) (h : a ≤ e) (fits : e ≤ length xs) (y : ys ≡ tab (e - a) (λ i. f (a + i))) where
  long : length ys ≡ e - a
  long = ap length y ∙ length_tab (e - a) (λ i. f (a + i))

  pub part_more : take a xs ≡ tab a f → take e (put_mid a (e - a) xs ys) ≡ tab e f
  part_more t =
      let z : a + (e - a) ≡ e = omega arith in
      take_put_more a e xs ys (tab a f) h fits long t ∙ ap (λ l. tab a f ++ l) y ∙ sym (tab_split a (e - a) f)
      ∙ ap (λ n. tab n f) z

  pub part_rest : (xs₀ : List ℕ) → drop a xs ≡ drop a xs₀ → drop e (put_mid a (e - a) xs ys) ≡ drop e xs₀
  part_rest xs₀ t =
      let z : a + (e - a) ≡ e = omega arith in
      drop_put a e xs ys h fits long ∙ ap (λ n. drop n xs) (sym z) ∙ sym (drop-drop (e - a) a xs) ∙ ap (drop (e - a)) t
      ∙ drop-drop (e - a) a xs₀ ∙ ap (λ n. drop n xs₀) z

  -- the table is that of the list elsewhere
  pub part_put : ((k : ℕ) → k < a → f k ≡ get_or xs k 0) → ((k : ℕ) → e ≤ k → f k ≡ get_or xs k 0)
      → put_mid a (e - a) xs ys ≡ tab (length xs) f
  part_put before after =
      let m = length xs - e in
      let n : a + (e - a + m) ≡ length xs = omega arith in
      let first : tab a f ≡ take a xs
      = tab_of a f (take a xs) (length-take-le a xs (omega arith)) (λ k l. before k l ∙ sym (get_or-take a xs k 0 l)) in
      let last : tab m (λ i. f (a + (e - a + i))) ≡ drop e xs
      = tab_of m (λ i. f (a + (e - a + i))) (drop e xs) (length-drop e xs)
      (λ i l. let z : a + (e - a + i) ≡ e + i = omega arith in
      ap f z ∙ after (e + i) (omega arith) ∙ sym (get_or-drop e xs i 0)) in
      sym (ap (λ x. tab x f) (sym n) ∙ tab_split a (e - a + m) f
      ∙ ap₂ (λ u v. u ++ v) first
      (tab_split (e - a) m (λ i. f (a + i)) ∙ ap₂ (λ u v. u ++ v) (sym y) (last ∙ sym (Post-is a e xs h))))

-- n values from a on are put back as ys, where those before c stand, some of which may be the same
pub part_over : (f g : ℕ → ℕ) (a c n e : ℕ) (xs ys : List ℕ) → a ≤ c → e ≡ a + n → e ≤ length xs → ys ≡ tab n g
    → ((j : ℕ) → j < n → g j ≡ f (a + j)) → take c xs ≡ tab c f → take e (put_mid a (a + n - a) xs ys) ≡ tab e f
part_over f g a c n e xs ys l p fits y same t =
    let m : n ≡ a + n - a = omega arith in
    ap (λ x. take x (put_mid a (a + n - a) xs ys)) p
    ∙ part_more f a (a + n) xs ys (omega arith) (omega arith)
    (y ∙ tab_agree n g (λ j. f (a + j)) same ∙ ap (λ x. tab x (λ j. f (a + j))) m) (take_fewer xs f a c l t)
    ∙ ap (λ x. tab x f) (sym p)

-- what is filled, and the rest as it was
pub parts_kept : (f : ℕ → ℕ) (n m : ℕ) (xs xs₀ : List ℕ) → m ≡ n → take m xs ≡ tab m f → drop m xs ≡ drop m xs₀
    → xs ≡ tab n f ++ drop n xs₀
parts_kept f n m xs xs₀ e t d =
    sym (take-append-drop m xs) ∙ ap₂ (λ u v. u ++ v) t d ∙ ap (λ k. tab k f ++ drop k xs₀) e

-- one octet more
fill : (p d : List ℕ) (n a : ℕ) → length p ≡ n → n < length d
    → set (p ++ drop n d) n a ≡ (p ++ (a ∷ [])) ++ drop (n + 1) d
fill p d n a e h = rw (drop-cons d n 0 h, set_at p (get_or d n 0) (drop (suc n) d) a n e, add-one n, append_assoc)

pub octet_set : (f : ℕ → ℕ) (i v : ℕ) (xs xs₀ : List ℕ) → i < length xs₀ → v ≡ f i → xs ≡ tab i f ++ drop i xs₀
    → set xs i v ≡ tab (i + 1) f ++ drop (i + 1) xs₀
octet_set f i v xs xs₀ h e t =
    ap₂ (λ o x. set o i x) t e ∙ fill (tab i f) xs₀ i (f i) (length_tab i f) h
    ∙ ap (λ x. x ++ drop (i + 1) xs₀) (sym (tab_more i f))
