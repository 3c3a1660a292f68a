-- What is found in the octets of slot 16, and what is told by it: where a signalling multiframe stands, its channels, X
-- and Y.
use Rattle.std.specs.Prelude.{if◌then◌else◌}
use Prim.Native.Nat.{ℕ, ◌+◌, ◌-◌, ◌/◌, ◌%◌, ◌≤◌, ◌<◌}
use mathlib.Core.Path.{◌≡◌, refl, sym, ap, ap₂, ◌∙◌}
use mathlib.Core.Bool.{Bool, true, false, ◌&&◌, and-eq-true_iff}
use mathlib.Core.List.{List}
use native.Mathlib.Nat.{zero-add}
use native.Mathlib.Omega.{arith}
use borrow.Author.Tests.{ltb-true, leb-true, leb-false}
use lib.Dec.{leb, ltb}
use lib.ListN.{length, get_or, take, drop, replicate, get_or-append}
use lib.Seq.{get_or-take, get_or-drop}
use Rattle.base.proofs.TabLaws.{tab_agree}
use Rattle.signals.specs.Signalling.{starts_in, read_in, held_in, abcd_at, xy_in}
use Rattle.signals.specs.Follow.{starts_of, followed, channels}
use Rattle.signals.specs.declared.Followed.{Followed}
use Rattle.signals.proofs.Starts.{few_read, start_within}

module _ (t : List ℕ) (r : Followed) (e : r ≡ followed t) where
  abbrev n : ℕ
  n = length t

  pub found_read : r.multiframes ≡ read_in t n
  unfolding followed
  found_read = ap (λ (x : Followed). x.multiframes) e

  pub found_starts : r.starts ≡ starts_of t n
  unfolding followed
  found_starts = ap (λ (x : Followed). x.starts) e

  pub found_held : r.held ≡ held_in t n
  unfolding followed
  found_held = ap (λ (x : Followed). x.held) e

  pub found_few : n ≤ 256 → r.multiframes ≤ 15
  found_few l = omega (arith, found_read, few_read t n)

  -- the one that is read as number m
  module _ (m : ℕ) (l : m < r.multiframes) where
    pub found_start : get_or r.starts m 0 ≡ get_or (starts_in t n) m 0
    found_start =
        ap (λ a. get_or a m 0) found_starts
        ∙ get_or-append (starts_in t n) (replicate (16 - read_in t n) 0) 0 m (omega (arith, found_read))

    pub found_within : get_or r.starts m 0 + 16 ≤ n
    found_within = omega (arith, found_start, start_within t n m (omega (arith, found_read)))

  -- X and Y
  told : xy_in t n ≡ (if r.held && ltb 0 r.multiframes then get_or t (get_or (starts_in t n) (r.multiframes - 1) 0) 0 else 11)
  unfolding xy_in
  told =
      ap₂ (λ h m. if h && ltb 0 m then get_or t (get_or (starts_in t n) (m - 1) 0) 0 else 11) (sym found_held) (sym found_read)

  pub xy_last : r.held && ltb 0 r.multiframes ≡ true → get_or t (get_or r.starts (r.multiframes - 1) 0) 0 ≡ xy_in t n
  xy_last h =
      let k = ltb-true 0 r.multiframes ((and-eq-true_iff r.held (ltb 0 r.multiframes)).0 h).1 in
      ap (λ f. get_or t f 0) (found_start (r.multiframes - 1) (omega arith))
      ∙ sym (told ∙ ap (λ b. if b then get_or t (get_or (starts_in t n) (r.multiframes - 1) 0) 0 else 11) h)

  pub xy_none : r.held && ltb 0 r.multiframes ≡ false → 11 ≡ xy_in t n
  xy_none h = sym (told ∙ ap (λ b. if b then get_or t (get_or (starts_in t n) (r.multiframes - 1) 0) 0 else 11) h)

-- the channels of a signalling multiframe, from the part of the octets that it is
pub channels_part : (t : List ℕ) (a n : ℕ) → 16 ≤ n → channels (take n (drop a t)) 0 ≡ channels t a
unfolding channels
channels_part t a n h = tab_agree 30 (λ i. abcd_at (take n (drop a t)) 0 (i + 1)) (λ i. abcd_at t a (i + 1)) (λ i l. go (leb (i + 1) 15) i refl l)
  where
    at : (i : ℕ) → i < 16 → get_or (take n (drop a t)) (0 + i) 0 ≡ get_or t (a + i) 0
    at i l =
        ap (λ j. get_or (take n (drop a t)) j 0) (zero-add i)
        ∙ get_or-take n (drop a t) i 0 (omega arith) ∙ get_or-drop a t i 0

    go : (b : Bool) (i : ℕ) → leb (i + 1) 15 ≡ b → i < 30 → abcd_at (take n (drop a t)) 0 (i + 1) ≡ abcd_at t a (i + 1)
    go true i e l = let h = leb-true (i + 1) 15 e in rw e (ap (λ x. x / 16) (at (i + 1) (omega arith)))
    go false i e l = let h = leb-false (i + 1) 15 e in rw e (ap (λ x. x % 16) (at (i + 1 - 15) (omega arith)))
