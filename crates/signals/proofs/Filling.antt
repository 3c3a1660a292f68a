-- The channels of the signalling multiframes that are read, one part of the output after the other.
use Prim.Native.Nat.{ℕ, ◌+◌, ◌-◌, ◌*◌, ◌/◌, ◌%◌, ◌≤◌, ◌<◌}
use mathlib.Core.Path.{◌≡◌, refl, sym, ap, ap₂, ◌∙◌}
use mathlib.Core.List.{List, ◌++◌}
use native.Mathlib.Omega.{arith}
use borrow.Rule.Slice.PartMut.{put_mid}
use lib.ListN.{length, get_or, take, drop, length-append, length-drop}
use lib.Seq.{length-take-le}
use Rattle.base.specs.Tab.{tab, tab_from}
use Rattle.base.proofs.TabLaws.{tab_agree, length_tab}
use Rattle.base.proofs.PartLaws.{part_more, part_rest, parts_kept}
use Rattle.signals.specs.Signalling.{starts_in, read_in, abcd_at, abcd_in}
use Rattle.signals.specs.Entry.{filled}
use Rattle.signals.specs.Follow.{followed, channels}
use Rattle.signals.specs.declared.Followed.{Followed}
use Rattle.signals.proofs.Found.{found_read, found_few, found_start, found_within, channels_part}

-- octet i of the output
abbrev octet_of : List ℕ → ℕ → ℕ
octet_of t i = abcd_at t (get_or (starts_in t (length t)) (i / 30) 0) (i % 30 + 1)

-- what stands in the output when m are written; out₀ is what stood there
pub record Filling (t out₀ starts : List ℕ) (n : ℕ) (out : List ℕ) (m : ℕ) : Type 0 where
  pub found : Followed
  pub its_found : found ≡ followed t
  pub its_starts : starts ≡ found.starts
  pub its_read : n ≡ found.multiframes
  pub short : length t ≤ 256
  pub roomy : filled t ≤ length out₀
  pub upto : m ≤ n
  pub long : length out ≡ length out₀
  pub written : take (30 * m) out ≡ tab (30 * m) (octet_of t)
  pub kept : drop (30 * m) out ≡ drop (30 * m) out₀

pub none_filled : (t out₀ : List ℕ) (r : Followed) → r ≡ followed t → length t ≤ 256 → filled t ≤ length out₀
    → Filling t out₀ r.starts r.multiframes out₀ 0
unfolding tab_from
none_filled t out₀ r e s l =
    record {
      found = r;
      its_found = e;
      its_starts = refl;
      its_read = refl;
      short = s;
      roomy = l;
      upto = omega arith;
      long = refl;
      written = refl;
      kept = refl;
    }

module _ {t out₀ starts : List ℕ} {n : ℕ} {out : List ℕ} {m : ℕ} (p : Filling t out₀ starts n out m) where
  all_read : n ≡ read_in t (length t)
  all_read = p.its_read ∙ found_read t p.found p.its_found

  pub few : n ≤ 15
  few = omega (arith, p.its_read, found_few t p.found p.its_found p.short)

  -- the next
  module _ (l : m < n) where
    pub room : 30 * m + 30 ≤ length out
    room = omega (arith, all_read, p.roomy, p.long)

    here : m < p.found.multiframes
    here = omega (arith, p.its_read)

    pub there : get_or starts m 0 + 16 ≤ length t
    there = rw p.its_starts (found_within t p.found p.its_found m here)

    pub filled_more : (ys : List ℕ)
        → ys ≡ channels (take (get_or starts m 0 + 16 - get_or starts m 0) (drop (get_or starts m 0) t)) 0
        → Filling t out₀ starts n (put_mid (30 * m) (30 * m + 30 - 30 * m) out ys) (m + 1)
    unfolding channels
    filled_more ys y =
        let a = get_or starts m 0 in
        let f : a ≡ get_or (starts_in t (length t)) m 0 = ap (λ s. get_or s m 0) p.its_starts ∙ found_start t p.found p.its_found m here in
        let e : 30 * (m + 1) ≡ 30 * m + 30 = omega arith in
        let w = 30 * m + 30 - 30 * m in
        let z : w ≡ 30 = omega arith in
        let rest = drop w (drop (30 * m) out) in
        let k : length (put_mid (30 * m) w out ys) ≡ length out =
        omega (
          arith,
          length-append (take (30 * m) out) (ys ++ rest),
          length-append ys rest,
          length-take-le (30 * m) out (omega (arith, room)),
          length-drop w (drop (30 * m) out),
          length-drop (30 * m) out,
          room,
          ap length y ∙ length_tab 30 _,
        ) in
        let its : ys ≡ tab (30 * m + 30 - 30 * m) (λ i. octet_of t (30 * m + i)) =
        y ∙ channels_part t a (a + 16 - a) (omega arith)
        ∙ tab_agree 30 (λ i. abcd_at t a (i + 1)) (λ i. octet_of t (30 * m + i))
        (λ i h.
        let q : (30 * m + i) / 30 ≡ m = omega arith in
        let r : (30 * m + i) % 30 ≡ i = omega arith in
        ap (λ a. abcd_at t a (i + 1)) f ∙ sym (ap₂ (λ q r. abcd_at t (get_or (starts_in t (length t)) q 0) (r + 1)) q r))
        ∙ ap (λ n. tab n (λ i. octet_of t (30 * m + i))) (sym z) in
        record {
          found = p.found;
          its_found = p.its_found;
          its_starts = p.its_starts;
          its_read = p.its_read;
          short = p.short;
          roomy = p.roomy;
          upto = omega arith;
          long = k ∙ p.long;
          written = ap (λ n. take n (put_mid (30 * m) (30 * m + 30 - 30 * m) out ys)) e
              ∙ part_more (octet_of t) (30 * m) (30 * m + 30) out ys (omega arith) room its p.written
              ∙ ap (λ n. tab n (octet_of t)) (sym e);
          kept = ap (λ n. drop n (put_mid (30 * m) (30 * m + 30 - 30 * m) out ys)) e
              ∙ part_rest (octet_of t) (30 * m) (30 * m + 30) out ys (omega arith) room its out₀ p.kept
              ∙ ap (λ n. drop n out₀) (sym e);
        }

  -- all of them
  pub all_filled : n ≤ m → out ≡ abcd_in t (length t) ++ drop (filled t) out₀
  unfolding abcd_in
  all_filled l =
      parts_kept (octet_of t) (filled t) (30 * m) out out₀ (omega (arith, all_read, p.upto)) p.written p.kept
