-- A superframe that is written by eight frames, and a line that is written superframe by superframe.
use Prim.Native.Nat.{ℕ, ◌+◌, ◌-◌, ◌*◌, ◌/◌, ◌%◌, ◌^◌, ◌≤◌, ◌<◌}
use mathlib.Core.Path.{◌≡◌, sym, ap, ap₂, ◌∙◌}
use mathlib.Core.List.{List, ◌++◌}
use native.Mathlib.Decide.{ℕ_discrete, dec_lt}
use native.Mathlib.Omega.{arith}
use borrow.Rule.Slice.PartMut.{put_mid, drop_put}
use lib.Dec.{lit<}
use lib.ListN.{length, get_or, take, drop, take-append-drop, get_or-eq_default}
use lib.Seq.{get_or-take, get_or-drop, drop-drop}
use Rattle.base.specs.Tab.{tab}
use Rattle.base.proofs.PartLaws.{part_length, take_put_more}
use Rattle.base.proofs.TabLaws.{tab_agree, tab_fill, tab_of}
use Rattle.line.specs.Bit.{bit_at}
use Rattle.line.specs.Spelt.{spelt, digit, packed}
use Rattle.line.proofs.SpeltLaws.{spelt_agree}
use Rattle.t1.specs.Payload.{data_bit}
use Rattle.t1.specs.Superframe.{framing_at, super_check}
use Rattle.t1.specs.Raw.{framing_of}
use Rattle.t1.proofs.Laws.{data_part}
use Rattle.t1write.specs.Writing.{framing_bit, carries, line_bit, written, signalled_octet, with_signals}
use Rattle.t1write.specs.Inputs.{OfBits, superframe_of, frames_bit}
use Rattle.t1write.proofs.Laws.{framing_lt, line_framing, line_data, length_written, framing_line, check_line}
use Rattle.t1write.proofs.Framing.{eight_framing}
use Rattle.t1write.proofs.Words.{frames_framing, frames_other}
use Rattle.t1write.proofs.Joins.{Later, later_carries, later_written}
use Rattle.t1write.proofs.Signals.{length_signals, signals_at}

-- the octets of s from a to e, as a slice is lent
abbrev pub part : ℕ → ℕ → List ℕ → List ℕ
part a e s = take (e - a) (drop a s)

part_at : (s : List ℕ) (a e i : ℕ) → a + i < e → get_or (part a e s) i 0 ≡ get_or s (a + i) 0
part_at s a e i h = get_or-take (e - a) (drop a s) i 0 (omega arith) ∙ get_or-drop a s i 0

pub part_bits : (s : List ℕ) (a e n m : ℕ) → OfBits s n → a ≤ e → e ≤ n → e - a ≡ m → OfBits (part a e s) m
part_bits s a e n m b h l d =
    let k = part_length a e s (omega (arith, b.long)) in
    record {
      long = k ∙ d;
      bits = λ i.
          elim (dec_lt i m) [
            | yes y ↦ rw (part_at s a e i (omega arith)) (b.bits (a + i))
            | no y ↦ rw (get_or-eq_default (part a e s) 0 {n = i} (omega arith)) (lit< tt)
          ];
    }

-- a superframe, eight frames more
module _ (o l : List ℕ) (k : ℕ) where
  -- octet i
  abbrev pub line_octet : ℕ → ℕ
  line_octet i = spelt 8 (λ j. line_bit o l k (8 * i + j))

  -- frames 8a to 8a + 7, whose framing bits are b
  module _ (bits : (i : ℕ) → get_or l i 0 < 2) (a b : ℕ) (h : a < 3) (e : b ≡ spelt 24 (framing_bit l k) / 2 ^ (16 - 8 * a) % 256) where
    abbrev eight : List ℕ
    eight = part (192 * a) (192 * a + 192) o

    eight_line : (x : ℕ) → x < 1544 → frames_bit eight b x ≡ line_bit o l k (1544 * a + x)
    unfolding carries
    eight_line x m = go (ℕ_discrete (x % 193) 0)
      where
        go : Dec (x % 193 ≡ 0) → frames_bit eight b x ≡ line_bit o l k (1544 * a + x)
        go (yes z) =
            let u : (1544 * a + x) / 4632 ≡ 0 = omega arith in
            let v : (1544 * a + x) / 193 ≡ 8 * a + x / 193 = omega arith in
            frames_framing eight b x (x / 193) (omega arith)
            ∙ ap (λ b. digit 8 b (x / 193)) e ∙ eight_framing l k (λ f. framing_lt l k f bits) a (x / 193) h (omega arith)
            ∙ sym (line_framing o l k (1544 * a + x) (omega arith) ∙ ap₂ (λ b f. framing_bit l (carries o k b) f) u v)
        go (no z) =
            let n : 192 * a + 192 - 192 * a ≡ 24 * 8 = omega arith in
            let d : 192 * a ≡ 24 * (8 * a) = omega arith in
            let f : 193 * (8 * a) + x ≡ 1544 * a + x = omega arith in
            frames_other eight b x z
            ∙ ap₂ (λ n d. data_bit (take n (drop d o)) x) n d ∙ data_part o (8 * a) 8 x (omega arith) ∙ ap (data_bit o) f
            ∙ sym (line_data o l k (1544 * a + x) (λ y. z (omega arith)))

    pub eight_part : (ys : List ℕ) → ys ≡ packed 193 (frames_bit eight b)
        → ys ≡ tab (193 * a + 193 - 193 * a) (λ i. line_octet (193 * a + i))
    unfolding packed
    eight_part ys ey =
        let n : 193 * a + 193 - 193 * a ≡ 193 = omega arith in
        ey ∙ tab_agree 193 (λ i. spelt 8 (λ j. frames_bit eight b (8 * i + j))) (λ i. line_octet (193 * a + i))
        (λ i m. spelt_agree 8 (λ j. frames_bit eight b (8 * i + j)) (λ j. line_bit o l k (8 * (193 * a + i) + j))
        (λ j g. eight_line (8 * i + j) (omega arith) ∙ ap (line_bit o l k) (omega arith)))
        ∙ ap (λ n. tab n (λ i. line_octet (193 * a + i))) (sym n)

  pub superframe_done : (a : ℕ) (xs : List ℕ) → a ≡ 3 → length xs ≡ 579 → take (193 * a) xs ≡ tab (193 * a) line_octet
      → xs ≡ written o l k 1
  unfolding written packed
  superframe_done a xs e h t =
      let n : 193 * a ≡ 579 = omega arith in
      tab_fill xs 579 line_octet (omega arith) (rw n at t)

  -- its framing bits, and its check
  module _ (bits : (i : ℕ) → get_or l i 0 < 2) where
    pub superframe_framing : framing_of (written o l k 1) 0 ≡ spelt 24 (framing_bit l k)
    unfolding carries framing_of
    superframe_framing =
        spelt_agree 24 (λ f. bit_at (written o l k 1) (framing_at 0 f)) (framing_bit l k)
        (λ f h.
        let z : f / 24 ≡ 0 = omega arith in
        framing_line o l k 1 bits f (framing_at 0 f) (omega arith) (omega arith) ∙ ap (λ b. framing_bit l (carries o k b) f) z)

    pub superframe_check : super_check (written o l k 1) 0 ≡ carries o k 1
    superframe_check = check_line o l k 1 bits 0 (lit< tt)

-- superframe m of the payload p, and its parts of the data link l and of signalling g
abbrev pub link_part : ℕ → List ℕ → List ℕ
link_part m l = part (12 * m) (12 * m + 12) l

abbrev pub signals_part : ℕ → List ℕ → List ℕ
signals_part m g = part (96 * m) (96 * m + 96) g

pub part_later : (p l : List ℕ) (m : ℕ) → Later p l (superframe_of p m) (link_part m l) m 1
part_later p l m =
    record {
      octets = λ i h. part_at p (576 * m) (576 * m + 576) i (omega arith);
      links = λ i h. part_at l (12 * m) (12 * m + 12) i (omega arith);
    }

-- signalling is replaced in the superframe as in the whole
module _ (p g : List ℕ) (m : ℕ) (fits : 576 * m + 576 ≤ length p) where
  signalled_later : (i : ℕ) → i < 576
      → signalled_octet (superframe_of p m) (signals_part m g) i ≡ signalled_octet p g (576 * m + i)
  signalled_later i h =
      let f : (576 * m + i) / 24 ≡ 24 * m + i / 24 = omega arith in
      let q : (576 * m + i) / 144 ≡ 4 * m + i / 144 = omega arith in
      let r : (576 * m + i) % 24 ≡ i % 24 = omega arith in
      rw (
        part_at p (576 * m) (576 * m + 576) i (omega arith),
        part_at g (96 * m) (96 * m + 96) (24 * (i / 144) + i % 24) (within i h),
        f,
        q,
        r,
        sixth (i / 24),
        fourth (i / 144) (i % 24),
      )
    where
      sixth : (y : ℕ) → (24 * m + y) % 6 ≡ y % 6
      sixth y = omega arith

      fourth : (y z : ℕ) → 24 * (4 * m + y) + z ≡ 96 * m + (24 * y + z)
      fourth y z = omega arith

      within : (i : ℕ) → i < 576 → 96 * m + (24 * (i / 144) + i % 24) < 96 * m + 96
      within i h = omega arith

  pub signals_superframe : with_signals (superframe_of p m) (signals_part m g) ≡ superframe_of (with_signals p g) m
  unfolding with_signals
  signals_superframe =
      let n = part_length (576 * m) (576 * m + 576) p fits in
      let k = part_length (576 * m) (576 * m + 576) (with_signals p g) (omega (arith, length_signals p g)) in
      tab_of (length (superframe_of p m)) (signalled_octet (superframe_of p m) (signals_part m g)) (superframe_of (with_signals p g) m)
      (k ∙ sym n)
      (λ i h.
      signalled_later i (omega arith) ∙ sym (signals_at p g (576 * m + i) (omega arith))
      ∙ sym (part_at (with_signals p g) (576 * m) (576 * m + 576) i (omega arith)))

-- one superframe more, of output xs₀
module _ {p l o l' : List ℕ} {m : ℕ} (h : Later p l o l' m 1) (c : ℕ) where
  pub all_more : (k d : ℕ) (xs ys xs₀ : List ℕ) → 579 * m + 579 ≤ length xs → k ≡ carries p c m → ys ≡ written o l' k 1
      → d ≡ carries o k 1 → take (579 * m) xs ≡ written p l c m → drop (579 * m) xs ≡ drop (579 * m) xs₀
      → (take (579 * (m + 1)) (put_mid (579 * m) (579 * m + 579 - 579 * m) xs ys) ≡ written p l c (m + 1))
      × (drop (579 * (m + 1)) (put_mid (579 * m) (579 * m + 579 - 579 * m) xs ys) ≡ drop (579 * (m + 1)) xs₀)
      × (d ≡ carries p c (m + 1))
  all_more k d xs ys xs₀ hx ek ey ed q r =
      let n : 579 * (m + 1) ≡ 579 * m + 579 = omega arith in
      let y : length ys ≡ 579 * m + 579 - 579 * m = ap length ey ∙ length_written o l' k 1 ∙ omega arith in
      let z = put_mid (579 * m) (579 * m + 579 - 579 * m) xs ys in (
        ap (λ x. take x z) n
            ∙ take_put_more (579 * m) (579 * m + 579) xs ys (written p l c m) (omega arith) hx y q
            ∙ ap (λ x. written p l c m ++ x) (ey ∙ ap (λ k. written o l' k 1) ek) ∙ sym (later_written h c),
        ap (λ x. drop x z) n ∙ drop_put (579 * m) (579 * m + 579) xs ys (omega arith) hx y
            ∙ sym (drop-drop 579 (579 * m) xs) ∙ ap (drop 579) r ∙ drop-drop 579 (579 * m) xs₀ ∙ ap (λ x. drop x xs₀) (sym n),
        ed ∙ ap (λ k. carries o k 1) ek ∙ later_carries h c 1 (omega arith),
      )

pub all_done : (p l : List ℕ) (c m n k : ℕ) (xs xs₀ : List ℕ) → m ≡ n → k ≡ carries p c m
    → take (579 * m) xs ≡ written p l c m → drop (579 * m) xs ≡ drop (579 * m) xs₀
    → (xs ≡ written p l c n ++ drop (579 * n) xs₀) × (k ≡ carries p c n)
all_done p l c m n k xs xs₀ e ek q r = (
  sym (take-append-drop (579 * m) xs) ∙ ap₂ (λ u v. u ++ v) q r ∙ ap (λ x. written p l c x ++ drop (579 * x) xs₀) e,
  ek ∙ ap (carries p c) e,
)
