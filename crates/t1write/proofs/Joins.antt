-- Superframes of a longer line: a part of what is given, with the check handed on, makes that part of the line. So two
-- calls in a row make one line, and what is given with signalling can be taken superframe by superframe.
use Prim.Native.Nat.{ℕ, zero, suc, ◌+◌, ◌-◌, ◌*◌, ◌/◌, ◌%◌, ◌^◌, ◌≤◌, ◌<◌}
use mathlib.Core.Path.{◌≡◌, sym, ap, ap₂, ◌∙◌}
use mathlib.Core.Logic.{◌≢◌}
use mathlib.Core.List.{List, ◌++◌}
use native.Mathlib.Nat.{add-zero, zero-add, add-suc}
use native.Mathlib.Decide.{ℕ_discrete}
use native.Mathlib.Omega.{arith}
use lib.ListN.{length, get_or, get_or-append}
use lib.Seq.{get_or-append-add}
use Rattle.base.specs.Tab.{tab_from}
use Rattle.line.specs.Bit.{bit_at}
use Rattle.line.specs.Spelt.{packed}
use Rattle.line.proofs.PackedLaws.{packed_agree, packed_add}
use Rattle.t1.specs.Payload.{data_bit}
use Rattle.t1write.specs.Writing.{framing_bit, carries, line_bit, written}
use Rattle.t1.proofs.Laws.{check_of_agree}
use Rattle.t1write.proofs.Laws.{line_framing, line_data}

-- p' and l' are m superframes of p and l, from superframe n on
pub record Later (p l p' l' : List ℕ) (n m : ℕ) : Type 0 where
  pub octets : (i : ℕ) → i < 576 * m → get_or p' i 0 ≡ get_or p (576 * n + i) 0
  pub links : (i : ℕ) → i < 12 * m → get_or l' i 0 ≡ get_or l (12 * n + i) 0

module _ {p l p' l' : List ℕ} {n m : ℕ} (h : Later p l p' l' n m) (c : ℕ) where
  later_bit : (y : ℕ) → y < 4608 * m → bit_at p' y ≡ bit_at p (4608 * n + y)
  unfolding bit_at
  later_bit y k =
      let d : (4608 * n + y) / 8 ≡ 576 * n + y / 8 = omega arith in
      let r : (4608 * n + y) % 8 ≡ y % 8 = omega arith in
      ap (λ x. x / 2 ^ (7 - y % 8) % 2) (h.octets (y / 8) (omega arith)) ∙ sym (ap₂ (λ a b. get_or p a 0 / 2 ^ (7 - b) % 2) d r)

  later_data : (i : ℕ) → i < 4632 * m → i % 193 ≢ 0 → data_bit p' i ≡ data_bit p (4632 * n + i)
  unfolding data_bit
  later_data i k z =
      let d : (4632 * n + i) / 193 ≡ 24 * n + i / 193 = omega arith in
      let r : (4632 * n + i) % 193 ≡ i % 193 = omega arith in
      later_bit (192 * (i / 193) + (i % 193 - 1)) (omega arith) ∙ ap (bit_at p) (omega arith)

  pub later_carries : (b : ℕ) → b ≤ m → carries p' (carries p c n) b ≡ carries p c (n + b)
  unfolding carries
  later_carries zero k = ap (carries p c) (sym (add-zero n))
  later_carries (suc b) k =
      check_of_agree (λ i. data_bit p' (4632 * b + i)) (λ i. data_bit p (4632 * (n + b) + i))
      (λ i q z.
      let e : 4632 * n + (4632 * b + i) ≡ 4632 * (n + b) + i = omega arith in
      later_data (4632 * b + i) (omega arith) (λ y. z (omega arith)) ∙ ap (data_bit p) e)
      ∙ ap (carries p c) (sym (add-suc n b))

  later_framing : (k f : ℕ) → f < 24 * m → framing_bit l' k f ≡ framing_bit l k (24 * n + f)
  unfolding framing_bit
  later_framing k f q =
      let d : (24 * n + f) / 2 ≡ 12 * n + f / 2 = omega arith in
      let e₁ : (24 * n + f) % 2 ≡ f % 2 = omega arith in
      let e₂ : (24 * n + f) % 4 ≡ f % 4 = omega arith in
      let e₃ : (24 * n + f) / 4 % 6 ≡ f / 4 % 6 = quarter (f / 4) ((24 * n + f) / 4) (omega arith) in
      rw (d, e₁, e₂, e₃, h.links (f / 2) (omega arith))
    where
      quarter : (x y : ℕ) → y ≡ 6 * n + x → y % 6 ≡ x % 6
      quarter x y e = omega arith

  later_line : (i : ℕ) → i < 4632 * m → line_bit p' l' (carries p c n) i ≡ line_bit p l c (4632 * n + i)
  later_line i k = go (ℕ_discrete (i % 193) 0)
    where
      go : Dec (i % 193 ≡ 0) → line_bit p' l' (carries p c n) i ≡ line_bit p l c (4632 * n + i)
      go (yes e) =
          let u : (4632 * n + i) / 4632 ≡ n + i / 4632 = omega arith in
          let v : (4632 * n + i) / 193 ≡ 24 * n + i / 193 = omega arith in
          line_framing p' l' (carries p c n) i e
          ∙ later_framing (carries p' (carries p c n) (i / 4632)) (i / 193) (omega arith)
          ∙ ap (λ x. framing_bit l x (24 * n + i / 193)) (later_carries (i / 4632) (omega arith))
          ∙ sym (line_framing p l c (4632 * n + i) (omega arith) ∙ ap₂ (λ x y. framing_bit l (carries p c x) y) u v)
      go (no z) =
          line_data p' l' (carries p c n) i z ∙ later_data i k z
          ∙ sym (line_data p l c (4632 * n + i) (λ e. z (omega arith)))

  -- the line up to n, and then m superframes
  pub later_written : written p l c (n + m) ≡ written p l c n ++ written p' l' (carries p c n) m
  unfolding written
  later_written =
      let e : 579 * (n + m) ≡ 579 * n + 579 * m = omega arith in
      let d : 8 * (579 * n) ≡ 4632 * n = omega arith in
      let f = line_bit p l c in
      ap (λ k. packed k f) e ∙ packed_add (579 * n) (579 * m) f
      ∙ ap (λ x. packed (579 * n) f ++ x)
      (packed_agree (579 * m) (λ i. f (8 * (579 * n) + i)) (line_bit p' l' (carries p c n))
      (λ i k. ap (λ x. f (x + i)) d ∙ sym (later_line i (omega arith))))

-- n superframes, and then m
module _ (p p' l l' : List ℕ) (c n m : ℕ) (hp : length p ≡ 576 * n) (hl : length l ≡ 12 * n) where
  first : Later (p ++ p') (l ++ l') p l 0 n
  first =
      record {
        octets = λ i h. sym (ap (λ k. get_or (p ++ p') k 0) (zero-add i) ∙ get_or-append p p' 0 i (omega arith));
        links = λ i h. sym (ap (λ k. get_or (l ++ l') k 0) (zero-add i) ∙ get_or-append l l' 0 i (omega arith));
      }

  second : Later (p ++ p') (l ++ l') p' l' n m
  second =
      record {
        octets = λ i h.
            let e : 576 * n + i ≡ length p + i = omega arith in
            sym (ap (λ k. get_or (p ++ p') k 0) e ∙ get_or-append-add p p' i 0);
        links = λ i h.
            let e : 12 * n + i ≡ length l + i = omega arith in
            sym (ap (λ k. get_or (l ++ l') k 0) e ∙ get_or-append-add l l' i 0);
      }

  handed_on : carries (p ++ p') c n ≡ carries p c n
  unfolding carries
  handed_on = sym (later_carries first c n (omega arith) ∙ ap (carries (p ++ p') c) (zero-add n))

  pub carries_join : carries (p ++ p') c (n + m) ≡ carries p' (carries p c n) m
  carries_join = sym (later_carries second c m (omega arith)) ∙ ap (λ k. carries p' k m) handed_on

  pub written_join : written (p ++ p') (l ++ l') c (n + m) ≡ written p l c n ++ written p' l' (carries p c n) m
  unfolding carries written packed tab_from
  written_join =
      later_written second c
      ∙ ap₂ (λ x y. x ++ written p' l' y m)
      (ap (written (p ++ p') (l ++ l') c) (sym (zero-add n)) ∙ later_written first c) handed_on
