-- The numbers of both lines are in range, two bits add the same exactly where the order divides their distance, and bits
-- that are not said to be outside lie in the block.
use Rattle.std.specs.Prelude.{if◌then◌else◌}
use Prim.Native.Nat.{ℕ, ◌%◌, ◌≤◌, ◌<◌}
use mathlib.Core.Path.{◌≡◌, refl, sym, ap, ◌∙◌}
use mathlib.Core.Logic.{◌≢◌, ◌↔◌}
use mathlib.Core.Bool.{Bool, true, false, true≢false, ◌||◌}
use mathlib.Mathlib.Data.Bool.Basic.{or-eq-false-eq-eq-false-and-eq-false}
use borrow.Author.Tests.{leb-false, eqb-true, eqb-false, eq-eqb, ne_eqb}
use lib.Dec.{eqb, leb, lit<, lit≤}
use Rattle.crc.specs.Share.{distance}
use Rattle.crc.proofs.Order.{order_4, order_6}
use Rattle.crc.proofs.ShareLaws.{same_share}
use Rattle.hits.specs.Verdict.{Numbers, numbers_of, share_of, verdict}
use Rattle.hits.specs.declared.judge.Form.{Form}
use Rattle.hits.specs.declared.judge.Form.TheVariants.{E1, T1}
use Rattle.hits.specs.declared.judge.Verdict.{Verdict}
use Rattle.hits.specs.declared.judge.Verdict.TheVariants.{Outside, NoData, OneBit, Hidden, Seen}

-- what the code needs of them
pub record Fits (n : Numbers) : Type 0 where
  pub ordered : 0 < n.order
  pub strided : 0 < n.every
  pub few : n.bits ≤ 4632
  pub wide : 2 ≤ n.width
  pub narrow : n.width ≤ 6

pub fits : (k : Form) → Fits (numbers_of k)
fits T1 = record { ordered = lit< tt; strided = lit< tt; few = lit≤ tt; wide = lit≤ tt; narrow = lit≤ tt }
fits E1 = record { ordered = lit< tt; strided = lit< tt; few = lit≤ tt; wide = lit≤ tt; narrow = lit≤ tt }

-- tests that hold in the same cases
eqb_iff : (a b c d : ℕ) → (a ≡ b) ↔ (c ≡ d) → eqb a b ≡ eqb c d
eqb_iff a b c d (there, back) = go (eqb a b) refl
  where
    go : (t : Bool) → eqb a b ≡ t → eqb a b ≡ eqb c d
    go true e = e ∙ sym (eq-eqb c d (there (eqb-true a b e)))
    go false e = e ∙ sym (ne_eqb c d (λ q. eqb-false a b e (back q)))

hidden_at_multiples : (k : Form) (a b : ℕ) → a < (numbers_of k).bits → b < (numbers_of k).bits
    → eqb (share_of k a) (share_of k b) ≡ eqb (distance a b % (numbers_of k).order) 0
hidden_at_multiples T1 a b ha hb = eqb_iff _ _ _ _ (same_share 6 (lit≤ tt) 63 order_6 4632 a b ha hb)
hidden_at_multiples E1 a b ha hb = eqb_iff _ _ _ _ (same_share 4 (lit≤ tt) 15 order_4 2048 a b ha hb)

in_range : (n a b : ℕ) → leb n a || leb n b ≡ false → (a < n) × (b < n)
in_range n a b e =
    let p = (or-eq-false-eq-eq-false-and-eq-false (leb n a) (leb n b)).0 e in (leb-false n a p.0, leb-false n b p.1)

-- two data bits of a block are judged by their distance
pub of_data_bits : (k : Form) (a b : ℕ) → leb (numbers_of k).bits a || leb (numbers_of k).bits b ≡ false
    → a % (numbers_of k).every ≢ 0 → b % (numbers_of k).every ≢ 0 → a ≢ b
    → verdict k a b ≡ (if eqb (distance a b % (numbers_of k).order) 0 then Hidden (distance a b) else Seen (distance a b))
unfolding verdict
of_data_bits k a b l x y ne =
    let (ha, hb) = in_range (numbers_of k).bits a b l in
    rw (hidden_at_multiples k a b ha hb, l, ne_eqb _ 0 x, ne_eqb _ 0 y, ne_eqb a b ne)

abbrev pub is_outside : Verdict → Bool
is_outside Outside = true
is_outside (NoData i) = false
is_outside (OneBit i) = false
is_outside (Hidden m) = false
is_outside (Seen m) = false

pub in_block : (k : Form) (a b : ℕ) (v : Verdict) → v ≡ verdict k a b → is_outside v ≡ false
    → (a < (numbers_of k).bits) × (b < (numbers_of k).bits)
unfolding verdict
in_block k a b v is h = go (leb (numbers_of k).bits a || leb (numbers_of k).bits b) refl
  where
    go : (t : Bool) → leb (numbers_of k).bits a || leb (numbers_of k).bits b ≡ t → (a < (numbers_of k).bits) × (b < (numbers_of k).bits)
    go true e = let out : v ≡ Outside = is ∙ rw e in absurd (true≢false (sym (ap is_outside out) ∙ h))
    go false e = in_range (numbers_of k).bits a b e
