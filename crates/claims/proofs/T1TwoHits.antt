-- The proof of T1TwoHits.
use Rattle.std.specs.Prelude.{if◌then◌else◌}
use Prim.Native.Nat.{ℕ, ◌+◌, ◌-◌, ◌*◌, ◌%◌, ◌<◌}
use mathlib.Core.Path.{◌≡◌, refl, sym, ap, ap₂, ◌∙◌}
use mathlib.Core.List.{List}
use native.Mathlib.Omega.{arith}
use lib.Dec.{eqb, lit<, lit≤}
use Rattle.line.specs.Bit.{bit_at}
use Rattle.line.proofs.SpeltLaws.{spelt_agree}
use Rattle.crc.specs.Share.{distance}
use Rattle.crc.proofs.Order.{order_6}
use Rattle.t1.specs.Superframe.{framing_at, carried, check_of, agrees}
use Rattle.t1read.specs.Reading.{compared, errored}
use Rattle.t1read.specs.Entry.{accept, Read}
use Rattle.t1read.specs.Answer.{Reading}
use Rattle.t1read.proofs.EntryLaws.{read_accepted}
use Rattle.claims.specs.T1TwoHits.{T1TwoHits}
use Rattle.claims.proofs.Pairs.{t1_all, t1_hidden}
use Rattle.claims.proofs.HitTwice.{Blocks, hit_shares, disagrees, others_stay, one_more_off, as_many_off}

-- the six bits that carry a check are framing bits
carried_agree : (s t : List ℕ) (q : ℕ) → ((k : ℕ) → k < 4632 → k % 193 ≡ 0 → bit_at s (q + k) ≡ bit_at t (q + k))
    → carried s q ≡ carried t q
unfolding carried
carried_agree s t q h =
    spelt_agree 6 (λ i. bit_at s (framing_at q (4 * i + 1))) (λ i. bit_at t (framing_at q (4 * i + 1)))
    (λ i l. h (193 * (4 * i + 1)) (omega arith) (omega arith))

superframes : Blocks 4632 193 1 6 63 carried
superframes = record { fill_bit = lit< tt; wide = lit≤ tt; order = order_6; carried_agree = carried_agree }

-- what an accepted reading counts
counts_of : (s payload link : List ℕ) (r : Reading) (payload' link' : List ℕ)
    → Read s payload link r payload' link' → r.number ≡ 0
    → (r.errored ≡ errored s r.place r.whole) × (r.compared ≡ compared r.whole)
unfolding accept
counts_of s a b r p o h z = rw (read_accepted s a b r p o h z) (refl, refl)

pub t1_two_hits : T1TwoHits
unfolding check_of errored agrees
t1_two_hits =
    record {
      seen = λ n s t u v b i j l a h. disagrees superframes s t b i j h a;
      shares = hit_shares superframes;
      last = λ n s t u v i j h b l. others_stay superframes s t (n - 1) i j h b (λ e. omega arith);
      read = λ s p0 o0 r p o h z t p1 o1 r' p' o' h' z' place whole b i j l a hit.
          let (e, c) = counts_of s p0 o0 r p o h z in
          let (e', c') = counts_of t p1 o1 r' p' o' h' z' in
          e' ∙ ap₂ (errored t) place whole ∙ one_more_off superframes s t r.place b i j hit (compared r.whole) (omega arith) a
          ∙ ap (λ x. x + (if eqb (distance i j % 63) 0 then 0 else 1)) (sym e);
      read_last = λ s p0 o0 r p o h z t p1 o1 r' p' o' h' z' place whole b i j l hit.
          let (e, c) = counts_of s p0 o0 r p o h z in
          let (e', c') = counts_of t p1 o1 r' p' o' h' z' in
          e' ∙ ap₂ (errored t) place whole ∙ as_many_off superframes s t r.place b i j hit (compared r.whole) (omega arith) ∙ sym e;
      all_pairs = t1_all;
      hidden_pairs = t1_hidden;
    }
