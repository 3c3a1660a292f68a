-- The proof of TwoHits.
use Rattle.std.specs.Prelude.{if◌then◌else◌}
use Prim.Native.Nat.{ℕ, ◌+◌, ◌-◌, ◌*◌, ◌%◌, ◌<◌}
use mathlib.Core.Path.{◌≡◌, refl, sym, ap, ap₂, ◌∙◌}
use mathlib.Core.List.{List}
use native.Mathlib.Omega.{arith}
use lib.Dec.{eqb, lit<, lit≤}
use Rattle.line.specs.Bit.{bit_at}
use Rattle.line.proofs.SpeltLaws.{spelt_agree}
use Rattle.crc.specs.Share.{distance}
use Rattle.crc.proofs.Order.{order_4}
use Rattle.e1.specs.Block.{block_check, carried, agrees}
use Rattle.measure.specs.Reading.{compared, errored}
use Rattle.read.specs.Entry.{accept, Read}
use Rattle.read.specs.Answer.{Reading}
use Rattle.read.proofs.EntryLaws.{read_accepted}
use Rattle.claims.specs.TwoHits.{TwoHits}
use Rattle.claims.proofs.Pairs.{e1_all, e1_hidden}
use Rattle.claims.proofs.HitTwice.{Blocks, hit_shares, disagrees, others_stay, one_more_off, as_many_off}

-- the four bits that carry a check are no data bits
carried_agree : (s t : List ℕ) (q : ℕ) → ((k : ℕ) → k < 2048 → k % 512 ≡ 0 → bit_at s (q + k) ≡ bit_at t (q + k))
    → carried s q ≡ carried t q
unfolding carried
carried_agree s t q h =
    spelt_agree 4 (λ j. bit_at s (q + 512 * j)) (λ j. bit_at t (q + 512 * j)) (λ j l. h (512 * j) (omega arith) (omega arith))

blocks : Blocks 2048 512 0 4 15 carried
blocks = record { fill_bit = lit< tt; wide = lit≤ tt; order = order_4; carried_agree = carried_agree }

-- what an accepted reading counts
counts_of : (s payload slot0 : List ℕ) (r : Reading) (payload' slot0' : List ℕ)
    → Read s payload slot0 r payload' slot0' → r.number ≡ 0
    → (r.errored ≡ errored s r.start r.used) × (r.compared ≡ compared r.used)
unfolding accept
counts_of s a b r p o h z = rw (read_accepted s a b r p o h z) (refl, refl)

pub two_hits : TwoHits
unfolding block_check errored agrees
two_hits =
    record {
      seen = λ n s t u v b i j l a h. disagrees blocks s t b i j h a;
      shares = hit_shares blocks;
      last = λ n s t u v i j h b l. others_stay blocks s t (2 * n - 1) i j h b (λ e. omega arith);
      read = λ s p0 o0 r p o h z t p1 o1 r' p' o' h' z' start used b i j l a hit.
          let (e, c) = counts_of s p0 o0 r p o h z in
          let (e', c') = counts_of t p1 o1 r' p' o' h' z' in
          e' ∙ ap₂ (errored t) start used ∙ one_more_off blocks s t r.start b i j hit (compared r.used) (omega arith) a
          ∙ ap (λ x. x + (if eqb (distance i j % 15) 0 then 0 else 1)) (sym e);
      read_last = λ s p0 o0 r p o h z t p1 o1 r' p' o' h' z' start used b i j l hit.
          let (e, c) = counts_of s p0 o0 r p o h z in
          let (e', c') = counts_of t p1 o1 r' p' o' h' z' in
          e' ∙ ap₂ (errored t) start used ∙ as_many_off blocks s t r.start b i j hit (compared r.used) (omega arith) ∙ sym e;
      all_pairs = e1_all;
      hidden_pairs = e1_hidden;
    }
