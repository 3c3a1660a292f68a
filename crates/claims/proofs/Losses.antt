-- What is promised of the loss holds.
use Prim.Native.Nat.{ℕ, ◌*◌, ◌/◌, ◌<◌}
use mathlib.Core.Path.{◌≡◌, sym, ap, ◌∙◌}
use mathlib.Core.List.{List}
use mathlib.Core.Logic.{◌↔◌}
use native.Mathlib.Omega.{arith}
use Rattle.measure.specs.Reading.{word_loss, loss, lost_at, cause_of, used_of}
use Rattle.measure.specs.Loss.{LostByWords, LostByBits2, LostBy, Loss}
use Rattle.read.specs.Entry.{Read}
use Rattle.read.specs.Answer.{Reading}
use Rattle.measure.proofs.LossLaws as laws
use Rattle.claims.specs.Demand2.{Accepted}
use Rattle.claims.specs.Losses.{ByWordsAlone, Losses}
use Rattle.claims.proofs.Demand2.{reads_so}

-- an accepted call
module _ (s payload slot0 : List ℕ) (r : Reading) (payload' slot0' : List ℕ) (h : Read s payload slot0 r payload' slot0') (z : r.number ≡ 0) where
  answered : Accepted s payload slot0 r payload' slot0'
  answered = reads_so s payload slot0 r payload' slot0' h z

  lost : (f : ℕ) → 0 < f → r.lost ≡ f ↔ Loss s r.start r.whole f
  lost f l = rw answered.lost (laws.lost_at_lem s r.start r.whole f l)

  not_lost : r.lost ≡ 0 ↔ ((f : ℕ) → f < 16 * r.whole → LostBy s r.start f → ⊥)
  not_lost = rw answered.lost (laws.never_lost s r.start r.whole)

  cause_words : r.cause ≡ 1 ↔ LostByWords s r.start r.lost
  cause_words = rw (answered.cause, answered.lost) (laws.cause_words s r.start r.whole)

  cause_bits2 : r.cause ≡ 2 ↔ LostByBits2 s r.start r.lost
  cause_bits2 = rw (answered.cause, answered.lost) (laws.cause_bits2 s r.start r.whole)

  no_cause : r.cause ≡ 0 ↔ r.lost ≡ 0
  no_cause = rw (answered.cause, answered.lost) (laws.cause_none s r.start r.whole)

  used_is : 0 < r.lost → r.used ≡ r.lost / 16
  used_is l =
      answered.used ∙ laws.used_at s r.start r.whole (rw answered.lost at l) ∙ ap (λ x. x / 16) (sym answered.lost)

  all_used : r.lost ≡ 0 → r.used ≡ r.whole
  all_used e = answered.used ∙ laws.used_all s r.start r.whole (sym answered.lost ∙ e)

  words_alone : loss s r.start r.whole ≡ word_loss s r.start r.whole → ByWordsAlone s r
  words_alone e =
      record {
        lost = answered.lost ∙ ap lost_at e;
        used = answered.used ∙ ap (λ o. used_of o r.whole) e;
        cause = answered.cause ∙ ap cause_of e;
      }

pub losses : Losses
losses =
    record {
      lost = lost;
      not_lost = not_lost;
      cause_words = cause_words;
      cause_bits2 = cause_bits2;
      no_cause = no_cause;
      never_both = λ s q f w v. omega (arith, w.even, v.odd);
      held = λ s payload slot0 r payload' slot0' h z l.
          let u = used_is s payload slot0 r payload' slot0' h z l in
          (omega arith, omega arith);
      all_used = all_used;
      words_alone = λ s payload slot0 r payload' slot0' h z b.
          words_alone s payload slot0 r payload' slot0' h z (laws.words_alone s r.start r.whole b);
    }
