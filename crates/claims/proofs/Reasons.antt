-- The proof of Reasons.
use Prim.Native.Nat.{ℕ, ◌+◌, ◌*◌, ◌≤◌, ◌<◌}
use mathlib.Core.Path.{◌≡◌, sym, ap, ◌∙◌}
use mathlib.Core.List.{List}
use mathlib.Core.Logic.{◌↔◌, ◌⊎◌}
use lib.ListN.{length}
use Rattle.std.specs.Prelude.{Result, Ok}
use Rattle.base.specs.declared.Refused.{Refused}
use Rattle.align.specs.Stands.{Basic, Pair, Stands}
use Rattle.align.specs.Why.{why, why_number, judged}
use Rattle.align.specs.Says.{Says}
use Rattle.align.specs.declared.Why.{Why}
use Rattle.align.specs.declared.Why.TheVariants.{NoneFails, NoPair}
use Rattle.align.proofs.Laws.{some_k, finds_basic, finds_nothing}
use Rattle.align.proofs.WhyLaws.{asked, why_answers, why_judged, why_says, why_stands, why_short, why_long, why_late}
use Rattle.read.specs.Entry.{Read, GoodLength}
use Rattle.read.specs.Answer.{Reading}
use Rattle.read.proofs.EntryLaws.{read_number, read_place, ready}
use Rattle.claims.specs.Accepts.{ToAsk}
use Rattle.claims.specs.Reasons.{FirstSaid, Reasons}
use Rattle.claims.proofs.Accepts.{why_is}
use Rattle.claims.proofs.Demand2.{found_none, found_only, none_so}

same_said : (v w : Why) → ◌≡◌ {A = Result Why Refused} (Ok v) (Ok w) → v ≡ w
same_said v w e = cc

says : (s : List ℕ) (p : ℕ) (w : Why) → ToAsk s p → why s p ≡ Ok w ↔ Says s p w
says s p w t = why_says s p ((why_is s p).1 t) w

stands : (s : List ℕ) (p k : ℕ) → GoodLength s → why s p ≡ Ok (NoneFails k) ↔ Stands s p k
stands s p k good = why_stands s p good.long good.short k

first : (s payload slot0 : List ℕ) (r : Reading) (payload' slot0' : List ℕ)
    → Read s payload slot0 r payload' slot0' → r.number ≡ 0 → FirstSaid s r.place r.start
first s payload slot0 r payload' slot0' h z =
    let d = ready s (length payload) (length slot0) (sym (read_number s payload slot0 r payload' slot0' h) ∙ z) in
    let f = read_place s payload slot0 r payload' slot0' h z in
    record {
      k = f.0;
      here = (stands s r.place f.0 d.good).1 f.1.stands;
      start_there = f.2;
      before = λ q l b e. f.1.before q l b ((stands s q l d.good).0 e);
    }

nowhere : (s payload slot0 : List ℕ) (r : Reading) (payload' slot0' : List ℕ) → GoodLength s
    → Read s payload slot0 r payload' slot0'
    → (r.number ≡ 3) ⊎ (r.number ≡ 15) ↔ ((p k : ℕ) → why s p ≡ Ok (NoneFails k) → ⊥)
nowhere s payload slot0 r payload' slot0' good h =
    let n = none_so s payload slot0 r payload' slot0' h good in
    (λ e p k w. n.0 e p k ((stands s p k good).0 w), λ g. n.1 (λ p k w. g p k ((stands s p k good).1 w)))

-- of a place it is said that it has no pair exactly when it has room, basic alignment and none
no_pair_said : (s : List ℕ) (p : ℕ) → why s p ≡ Ok NoPair → (p + 16384 ≤ 8 * length s) × Basic s p
unfolding Says
no_pair_said s p e =
    let n = sym (why_answers s p) ∙ ap why_number e in
    (((asked s p).0 n).2, ((why_says s p n NoPair).0 e).0)

no_pair : (s payload slot0 : List ℕ) (r : Reading) (payload' slot0' : List ℕ)
    → Read s payload slot0 r payload' slot0' → r.number ≡ 15
    → (why s r.place ≡ Ok NoPair) × ((q : ℕ) → q < r.place → why s q ≡ Ok NoPair → ⊥)
unfolding Says
no_pair s payload slot0 r payload' slot0' h e =
    let f = found_only s payload slot0 r payload' slot0' h e in
    let b = (finds_basic s r.place).0 f.1 in
    let t : ToAsk s r.place = record { good = f.0; room = b.0.room } in
    let none : (k : ℕ) → Pair s r.place k → ⊥
    = λ k p. let w = some_k s r.place k b.0.room b.0.basic p in b.1 r.place w.0 w.1 in (
      (says s r.place NoPair t).1 (b.0.basic, none),
      λ q l w. b.0.before q l (no_pair_said s q w).1,
    )

no_pair_nowhere : (s payload slot0 : List ℕ) (r : Reading) (payload' slot0' : List ℕ)
    → Read s payload slot0 r payload' slot0' → r.number ≡ 3 → (p : ℕ) → why s p ≡ Ok NoPair → ⊥
no_pair_nowhere s payload slot0 r payload' slot0' h e p w =
    let n = no_pair_said s p w in
    (finds_nothing s).0 (found_none s payload slot0 r payload' slot0' h e).1 p n.0 n.1

pub reasons : Reasons
reasons =
    record {
      says = says;
      one_holds = λ s p t. (judged s p, (says s p (judged s p) t).0 (why_judged s p ((why_is s p).1 t)));
      never_two = λ s p v w t hv hw. same_said v w (sym ((says s p v t).1 hv) ∙ (says s p w t).1 hw);
      stands = stands;
      numbered = why_answers;
      short = why_short;
      long = why_long;
      late = λ s p good. why_late s p good.long good.short;
      first = first;
      nowhere = nowhere;
      no_pair = no_pair;
      no_pair_nowhere = no_pair_nowhere;
    }
