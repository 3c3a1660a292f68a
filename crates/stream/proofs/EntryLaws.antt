-- The laws of the entries: what a stream that is not over has, and how a chunk is refused or taken.
use Rattle.std.specs.Prelude.{if◌then◌else◌, Result, Ok, Err}
use Prim.Native.Nat.{ℕ, suc, ◌+◌, ◌*◌, ◌≤◌}
use mathlib.Core.Path.{◌≡◌, refl, sym, ap, ap₂, ◌∙◌}
use mathlib.Core.Bool.{Bool, true, false, not, ◌||◌}
use mathlib.Core.List.{List, [], ◌∷◌}
use Rattle.std.specs.List.{list_any}
use Rattle.std.proofs.Math.Bool.{or_assoc, or-false, or-true}
use mathlib.Mathlib.Data.Bool.Basic.{or-eq-false-eq-eq-false-and-eq-false}
use native.Mathlib.Omega.{arith}
use borrow.Author.Tests.{ltb-false, ne_eqb}
use lib.Dec.{eqb, ltb}
use lib.ListN.{length}
use Rattle.base.specs.Answer.{accepted}
use Rattle.base.specs.Number.{number_in}
use Rattle.base.specs.declared.Refused.{Refused}
use Rattle.base.specs.declared.Refused.TheVariants.{NoRoom}
use Rattle.base.proofs.AnswerLaws.{accepted_so}
use Rattle.align.specs.Place.{number_of, place_of, k_of, start_of}
use Rattle.align.specs.declared.Found.{Found}
use Rattle.align.specs.declared.Found.TheVariants.{At, BasicAt, Nothing}
use Rattle.growth.specs.Small.{Small}
use Rattle.chunk.specs.Taking.{lacks_room, taking, taking_if, over, Takes}
use Rattle.chunk.specs.declared.Took.{Took}
use Rattle.read.specs.Entry as reads
use Rattle.read.specs.Answer.{Reading}
use Rattle.stream.specs.Entry.{is_large, is_far, is_over, octets_came, grown_of, feed_refusal, feed_accept, feed_refuse, feeding, Feeds}
use Rattle.stream.specs.Entry.{end_refusal, end_accept, end_place, ending}
use Rattle.stream.specs.declared.Stream.{Stream}
use Rattle.stream.specs.Answer.{Ended, fed_answer}

-- a stream that is not over: its numbers can be added to
pub record Sound (st : Stream) : Type 0 where
  pub going : st.ended ≡ false
  pub fill : st.fill ≤ 2048
  pub small : Small st.line 134217728

either : (a b : Bool) → a || b ≡ false → (a ≡ false) × (b ≡ false)
either a b e = (or-eq-false-eq-eq-false-and-eq-false a b).0 e

near : (f : Found) → is_far f ≡ false → start_of f ≤ 1024 * 134217728
unfolding is_far
near (At p k) e =
    let h = either (is_large p) (is_large k) e in
    omega (arith, ltb-false 134217728 p h.0, ltb-false 134217728 k h.1)
near (BasicAt p) e = omega arith
near Nothing e = omega arith

pub sound : (st : Stream) → is_over st ≡ false → Sound st
unfolding is_over
sound st e =
    let c = st.line in
    let h₉ = either _ (is_large c.wordbits) e in
    let h₈ = either _ (is_large c.farend) h₉.0 in
    let h₇ = either _ (is_large c.errored) h₈.0 in
    let h₆ = either _ (is_large c.words) h₇.0 in
    let h₅ = either _ (is_large c.lost) h₆.0 in
    let h₄ = either _ (is_large c.used) h₅.0 in
    let h₃ = either _ (is_large c.before) h₄.0 in
    let h₂ = either _ (is_far c.found) h₃.0 in
    let h₁ = either st.ended (ltb 2048 st.fill) h₂.0 in
    record {
      going = h₁.0;
      fill = ltb-false 2048 st.fill h₁.1;
      small = record {
        before = ltb-false 134217728 c.before h₃.1;
        start = near c.found h₂.1;
        used = ltb-false 134217728 c.used h₄.1;
        lost = omega (arith, ltb-false 134217728 c.lost h₅.1);
        words = ltb-false 134217728 c.words h₆.1;
        errored = ltb-false 134217728 c.errored h₇.1;
        farend = ltb-false 134217728 c.farend h₈.1;
        wordbits = ltb-false 134217728 c.wordbits h₉.1;
      };
    }

far_is : (f : Found) → is_large (place_of f) || is_large (k_of f) ≡ is_far f
unfolding is_far
far_is (At p k) = refl
far_is (BasicAt p) = or-false (is_large p)
far_is Nothing = refl

-- one that has ended, or says that more of the window is filled than it holds, is over whatever its other numbers are
pub over_so : (st : Stream) → st.ended || ltb 2048 st.fill ≡ true → is_over st ≡ true
unfolding is_over
over_so st e = rw e

-- its test, in one row
pub over_is : (st : Stream) (p k : ℕ) (large : Bool) → p ≡ place_of st.line.found → k ≡ k_of st.line.found
    → (let c = st.line in
    large ≡ list_any is_large (p ∷ k ∷ c.before ∷ c.used ∷ c.lost ∷ c.words ∷ c.errored ∷ c.farend ∷ c.wordbits ∷ []))
    → st.ended || ltb 2048 st.fill || large ≡ is_over st
unfolding is_over
over_is st p k large ep ek e =
    let c = st.line in
    let far : is_large p || is_large k ≡ is_far c.found = ap₂ (λ p k. is_large p || is_large k) ep ek ∙ far_is c.found in
    ap (λ l. st.ended || ltb 2048 st.fill || l) e
    ∙ in_row st.ended (ltb 2048 st.fill) (is_large p) (is_large k) (is_large c.before) (is_large c.used) (is_large c.lost)
    (is_large c.words) (is_large c.errored) (is_large c.farend) (is_large c.wordbits)
    ∙ ap (λ f. st.ended || ltb 2048 st.fill || f || is_large c.before || is_large c.used || is_large c.lost
    || is_large c.words || is_large c.errored || is_large c.farend || is_large c.wordbits) far
  where
    in_row : (e f p k b u l w r a i : Bool)
        → e || f || (p || (k || (b || (u || (l || (w || (r || (a || (i || false)))))))))
        ≡ e || f || (p || k) || b || u || l || w || r || a || i
    in_row e f p k b u l w r a i = simp (or_assoc, or-false)

-- A chunk

-- whether it is refused for the stream or its window

module _ (st : Stream) (w : List ℕ) where
  pub shut : is_over st ≡ true → is_over st || not (eqb (length w) 2048) ≡ true
  shut e = rw e

  pub narrow : (length w ≡ 2048 → ⊥) → is_over st || not (eqb (length w) 2048) ≡ true
  narrow n = rw (ne_eqb (length w) 2048 n) (or-true (is_over st))

  pub opened : is_over st ≡ false → length w ≡ 2048 → is_over st || not (eqb (length w) 2048) ≡ false
  opened e l = rw (e, l)

module _ (st : Stream) (w t payload slot0 : List ℕ) where
  abbrev number : ℕ
  number = feed_refusal st w t (length payload) (length slot0)

  abbrev lacks : Bool
  lacks = lacks_room (length payload) (length slot0) (grown_of st w t).multiframes

  pub refused_as : (n : ℕ) → number ≡ suc n → Feeds st w t payload slot0 (feed_refuse st (suc n)) w payload slot0
  unfolding feeding
  refused_as n e =
      record {
        its_answer = sym (ap (λ k. accepted k (feed_accept (grown_of st w t)) (feed_refuse st k)) e);
        its_window = refl;
        its_payload = refl;
        its_slot0 = refl;
      }

  -- by the first that applies
  pub with_21 : is_over st || not (eqb (length w) 2048) ≡ true → number ≡ 21
  unfolding feed_refusal
  with_21 e = rw e

  module _ (a : is_over st || not (eqb (length w) 2048) ≡ false) where
    pub with_17 : ltb 16777216 (octets_came st + length t) ≡ true → number ≡ 17
    unfolding feed_refusal
    with_17 e = rw (a, e)

    module _ (b : ltb 16777216 (octets_came st + length t) ≡ false) where
      with_room : number ≡ (if lacks then 4 else 0)
      unfolding feed_refusal
      with_room = rw (a, b)

      -- what `take` answers, refused or taken
      module _ (r : Result Took Refused) (w' payload' slot0' : List ℕ)
          (h : Takes (grown_of st w t) w payload slot0 r w' payload' slot0') where
        told : (l : Bool) → lacks ≡ l → r ≡ taking_if l (grown_of st w t)
        told l q = h.its_answer ∙ ap (λ b. taking_if b (grown_of st w t)) q

        pub not_taken : (e : Refused) → r ≡ Err e → Feeds st w t payload slot0 (fed_answer st (Err e)) w' payload' slot0'
        not_taken e z = go lacks refl
          where
            go : (l : Bool) → lacks ≡ l → Feeds st w t payload slot0 (fed_answer st (Err e)) w' payload' slot0'
            go false q = let k : Ok (taking (grown_of st w t)) ≡ Err e = sym (told false q) ∙ z in cc
            go true q =
                let k : Err NoRoom ≡ Err e = sym (told true q) ∙ z in
                let room : NoRoom ≡ e = cc in
                let v : w' ≡ w = h.its_window ∙ ap (λ x. accepted (number_in x) (over (grown_of st w t).window w) w) (told true q) in
                let p : payload' ≡ payload = h.its_payload ∙ ap (λ x. accepted (number_in x) (over (grown_of st w t).payload payload) payload) (told true q) in
                let o : slot0' ≡ slot0 = h.its_slot0 ∙ ap (λ x. accepted (number_in x) (over (grown_of st w t).slot0 slot0) slot0) (told true q) in
                rw (sym room, v, p, o) (refused_as 3 (with_room ∙ ap (λ b. if b then 4 else 0) q))

        pub taken : (x : Took) → r ≡ Ok x
            → Feeds st w t payload slot0 (fed_answer (record { ended = false; fill = x.fill; line = x.line }) (Ok x.multiframes))
            w' payload' slot0'
        unfolding feeding
        taken x z = go lacks refl
          where
            go : (l : Bool) → lacks ≡ l
                → Feeds st w t payload slot0 (fed_answer (record { ended = false; fill = x.fill; line = x.line }) (Ok x.multiframes))
                w' payload' slot0'
            go true q = let k : Err NoRoom ≡ Ok x = sym (told true q) ∙ z in cc
            go false q =
                let k : Ok x ≡ Ok (taking (grown_of st w t)) = sym z ∙ told false q in
                let e : x ≡ taking (grown_of st w t) = cc in
                let n : number ≡ 0 = with_room ∙ ap (λ b. if b then 4 else 0) q in
                record {
                  its_answer =
                      ap (λ (x : Took). record {
                        stream = record { ended = false; fill = x.fill; line = x.line };
                        number = 0;
                        multiframes = x.multiframes;
                      }) e
                      ∙ sym (ap (λ k. accepted k (feed_accept (grown_of st w t)) (feed_refuse st k)) n);
                  its_window = h.its_window ∙ ap (λ x. accepted (number_in x) (over (grown_of st w t).window w) w) z;
                  its_payload = h.its_payload ∙ ap (λ x. accepted (number_in x) (over (grown_of st w t).payload payload) payload) z;
                  its_slot0 = h.its_slot0 ∙ ap (λ x. accepted (number_in x) (over (grown_of st w t).slot0 slot0) slot0) z;
                }

-- An end

module _ (st : Stream) where
  pub not_ended : (n : ℕ) → end_refusal st ≡ suc n → (p : ℕ) → p ≡ end_place st (suc n)
      → ◌≡◌ {A = Ended} (record { stream = st; reading = reads.refuse (suc n) p }) (ending st)
  unfolding ending
  not_ended n e p q =
      ap (λ x. record { stream = st; reading = reads.refuse (suc n) x }) q ∙ sym (ap ended_by e)
    where
      ended_by : ℕ → Ended
      ended_by k =
          accepted k (record { stream = record { ended = true; fill = st.fill; line = st.line }; reading = end_accept st })
          (record { stream = st; reading = reads.refuse k (end_place st k) })

  pub ended_21 : is_over st ≡ true → end_refusal st ≡ 21
  unfolding end_refusal
  ended_21 e = rw e

  module _ (a : is_over st ≡ false) where
    pub ended_1 : ltb (octets_came st) 2048 ≡ true → end_refusal st ≡ 1
    unfolding end_refusal
    ended_1 e = rw (a, e)

    -- then the number is that of what was found
    pub ended_by_found : ltb (octets_came st) 2048 ≡ false → end_refusal st ≡ number_of st.line.found
    unfolding end_refusal
    ended_by_found e = rw (a, e) (go st.line.found)
      where
        go : (f : Found) → (if eqb (number_of f) 3 then 3 else if eqb (number_of f) 15 then 15 else 0) ≡ number_of f
        go (At p k) = refl
        go (BasicAt p) = refl
        go Nothing = refl

  pub ended_so : end_refusal st ≡ 0 → (r : Reading) → r ≡ end_accept st
      → ◌≡◌ {A = Ended} (record { stream = record { ended = true; fill = st.fill; line = st.line }; reading = r }) (ending st)
  unfolding ending
  ended_so e r q =
      ap (λ x. record { stream = record { ended = true; fill = st.fill; line = st.line }; reading = x }) q
      ∙ sym (accepted_so (end_refusal st) _ _ e)
