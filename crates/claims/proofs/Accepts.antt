-- The proof of Accepts: from each number 0 to what it tells of the call, and back.
use Prim.Native.Nat.{ℕ, zero, suc, ◌+◌, ◌*◌, ◌/◌, ◌%◌, ◌≤◌, ◌<◌}
use mathlib.Core.Path.{◌≡◌, refl, sym}
use mathlib.Core.Bool.{Bool, true, false, not, ◌&&◌, ◌||◌, true≢false, and-eq-true_iff}
use mathlib.Core.List.{List}
use mathlib.Core.Logic.{◌↔◌, ◌⊎◌, inl, inr}
use Rattle.std.specs.Prelude.{Option, None, Some}
use mathlib.Mathlib.Data.Bool.Basic.{or-eq-false-eq-eq-false-and-eq-false}
use native.Mathlib.Decide.{dec_lt}
use native.Mathlib.Omega.{arith}
use borrow.Author.Tests.{eq-eqb, eqb-true, leb-true, le-leb, lt-ltb, le-ltb, ltb-false, not-false}
use lib.Dec.{eqb, leb, ltb, lit≤}
use lib.ListN.{length, get_or, get_or-eq_default}
use Rattle.base.proofs.AnswerLaws.{first_tells, tells_first}
use Rattle.base.proofs.TabLaws.{at_all}
use Rattle.e1.specs.Payload.{multiframes, sized}
use Rattle.align.specs.Place.{Standing, first_standing, number_of, place_of}
use Rattle.align.specs.Why.{why_refusal}
use Rattle.align.specs.declared.Found.{Found}
use Rattle.align.specs.declared.Found.TheVariants.{At, BasicAt, Nothing}
use Rattle.align.proofs.Laws.{first_stands, none_stands}
use Rattle.align.proofs.WhyLaws.{asked}
use Rattle.read.specs.Entry as reads
use Rattle.read.specs.Entry.{place_in, used_in, unplaced}
use Rattle.read.proofs.EntryLaws as laws
use Rattle.read.proofs.EntryLaws.{ready}
use Rattle.chunk.specs.Taking.{lacks_room}
use Rattle.stream.specs.Entry.{is_large, is_far, is_over, octets_came, grown_of, feed_refusals, feed_refusal, end_refusals, end_refusal}
use Rattle.stream.specs.declared.Stream.{Stream}
use Rattle.write.specs.Entry as writes
use Rattle.write.specs.Entry.{overhead_limit, overhead_fits, faults}
use Rattle.write.proofs.Calls.{Fits, accepted_call}
use Rattle.signals.specs.Entry as signals
use Rattle.signals.specs.Entry.{slot16_in, filled}
use Rattle.signals.proofs.EntryLaws as heard
use Rattle.signalled.specs.Entry as signalled
use Rattle.signalled.specs.Given.{Given}
use Rattle.signalled.proofs.Laws.{fits}
use Rattle.signalled.proofs.Calls as signalling
use Rattle.exchange.specs.declared.State.{State}
use Rattle.exchange.specs.Mapping.{map_refusal, map_refusals}
use Rattle.exchange.specs.Machine.{kind_of, a_of, b_of, outside, locked, unstaged, host_refusal, key_refusal, key_refusals}
use Rattle.exchange.proofs.Laws.{accepted_passed, kind_named, slot_named, entry_named, reads_alone, within}
use Rattle.claims.proofs.T1Accepts as t1
use Rattle.claims.specs.Accepts.{ToRead, Going, ToFeed, ToEnd, ToHear, ToAsk, ToWrite, ToSignal, ToHost, ToMap, Accepts}

-- which lengths a payload may have
sized_is : (l : ℕ) → sized l ≡ true ↔ (n : ℕ) × (1 ≤ n) × (n ≤ 16) × (l ≡ 496 * n)
unfolding sized
sized_is l = (there, back)
  where
    there : sized l ≡ true → (n : ℕ) × (1 ≤ n) × (n ≤ 16) × (l ≡ 496 * n)
    there e =
        let a = (and-eq-true_iff (eqb (l % 496) 0) (leb 1 (l / 496) && leb (l / 496) 16)).0 e in
        let b = (and-eq-true_iff (leb 1 (l / 496)) (leb (l / 496) 16)).0 a.1 in
        (l / 496, leb-true 1 (l / 496) b.0, leb-true (l / 496) 16 b.1, omega (arith, eqb-true (l % 496) 0 a.0))

    back : (n : ℕ) × (1 ≤ n) × (n ≤ 16) × (l ≡ 496 * n) → sized l ≡ true
    back (n, h, k, e) =
        rw (eq-eqb (l % 496) 0 (omega arith), le-leb 1 (l / 496) (omega arith), le-leb (l / 496) 16 (omega arith))

read_is : (s : List ℕ) (a b : ℕ) → reads.refusal s a b ≡ 0 ↔ ToRead s a b
read_is s a b = (there, λ t. back t (first_standing s) refl)
  where
    there : reads.refusal s a b ≡ 0 → ToRead s a b
    there e =
        let d = ready s a b e in
        record {
          good = d.good;
          p = place_in s;
          k = d.k;
          stands = d.first.stands;
          payload = d.payload;
          slot0 = d.slot0;
        }

    back : ToRead s a b → (o : Option Standing) → first_standing s ≡ o → reads.refusal s a b ≡ 0
    back t (Some w) e =
        laws.accepts s a b t.good w e
        (rw (le-ltb a (496 * used_in s) t.payload, le-ltb b (16 * used_in s) t.slot0))
    back t None e = absurd ((none_stands s).0 e t.p t.k t.stands)

-- a place stands where neither number of the search applies
pub stood : (f : Found) → eqb (number_of f) 3 ≡ false → eqb (number_of f) 15 ≡ false → (p : ℕ) × (k : ℕ) × (f ≡ At p k)
stood (At p k) e d = (p, k, refl)
stood (BasicAt p) e d = absurd (true≢false d)
stood Nothing e d = absurd (true≢false e)

-- a stream that is not over
module _ (st : Stream) where
  either : (a b : Bool) → a || b ≡ false → (a ≡ false) × (b ≡ false)
  either a b e = (or-eq-false-eq-eq-false-and-eq-false a b).0 e

  near : (f : Found) → is_far f ≡ false ↔ ((place_of f ≤ 134217728) × ((p k : ℕ) → f ≡ At p k → k ≤ 134217728))
  unfolding is_far
  near (At p k) = (
    λ e.
        let h = either (is_large p) (is_large k) e in
        (ltb-false 134217728 p h.0, λ q j d. let z : k ≡ j = cc in omega (arith, ltb-false 134217728 k h.1)),
    λ h. rw (le-ltb 134217728 p h.0, le-ltb 134217728 k (h.1 p k refl)),
  )
  near (BasicAt p) = (
    λ e. (ltb-false 134217728 p e, λ q j d. let z : ◌≡◌ {A = ℕ} 0 1 = cc in absurd (omega arith)),
    λ h. le-ltb 134217728 p h.0,
  )
  near Nothing = (
    λ e. (lit≤ tt, λ q j d. let z : ◌≡◌ {A = ℕ} 0 1 = cc in absurd (omega arith)),
    λ h. refl,
  )

  going_is : is_over st ≡ false ↔ Going st
  unfolding is_over
  going_is = (there, back)
    where
      there : is_over st ≡ false → Going st
      there e =
          let c = st.line in
          let h₉ = either _ (is_large c.wordbits) e in
          let h₈ = either _ (is_large c.farend) h₉.0 in
          let h₇ = either _ (is_large c.errored) h₈.0 in
          let h₆ = either _ (is_large c.words) h₇.0 in
          let h₅ = either _ (is_large c.lost) h₆.0 in
          let h₄ = either _ (is_large c.used) h₅.0 in
          let h₃ = either _ (is_large c.before) h₄.0 in
          let h₂ = either _ (is_far c.found) h₃.0 in
          let h₁ = either st.ended (ltb 2048 st.fill) h₂.0 in
          let f = (near c.found).0 h₂.1 in
          record {
            not_ended = h₁.0;
            fill = ltb-false 2048 st.fill h₁.1;
            before = ltb-false 134217728 c.before h₃.1;
            place = f.0;
            k = f.1;
            used = ltb-false 134217728 c.used h₄.1;
            lost = ltb-false 134217728 c.lost h₅.1;
            words = ltb-false 134217728 c.words h₆.1;
            errored = ltb-false 134217728 c.errored h₇.1;
            farend = ltb-false 134217728 c.farend h₈.1;
            wordbits = ltb-false 134217728 c.wordbits h₉.1;
          }

      back : Going st → is_over st ≡ false
      back h =
          let c = st.line in
          rw (
            h.not_ended,
            le-ltb 2048 st.fill h.fill,
            (near c.found).1 (h.place, h.k),
            le-ltb 134217728 c.before h.before,
            le-ltb 134217728 c.used h.used,
            le-ltb 134217728 c.lost h.lost,
            le-ltb 134217728 c.words h.words,
            le-ltb 134217728 c.errored h.errored,
            le-ltb 134217728 c.farend h.farend,
            le-ltb 134217728 c.wordbits h.wordbits,
          )

  feed_is : (window t : List ℕ) (a b : ℕ) → feed_refusal st window t a b ≡ 0 ↔ ToFeed st window t a b
  unfolding feed_refusal lacks_room
  feed_is window t a b = (there, back)
    where
      m : ℕ
      m = (grown_of st window t).multiframes

      there : feed_refusal st window t a b ≡ 0 → ToFeed st window t a b
      there e =
          let d = rw e at (first_tells (feed_refusals st window t a b) refl) in
          let o = either (is_over st) (not (eqb (length window) 2048)) d.0 in
          let f = either (ltb a (496 * m)) (ltb b (16 * m)) d.1.1.0 in
          record {
            going = going_is.0 o.0;
            sized = eqb-true (length window) 2048 (not-false _ o.1);
            limit = ltb-false 16777216 (octets_came st + length t) d.1.0;
            payload = ltb-false a (496 * m) f.0;
            slot0 = ltb-false b (16 * m) f.1;
          }

      back : ToFeed st window t a b → feed_refusal st window t a b ≡ 0
      back h =
          rw (
            going_is.1 h.going,
            eq-eqb (length window) 2048 h.sized,
            le-ltb 16777216 (octets_came st + length t) h.limit,
            le-ltb a (496 * m) h.payload,
            le-ltb b (16 * m) h.slot0,
          )

  end_is : end_refusal st ≡ 0 ↔ ToEnd st
  unfolding end_refusal
  end_is = (there, back)
    where
      there : end_refusal st ≡ 0 → ToEnd st
      there e =
          let d = rw e at (first_tells (end_refusals st) refl) in
          let w = stood st.line.found d.1.1.0 d.1.1.1.0 in
          record {
            going = going_is.0 d.0;
            long = ltb-false (octets_came st) 2048 d.1.0;
            p = w.0;
            k = w.1;
            stands = w.2;
          }

      back : ToEnd st → end_refusal st ≡ 0
      back h = rw (going_is.1 h.going, le-ltb (octets_came st) 2048 h.long, h.stands)

pub signals_is : (s : List ℕ) (a : ℕ) → signals.refusal s a ≡ 0 ↔ ToHear s a
unfolding signals.refusal
signals_is s a = (there, λ t. back t (first_standing s) refl)
  where
    there : signals.refusal s a ≡ 0 → ToHear s a
    there e =
        let t = rw e at (first_tells (signals.refusals s a) refl) in
        let d = laws.placed s (tells_first 0 (unplaced s) refl (t.0, (t.1.0, (t.1.1.0, (t.1.1.1.0, tt))))) in
        record {
          good = d.0;
          p = d.1.place;
          k = d.1.k;
          stands = ((first_stands s d.1.place d.1.k).0 d.2).stands;
          room = ltb-false a (filled (slot16_in s)) t.1.1.1.1.0;
        }

    back : ToHear s a → (o : Option Standing) → first_standing s ≡ o → signals.refusal s a ≡ 0
    back t (Some w) e = heard.placed_then s a (laws.placed_0 s t.good w e) false (le-ltb a (filled (slot16_in s)) t.room)
    back t None e = absurd ((none_stands s).0 e t.p t.k t.stands)

pub why_is : (s : List ℕ) (p : ℕ) → why_refusal s p ≡ 0 ↔ ToAsk s p
why_is s p = (
  λ e. let a = (asked s p).0 e in record { good = record { long = a.0; short = a.1 }; room = a.2 },
  λ t. (asked s p).1 (t.good.long, t.good.short, t.room),
)

to_write : {p o : List ℕ} {c m : ℕ} → Fits p o c m → ToWrite p o c m
to_write {p} d =
    record {
      n = multiframes p;
      least = d.least;
      most = d.most;
      payload = d.inputs.payload_length;
      overhead = d.inputs.overhead_length;
      limited = λ h l. d.inputs.limited h;
      check = omega (arith, d.inputs.four_bits);
      room = d.room;
    }

write_is : (p o : List ℕ) (c m : ℕ) → writes.refusal p o c m ≡ 0 ↔ ToWrite p o c m
unfolding writes.refusal overhead_fits
write_is p o c m = (λ e. to_write (accepted_call p o c m e), back)
  where
    low : ℕ → Bool
    low h = ltb (get_or o h 0) (overhead_limit h)

    back : ToWrite p o c m → writes.refusal p o c m ≡ 0
    back t =
        let n : multiframes p ≡ t.n = omega (arith, t.payload) in
        rw (
          (sized_is (length p)).1 (t.n, t.least, t.most, t.payload),
          n,
          t.overhead,
          eq-eqb (8 * t.n) (8 * t.n) refl,
          at_all (8 * t.n) low (λ h l. lt-ltb (get_or o h 0) (overhead_limit h) (t.limited h l)),
          le-ltb 15 c t.check,
          le-ltb m (512 * t.n) t.room,
        )

-- octets past the last count as 0
limited : (l : List ℕ) (n : ℕ) → length l ≡ n → ((i : ℕ) → i < n → get_or l i 0 ≤ 15) → (i : ℕ) → get_or l i 0 ≤ 15
limited l n e h i =
    elim (dec_lt i n) [
      | yes k ↦ h i k
      | no k ↦ rw (get_or-eq_default l 0 {n = i} (omega arith)) (omega arith)
    ]

write_signalled_is : (p o : List ℕ) (c : ℕ) (xy v : List ℕ) (m : ℕ) → signalled.refusal p o c xy v m ≡ 0 ↔ ToSignal p o c xy v m
unfolding writes.refusal
write_signalled_is p o c xy v m = (there, back)
  where
    there : signalled.refusal p o c xy v m ≡ 0 → ToSignal p o c xy v m
    there e =
        let g = (signalling.accepted_call p o c xy v m e).0 in
        record {
          written = to_write (signalling.accepted_fits p o c xy v m e);
          xy_octets = g.its_xy.long;
          xy_limited = λ i l. g.its_xy.most i;
          abcd_octets = g.its_abcd.long;
          abcd_limited = λ i l. (g.its_abcd.least i l, g.its_abcd.most i);
        }

    back : ToSignal p o c xy v m → signalled.refusal p o c xy v m ≡ 0
    back t =
        let n = multiframes p in
        let r = rw ((write_is p o c m).1 t.written) at (first_tells (writes.refusals p o c m) refl) in
        let g : Given xy v n =
        record {
          its_xy = record { long = t.xy_octets; least = λ i l. omega arith; most = limited xy n t.xy_octets t.xy_limited };
          its_abcd = record {
            long = t.abcd_octets;
            least = λ i l. (t.abcd_limited i l).0;
            most = limited v (30 * n) t.abcd_octets (λ i l. (t.abcd_limited i l).1);
          };
        } in
        sym (signalling.sound p o c xy v m (sym (tells_first 0 (faults p o c) refl (r.0, (r.1.0, (r.1.1.0, tt))))) (fits xy v n g)
        (ltb-false _ _ r.1.1.1.0))

-- the tests of a record, kind by kind
module _ (a b : ℕ) (flag staging : Bool) where
  passes : (kind : ℕ) → 1 ≤ kind → kind ≤ 4
      → ((kind ≡ 1) ⊎ (kind ≡ 3) → (1 ≤ a) × (a ≤ 31)) → (kind ≡ 1 → b ≤ 31)
      → ((kind ≡ 3 → ⊥) → flag ≡ true) → ((kind ≡ 2) ⊎ (kind ≡ 4) → staging ≡ true)
      → (outside kind a b ≡ false) × (locked kind flag ≡ false) × (unstaged kind staging ≡ false)
  unfolding outside locked unstaged
  passes zero l m s e u g = absurd (omega arith)
  passes (suc zero) l m s e u g =
      rw ((within 1 a 31).1 (s (inl refl)), le-ltb 31 b (e refl), u (λ q. omega arith)) (refl, refl, refl)
  passes (suc (suc zero)) l m s e u g = rw (u (λ q. omega arith), g (inl refl)) (refl, refl, refl)
  passes (suc (suc (suc zero))) l m s e u g = rw ((within 1 a 31).1 (s (inr refl))) (refl, refl, refl)
  passes (suc (suc (suc (suc zero)))) l m s e u g = rw (u (λ q. omega arith), g (inr refl)) (refl, refl, refl)
  passes (suc (suc (suc (suc (suc k))))) l m s e u g = absurd (omega arith)

host_is : (s : State) (r : List ℕ) → host_refusal s r ≡ 0 ↔ ToHost s r
unfolding host_refusal unstaged
host_is s r = (there, back)
  where
    there : host_refusal s r ≡ 0 → ToHost s r
    there e =
        let d = accepted_passed s r e in
        record {
          four = d.four;
          least = (kind_named s r e).0;
          most = (kind_named s r e).1;
          slot = λ k. slot_named s r e (elim k [ inl q ↦ rw q | inr q ↦ rw q ]);
          entry = entry_named s r e;
          unlocked = on s.flag refl;
          staged = λ k. not-false s.staging (elim k [ inl q ↦ rw q at d.ready | inr q ↦ rw q at d.ready ]);
        }
      where
        on : (t : Bool) → s.flag ≡ t → (kind_of r ≡ 3 → ⊥) → t ≡ true
        on true f h = refl
        on false f h = absurd (h (reads_alone s r f e))

    back : ToHost s r → host_refusal s r ≡ 0
    back t =
        let tests = passes (a_of r) (b_of r) s.flag s.staging (kind_of r) t.least t.most in
        let w = tests t.slot t.entry t.unlocked t.staged in
        rw (t.four, (within 1 (kind_of r) 4).1 (t.least, t.most), w.0, w.1, w.2)

key_is : (position : ℕ) → key_refusal position ≡ 0 ↔ (position ≡ 0) ⊎ (position ≡ 1)
unfolding key_refusal
key_is position = (
  λ e. which (eqb position 0) refl (not-false _ (rw e at (first_tells (key_refusals position) refl)).0),
  λ k. elim k [ inl q ↦ rw q | inr q ↦ rw q ],
)
  where
    which : (t : Bool) → eqb position 0 ≡ t → t || eqb position 1 ≡ true → (position ≡ 0) ⊎ (position ≡ 1)
    which true p q = inl (eqb-true position 0 p)
    which false p q = inr (eqb-true position 1 q)

map_is : (payload out : List ℕ) → map_refusal payload out ≡ 0 ↔ ToMap payload out
unfolding map_refusal
map_is payload out = (there, back)
  where
    there : map_refusal payload out ≡ 0 → ToMap payload out
    there e =
        let t = rw e at (first_tells (map_refusals payload out) refl) in
        let w = (sized_is (length payload)).0 (not-false _ t.0) in
        record {
          n = w.0;
          least = w.1;
          most = w.2;
          sized = w.3;
          room = ltb-false (length out) (length payload) t.1.0;
        }

    back : ToMap payload out → map_refusal payload out ≡ 0
    back t =
        rw (
          (sized_is (length payload)).1 (t.n, t.least, t.most, t.sized),
          le-ltb (length out) (length payload) t.room,
        )

pub accepts : Accepts
accepts =
    record {
      read = read_is;
      feed = feed_is;
      end = end_is;
      signals = signals_is;
      why = why_is;
      write = write_is;
      write_signalled = write_signalled_is;
      host = host_is;
      key = key_is;
      map = map_is;
      t1_read = t1.read_is;
      t1_write = t1.write_is;
      t1_write_signalled = λ p l c g m. t1.signal_is p l c m g;
    }
