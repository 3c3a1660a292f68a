-- The proof of Signals.
use Prim.Native.Nat.{ℕ, zero, suc, ◌+◌, ◌-◌, ◌*◌, ◌/◌, ◌%◌, ◌≤◌, ◌<◌}
use mathlib.Core.Path.{◌≡◌, refl, sym, ap, ap₂, subst, ◌∙◌}
use mathlib.Core.Bool.{Bool, true, false, ◌&&◌, not, true≢false, and-eq-true_iff}
use mathlib.Core.List.{List, ◌++◌}
use mathlib.Core.Logic.{◌↔◌}
use Rattle.std.specs.Prelude.{Option, None, Some}
use native.Mathlib.Omega.{arith}
use borrow.Author.Tests.{eq-eqb, ne_eqb, eqb-true, eqb-false, not-true}
use lib.Dec.{eqb, lit≤}
use lib.ListN.{length, get_or, take, drop, length-append, get_or-append}
use lib.Seq.{take_at, get_or-append-add}
use Rattle.base.specs.Choice.{value_or}
use Rattle.base.specs.Tab.{tab, least}
use Rattle.base.proofs.TabLaws.{get_d_tab, tab_split, tab_agree, least_some, least_none, none_least}
use Rattle.base.proofs.AnswerLaws.{accepted_so}
use Rattle.line.specs.Bit.{octet_at}
use Rattle.e1.specs.Frame.{slot_at}
use Rattle.e1.specs.Payload.{index_of, multiframes}
use Rattle.read.specs.Entry as reading
use Rattle.read.specs.Entry.{start_in, whole_in, used_in, Read}
use Rattle.read.proofs.EntryLaws.{read_accepted}
use Rattle.measure.specs.Reading.{whole, payload_of}
use Rattle.measure.proofs.Laws.{slot_of_lem, payload_length}
use Rattle.read.specs.Answer.{Reading}
use Rattle.measure.proofs.LossLaws.{used_le}
use Rattle.write.specs.Writing.{written}
use Rattle.write.specs.Inputs.{Inputs}
use Rattle.write.specs.Answer.{Written}
use Rattle.write.proofs.Calls.{Fits, wrote_line}
use Rattle.signals.specs.Signalling.{signal_at, aligns, Walk, begun, walk, starts_in, read_in, first_in, abcd_at, abcd_in}
use Rattle.signals.specs.Lost.{Lost}
use Rattle.signals.specs.Entry.{slot16_of, slot16_in, filled, accept, Signalled}
use Rattle.signals.specs.Answer.{Signalling}
use Rattle.signals.proofs.Laws.{aligns_later, taken_later, first_none, none_first}
use Rattle.signals.proofs.Starts.{few_read, start_within}
use Rattle.signals.proofs.LossLaws.{loses_at, searches_on, searches_until, takes, forgiven, start_begun}
use Rattle.signals.proofs.EntryLaws.{slot16_length, abcd_length, signals_number, signals_accepted, signals_refused}
use Rattle.heard.specs.Hearing.{nothing}
use Rattle.heard.proofs.Rows.{hears_all, told_all, heard_on, told_joined}
use Rattle.signalled.specs.Slot16.{with_slot16}
use Rattle.signalled.specs.Entry.{Wrote}
use Rattle.signalled.specs.Given.{Given}
use Rattle.signalled.proofs.Laws.{with_length, with_multiframes, with_slot16_lem, with_other, with_octets}
use Rattle.signalled.proofs.Calls.{accepted_call, wrote_number, wrote_plain}
use Rattle.claims.specs.Demand2.{Standard, ReadBack}
use Rattle.claims.specs.Signals.{Taken, TakenFirst, SignalledLine, SignalsBack, slot16_row, HeardAlike, Signals}
use Rattle.claims.proofs.Accepts.{signals_is}
use Rattle.claims.proofs.Demand2.{demand_2}
use Rattle.claims.proofs.SignalsBack.{one_high, line_back}

-- Alignment

module _ (t : List ℕ) where
  taken_there : (f : ℕ) → aligns t f ≡ true → Taken t f
  taken_there f a =
      let l = taken_later t f a in
      let b = (and-eq-true_iff (signal_at t f) (not (eqb (get_or t (f - 1) 0) 0))).0 (aligns_later t f (λ z. omega arith) ∙ a) in
      record {
        later = l;
        signal = eqb-true (get_or t f 0 / 16) 0 b.0;
        before = eqb-false (get_or t (f - 1) 0) 0 (not-true _ b.1);
      }

  taken_back : (f : ℕ) → Taken t f → aligns t f ≡ true
  taken_back f h =
      sym (aligns_later t f (λ z. omega (arith, h.later)))
      ∙ ap₂ (λ a b. a && not b) (eq-eqb (get_or t f 0 / 16) 0 h.signal) (ne_eqb (get_or t (f - 1) 0) 0 h.before)

  not_taken : (f : ℕ) → (Taken t f → ⊥) → aligns t f ≡ false
  not_taken f h = go (aligns t f) refl
    where
      go : (b : Bool) → aligns t f ≡ b → b ≡ false
      go true e = absurd (h (taken_there f e))
      go false e = refl

  never_taken : (f : ℕ) → aligns t f ≡ false → Taken t f → ⊥
  never_taken f e h = true≢false (sym (taken_back f h) ∙ e)

  first_taken : (n f : ℕ) → 1 ≤ f → first_in t n ≡ f ↔ TakenFirst t n f
  unfolding first_in
  first_taken n f l = (
    λ e. there (least n (aligns t)) refl e,
    λ h.
        ap (λ o. value_or o 0) ((least_some n (aligns t) f).1
        (record { below = h.among; passes = taken_back f h.here; before = λ j k. not_taken j (h.earlier j k) })),
  )
    where
      there : (o : Option ℕ) → least n (aligns t) ≡ o → value_or o 0 ≡ f → TakenFirst t n f
      there None e z = absurd (omega arith)
      there (Some i) e z =
          let m = (least_some n (aligns t) f).0 (e ∙ ap Some z) in
          record { here = taken_there f m.passes; among = m.below; earlier = λ j k. never_taken j (m.before j k) }

  never : (n : ℕ) → first_in t n ≡ 0 ↔ ((f : ℕ) → f < n → Taken t f → ⊥)
  never n = (
    λ e f l h. never_taken f (least_none n (aligns t) (first_none t n e) f l) h,
    λ h. none_first t n (none_least n (aligns t) (λ f l. not_taken f (h f l))),
  )

  again : (f g : ℕ) → Lost t f → f < g → ((i : ℕ) → f < i → i < g → Taken t i → ⊥) → Taken t g → walk t (g + 1) ≡ begun t g
  again f g l k h a =
      let z : f + 1 + (g - (f + 1)) ≡ g = omega arith in
      let w = searches_until t (f + 1) (g - (f + 1)) (searches_on t f l) (λ i p q. not_taken i (h i (omega arith) (omega arith))) in
      takes t g (sym (ap (walk t) z) ∙ w) (taken_back g a)

  not_from_loss : (n m : ℕ) → m < read_in t n → Lost t (get_or (starts_in t n) m 0) → ⊥
  not_from_loss n m l h =
      let w = sym (start_begun t n m l) ∙ searches_on t (get_or (starts_in t n) m 0) h in
      let z : ◌≡◌ {A = ℕ} 1 0 = ap (λ (w : Walk). w.passed) w in
      omega arith

-- What an accepted reading answers

module _ (s out : List ℕ) (r : Signalling) (out' : List ℕ) (h : Signalled s out r out') where
  abbrev t : List ℕ
  t = slot16_in s

  octet : r.number ≡ 0 → (m c : ℕ) → m < r.multiframes → 1 ≤ c → c ≤ 30
      → get_or out' (30 * m + (c - 1)) 0 ≡ abcd_at t (get_or r.starts m 0) c
  unfolding accept abcd_in
  octet z m c l a b =
      let d = signals_accepted s out r out' h z in
      let n = length t in
      let k : r.multiframes ≡ read_in t n = ap (λ (x : Signalling). x.multiframes) d.0 in
      let i = 30 * m + (c - 1) in
      let q : i / 30 ≡ m = omega arith in
      let p : i % 30 + 1 ≡ c = omega arith in
      ap (λ o. get_or o i 0) d.1
      ∙ get_or-append (abcd_in t n) (drop (filled t) out) 0 i (omega (arith, abcd_length t n))
      ∙ get_d_tab (30 * read_in t n) _ i 0 (omega arith)
      ∙ ap₂ (λ m c. abcd_at t (get_or (starts_in t n) m 0) c) q p
      ∙ ap (λ f. abcd_at t f c)
      (sym (ap (λ (x : Signalling). get_or x.starts m 0) d.0 ∙ get_or-append (starts_in t n) _ 0 m (omega arith)))

  fifteen : r.multiframes ≤ 15
  unfolding accept whole
  fifteen = go r.number refl
    where
      go : (n : ℕ) → r.number ≡ n → r.multiframes ≤ 15
      go zero e =
          let g = ((signals_is s (length out)).0 (sym (signals_number s out r out' h) ∙ e)).good in
          let k : r.multiframes ≡ read_in t (length t) = ap (λ (x : Signalling). x.multiframes) (signals_accepted s out r out' h e).0 in
          omega (arith, few_read t (length t), slot16_length s (start_in s) (used_in s), used_le s (start_in s) (whole_in s), g.short)
      go (suc n) e = rw (signals_refused s out r out' n h e).0 (omega arith)

  -- and frame by frame
  alike : r.number ≡ 0 → HeardAlike t r out'
  unfolding accept
  alike z =
      let d = signals_accepted s out r out' h z in
      let n = length t in
      let a = hears_all t in
      let is = d.0 in
      let m : r.multiframes ≡ read_in t n = ap (λ (x : Signalling). x.multiframes) is in
      record {
        multiframes = m ∙ sym a.multiframes;
        first = ap (λ (x : Signalling). x.first) is ∙ sym a.first;
        losses = ap (λ (x : Signalling). x.losses) is ∙ sym a.losses;
        held = ap (λ (x : Signalling). x.held) is ∙ sym a.held;
        x0 = ap (λ (x : Signalling). x.x0) is ∙ sym (ap (λ x. x / 8 % 2) a.xy);
        x1 = ap (λ (x : Signalling). x.x1) is ∙ sym (ap (λ x. x / 2 % 2) a.xy);
        x2 = ap (λ (x : Signalling). x.x2) is ∙ sym (ap (λ x. x % 2) a.xy);
        y = ap (λ (x : Signalling). x.y) is ∙ sym (ap (λ x. x / 4 % 2) a.xy);
        abcd = ap₂ (λ m o. take (30 * m) o) m d.1
            ∙ take_at (abcd_in t n) (drop (filled t) out) (30 * read_in t n) (abcd_length t n) ∙ sym (told_all t);
      }

-- The row of slot 16 in a payload

rows_joined : (p q : List ℕ) (n : ℕ) → length p ≡ 496 * n → slot16_row (p ++ q) ≡ slot16_row p ++ slot16_row q
rows_joined p q n e =
    let m = multiframes q in
    let a : 16 * multiframes (p ++ q) ≡ 16 * n + 16 * m = omega (arith, length-append p q) in
    let b : 16 * multiframes p ≡ 16 * n = omega arith in
    let f : List ℕ → ℕ → ℕ = λ p f. get_or p (index_of f 16) 0 in
    ap (λ k. tab k (f (p ++ q))) a ∙ tab_split (16 * n) (16 * m) (f (p ++ q))
    ∙ ap₂ (λ x y. x ++ y)
    (tab_agree (16 * n) (f (p ++ q)) (f p) (λ i l. get_or-append p q 0 (index_of i 16) (omega arith)) ∙ ap (λ k. tab k (f p)) (sym b))
    (tab_agree (16 * m) (λ i. f (p ++ q) (16 * n + i)) (f q)
    (λ i l.
    let k : index_of (16 * n + i) 16 ≡ length p + index_of i 16 = omega arith in
    ap (λ j. get_or (p ++ q) j 0) k ∙ get_or-append-add p q (index_of i 16) 0))

row_of : (s : List ℕ) (q g : ℕ) → slot16_row (payload_of s q g) ≡ slot16_of s q g
unfolding slot16_of
row_of s q g =
    let e : 16 * multiframes (payload_of s q g) ≡ 16 * g = omega (arith, payload_length s q g) in
    ap (λ k. tab k (λ f. get_or (payload_of s q g) (index_of f 16) 0)) e
    ∙ tab_agree (16 * g) (λ f. get_or (payload_of s q g) (index_of f 16) 0) (λ f. octet_at s (slot_at q f 16))
    (λ f l. slot_of_lem s q (16 * g) f 16 l (lit≤ tt) (lit≤ tt))

in_payload : (s payload slot0 : List ℕ) (r : Reading) (payload' slot0' : List ℕ)
    → Read s payload slot0 r payload' slot0' → r.number ≡ 0 → slot16_row (take (496 * r.used) payload') ≡ slot16_in s
unfolding reading.accept
in_payload s payload slot0 r payload' slot0' h z =
    let p = payload_of s (start_in s) (used_in s) in
    let rest = drop (496 * used_in s) payload in
    let u : r.used ≡ used_in s = ap (λ (x : Reading). x.used) (read_accepted s payload slot0 r payload' slot0' h z) in
    ap slot16_row
    (ap₂ (λ g x. take (496 * g) x) u (h.its_payload ∙ accepted_so r.number (p ++ rest) payload z)
    ∙ take_at p rest (496 * used_in s) (payload_length s (start_in s) (used_in s)))
    ∙ row_of s (start_in s) (used_in s)

-- What is written

module _ (p o : List ℕ) (c : ℕ) (xy v out : List ℕ) (w : Written) (out' : List ℕ) (h : Wrote p o c xy v out w out') (z : w.number ≡ 0) where
  abbrev n : ℕ
  n = multiframes p

  abbrev q : List ℕ
  q = with_slot16 p xy v

  call : Given xy v n × Fits q o c (length out)
  call = accepted_call p o c xy v (length out) (sym (wrote_number h) ∙ z)

  same : multiframes q ≡ n
  same = with_multiframes p xy v

  inputs : Inputs q o c n
  inputs = subst (Inputs q o c) same call.1.inputs

  line_is : take (512 * n) out' ≡ written q o c (2 * n)
  line_is = subst (λ n. take (512 * n) out' ≡ written q o c (2 * n)) same (wrote_line (wrote_plain h z) z)

  module _ (octets : (i : ℕ) → get_or p i 0 < 256) where
    os : (i : ℕ) → get_or q i 0 < 256
    os = with_octets p xy v n call.0 octets

    standard : Standard (take (512 * n) out') q o c w.check n
    standard =
        subst (λ n. Standard (take (512 * n) out') q o c w.check n) same (demand_2.writes q o c out w out' os (wrote_plain h z) z)

    writes_so : Standard (take (512 * n) out') q o c w.check n × SignalledLine (take (512 * n) out') p xy v n
    writes_so =
        let l : length p ≡ 496 * n = sym (with_length p xy v) ∙ inputs.payload_length in (
          standard,
          record {
            slot_16 = λ f k. standard.payload f 16 k (lit≤ tt) (lit≤ tt) ∙ with_slot16_lem p xy v f (omega arith);
            others = λ f j k a b e. standard.payload f j k a b ∙ with_other p xy v f j (omega arith) a b e;
          },
        )

    plain_back : 4 ≤ n → (payload slot0 : List ℕ) (r : Reading) (payload' slot0' : List ℕ) → 496 * n ≤ length payload
        → 16 * n ≤ length slot0 → Read (take (512 * n) out') payload slot0 r payload' slot0' → ReadBack q o n r payload' slot0'
    plain_back =
        subst (λ n. 4 ≤ n → (payload slot0 : List ℕ) (r : Reading) (payload' slot0' : List ℕ) → 496 * n ≤ length payload
        → 16 * n ≤ length slot0 → Read (take (512 * n) out') payload slot0 r payload' slot0' → ReadBack q o n r payload' slot0') same
        (demand_2.reads_back q o c out w out' os (wrote_plain h z) z)

    signals_back : 4 ≤ n → (buffer : List ℕ) (r : Signalling) (buffer' : List ℕ) → 30 * (n - 1) ≤ length buffer
        → Signalled (take (512 * n) out') buffer r buffer' → SignalsBack xy v n r buffer'
    signals_back four buffer r buffer' room d =
        line_back p o c xy v n call.0 inputs octets four (omega (arith, same, call.1.most)) buffer r buffer' room
        (subst (λ l. Signalled l buffer r buffer') line_is d)

pub signals : Signals
signals =
    record {
      octet = octet;
      fifteen = fifteen;
      first = first_taken;
      never = never;
      loss = loses_at;
      one_wrong = forgiven;
      again = again;
      whole = start_within;
      not_from_loss = not_from_loss;
      heard = hears_all;
      told = told_all;
      pieces = λ t u. (heard_on nothing t u, told_joined nothing t u);
      rows = rows_joined;
      in_payload = in_payload;
      alike = alike;
      writes = λ p o c xy v out r out' octets h z. writes_so p o c xy v out r out' h z octets;
      reads_back = λ p o c xy v out w out' octets h z. plain_back p o c xy v out w out' h z octets;
      signals_back = λ p o c xy v out w out' octets h z. signals_back p o c xy v out w out' h z octets;
      one_before = λ p o c xy v out w out' h z. one_high xy v (multiframes p) (call p o c xy v out w out' h z).0;
    }
