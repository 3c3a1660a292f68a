-- A stream and its octets.
use Prim.Native.Nat.{ℕ, ◌+◌, ◌-◌, ◌*◌, ◌/◌, ◌%◌, ◌≤◌}
use mathlib.Core.Path.{◌≡◌, refl, sym, ap, ap₂, subst, ◌∙◌}
use mathlib.Core.Bool.{true, false, true≢false}
use mathlib.Core.List.{List, ◌++◌, append-nil}
use native.Mathlib.Omega.{arith}
use lib.ListN.{length, get_or, take, drop, length-take, length-drop, drop_of_length-le}
use lib.Seq.{drop_at, take_all}
use borrow.Rule.Slice.PartMut.{put_mid, put_same}
use Rattle.std.specs.Prelude.{Result, Ok, Err, is_ok}
use Rattle.base.specs.Tab.{tab}
use Rattle.base.specs.Number.{number_in}
use Rattle.base.specs.declared.Refused.{Refused}
use Rattle.base.proofs.NumberLaws.{refusal_above_0}
use Rattle.base.proofs.TabLaws.{length_tab, tab_agree}
use Rattle.base.proofs.PartLaws.{part_more, part_rest, parts_kept}
use Rattle.base.proofs.AnswerLaws.{accepted_so, accepted_not}
use Rattle.line.specs.Bit.{field}
use Rattle.stream.specs.Entry.{Feeds}
use Rattle.stream.specs.Answer.{Fed, fed_answer}
use Rattle.stream.specs.declared.Stream.{Stream}
use Rattle.line.specs.Spelt.{spelt_octet}
use Rattle.jikhvanto.specs.Octets.{value_in}
use Rattle.jikhvanto.specs.Stream.{number_at, stream_of, window_of, stream_numbers, spelt_numbers}
use Rattle.jikhvanto.specs.Stream.{octets_of_stream, feeding_of, feed_stored}

-- number i is spelt from octet 8i on
pub number_from : (i : ℕ) (octets : List ℕ) → field octets (8 * (8 * i)) 64 ≡ number_at i octets
unfolding number_at
number_from i octets = let e : 8 * (8 * i) ≡ 64 * i = omega arith in ap (λ p. field octets p 64) e

-- octet i of those that spell the numbers
abbrev pub spelt_at : List ℕ → ℕ → ℕ
spelt_at numbers i = spelt_octet (get_or numbers (i / 8) 0) (i % 8)

-- the octets of number i among them
pub spelt_part : (numbers : List ℕ) (i : ℕ) → tab 8 (spelt_octet (get_or numbers i 0)) ≡ tab 8 (λ j. spelt_at numbers (8 * i + j))
spelt_part numbers i =
    tab_agree 8 (spelt_octet (get_or numbers i 0)) (λ j. spelt_at numbers (8 * i + j))
    (λ j h.
    let a : i ≡ (8 * i + j) / 8 = omega arith in
    let b : j ≡ (8 * i + j) % 8 = omega arith in
    ap₂ (λ n k. spelt_octet (get_or numbers n 0) k) a b)

-- The octets of number i put over those of xs.
module _ (numbers : List ℕ) (i : ℕ) (xs ys : List ℕ) (h : 8 * i + 8 ≤ length xs) (y : ys ≡ tab 8 (spelt_octet (get_or numbers i 0))) where
  abbrev put : List ℕ
  put = put_mid (8 * i) (8 * i + 8 - 8 * i) xs ys

  as_part : ys ≡ tab (8 * i + 8 - 8 * i) (λ j. spelt_at numbers (8 * i + j))
  as_part =
      let e : 8 ≡ 8 * i + 8 - 8 * i = omega arith in
      y ∙ spelt_part numbers i ∙ ap (λ n. tab n (λ j. spelt_at numbers (8 * i + j))) e

  next : 8 * (i + 1) ≡ 8 * i + 8
  next = omega arith

  pub spelt_more : take (8 * i) xs ≡ tab (8 * i) (spelt_at numbers) → take (8 * (i + 1)) put ≡ tab (8 * (i + 1)) (spelt_at numbers)
  spelt_more t =
      ap (λ n. take n put) next ∙ part_more (spelt_at numbers) (8 * i) (8 * i + 8) xs ys (omega arith) h as_part t
      ∙ ap (λ n. tab n (spelt_at numbers)) (sym next)

  pub spelt_rest : (xs₀ : List ℕ) → drop (8 * i) xs ≡ drop (8 * i) xs₀ → drop (8 * (i + 1)) put ≡ drop (8 * (i + 1)) xs₀
  spelt_rest xs₀ t =
      ap (λ n. drop n put) next ∙ part_rest (spelt_at numbers) (8 * i) (8 * i + 8) xs ys (omega arith) h as_part xs₀ t
      ∙ ap (λ n. drop n xs₀) (sym next)

-- all twelve
pub spelt_done : (numbers : List ℕ) (i : ℕ) (xs xs₀ : List ℕ) → i ≡ 12 → take (8 * i) xs ≡ tab (8 * i) (spelt_at numbers)
    → drop (8 * i) xs ≡ drop (8 * i) xs₀ → xs ≡ spelt_numbers numbers ++ drop 96 xs₀
unfolding spelt_numbers
spelt_done numbers i xs xs₀ e t d = parts_kept (spelt_at numbers) 96 (8 * i) xs xs₀ (omega arith) t d

-- The window in the octets: what stands behind them, and what is put there.

pub spelt_length : (numbers : List ℕ) → length (spelt_numbers numbers) ≡ 96
unfolding spelt_numbers
spelt_length numbers = length_tab 96 (spelt_at numbers)

pub window_behind : (numbers window : List ℕ) → window_of (spelt_numbers numbers ++ window) ≡ window
window_behind numbers window = drop_at (spelt_numbers numbers) window 96 (spelt_length numbers)

module _ (octets : List ℕ) (e : length octets ≡ 2144) where
  behind : length (drop 96 octets) ≡ 2048
  behind = length-drop 96 octets ∙ omega arith

  pub window_length : length (window_of octets) ≡ 2048
  window_length = behind

  pub window_whole : take 2048 (drop 96 octets) ≡ window_of octets
  window_whole = take_all 2048 (drop 96 octets) (omega (arith, behind))

  pub window_put : (window : List ℕ) → window_of (put_mid 96 2048 octets window) ≡ window
  window_put window =
      drop_at (take 96 octets) (window ++ drop 2048 (drop 96 octets)) 96 (omega (arith, length-take 96 octets))
      ∙ ap (λ l. window ++ l) (drop_of_length-le (drop 96 octets) {i = 2048} (omega (arith, behind))) ∙ append-nil window

  pub window_same : put_mid 96 2048 octets (window_of octets) ≡ octets
  window_same = ap (put_mid 96 2048 octets) (sym window_whole) ∙ put_same 96 2048 octets

numbers : (st : Stream) (x : Result ℕ Refused)
    → (number_in x ≡ (fed_answer st x).number) × (value_in x ≡ (fed_answer st x).multiframes)
numbers st (Ok n) = (refl, refl)
numbers st (Err e) = (refl, refl)

-- an answer of which it is known whether it is a refusal

taken : (st : Stream) (x : Result ℕ Refused) → is_ok x ≡ true → ((fed_answer st x).number ≡ 0) × ((fed_answer st x).stream ≡ st)
taken st (Ok n) z = (refl, refl)
taken st (Err e) z = absurd (true≢false (sym z))

refused : (st : Stream) (x : Result ℕ Refused) → is_ok x ≡ false → (fed_answer st x).number ≡ 0 → ⊥
refused st (Ok n) z = absurd (true≢false z)
refused st (Err e) z = refusal_above_0 e

-- What a chunk leaves, taken and refused, where x is answered and the stream st left.
module _ (octets chunk payload slot0 window' payload' slot0' : List ℕ) (long : length octets ≡ 2144) (was st : Stream)
    (x : Result ℕ Refused) (is : was ≡ stream_of octets)
    (feeds : Feeds was (take 2048 (drop 96 octets)) chunk payload slot0 (fed_answer st x) window' payload' slot0') where
  abbrev fed : Fed
  fed = feeding_of octets chunk (length payload) (length slot0)

  f : Feeds (stream_of octets) (window_of octets) chunk payload slot0 (fed_answer st x) window' payload' slot0'
  f =
      subst (λ s. Feeds s (window_of octets) chunk payload slot0 (fed_answer st x) window' payload' slot0') is
      (subst (λ w. Feeds was w chunk payload slot0 (fed_answer st x) window' payload' slot0') (window_whole octets long) feeds)

  pub fed_number : number_in x ≡ fed.number
  fed_number = (numbers st x).0 ∙ ap (λ (r : Fed). r.number) f.its_answer

  pub fed_value : value_in x ≡ fed.multiframes
  fed_value = (numbers st x).1 ∙ ap (λ (r : Fed). r.multiframes) f.its_answer

  outputs : (w : List ℕ) → w ≡ window' → Feeds (stream_of octets) (window_of octets) chunk payload slot0 fed w payload' slot0'
  outputs w e =
      subst (λ r. Feeds (stream_of octets) (window_of octets) chunk payload slot0 r w payload' slot0') f.its_answer
      (record { its_answer = f.its_answer; its_window = e ∙ f.its_window; its_payload = f.its_payload; its_slot0 = f.its_slot0 })

  abbrev pub Leaves : List ℕ → Type 0
  Leaves octets' =
      Feeds (stream_of octets) (window_of octets) chunk payload slot0 fed (window_of octets') payload' slot0'
      × (octets' ≡ feed_stored octets chunk (length payload) (length slot0))

  pub fed_taken : is_ok x ≡ true → (octets' : List ℕ)
      → octets' ≡ spelt_numbers (stream_numbers st) ++ window_of (put_mid 96 2048 octets window') → Leaves octets'
  unfolding feed_stored
  fed_taken z octets' e =
      let n = taken st x z in
      let put = e ∙ ap (λ w. spelt_numbers (stream_numbers st) ++ w) (window_put octets long window') in (
        outputs (window_of octets') (ap window_of put ∙ window_behind (stream_numbers st) window'),
        put
            ∙ ap₂ octets_of_stream (sym n.1 ∙ ap (λ (r : Fed). r.stream) f.its_answer) (f.its_window ∙ accepted_so _ _ _ n.0)
            ∙ sym (accepted_so fed.number _ _ (sym (ap (λ (r : Fed). r.number) f.its_answer) ∙ n.0)),
      )

  pub fed_refused : is_ok x ≡ false → (octets' : List ℕ) → octets' ≡ put_mid 96 2048 octets window' → Leaves octets'
  unfolding feed_stored
  fed_refused z octets' e =
      let n = refused st x z in
      let same = f.its_window ∙ accepted_not _ _ _ n in
      let stays = e ∙ ap (put_mid 96 2048 octets) same ∙ window_same octets long in (
        outputs (window_of octets') (ap window_of stays ∙ sym same),
        stays ∙ sym (accepted_not fed.number _ _ (λ y. n (ap (λ (r : Fed). r.number) f.its_answer ∙ y))),
      )
