-- Mapping, octet by octet.
use Rattle.std.specs.Prelude.{if◌then◌else◌}
use Prim.Native.Nat.{ℕ, ◌+◌, ◌*◌, ◌/◌, ◌<◌, ◌≤◌}
use mathlib.Core.Path.{◌≡◌, refl, sym, ap, ap₂, ◌∙◌}
use mathlib.Core.Bool.{Bool, true, false}
use mathlib.Core.List.{List, ◌++◌}
use native.Mathlib.Omega.{arith}
use lib.Dec.{leb}
use lib.ListN.{length, get_or, drop, length-append, get_or-append}
use lib.Seq.{ext_get_or, get_or-append-add}
use borrow.Author.Tests.{ne_eqb, le-leb, lt-leb, leb-true}
use Rattle.base.specs.Tab.{tab}
use Rattle.base.proofs.TabLaws.{length_tab, get_d_tab, tab_agree, tab_split}
use Rattle.e1.specs.Payload.{index_of, frame_of, slot_of}
use Rattle.e1.proofs.Laws.{frame_of_index, slot_of_index, index_of_lem}
use Rattle.base.proofs.AnswerLaws.{accepted_so}
use Rattle.exchange.specs.Mapping.{entry_used, entry_at, slot_octet, mapped_payload, map_refusal, mapped, Mapped}

-- an entry as it is used
pub entry_within : (e : ℕ) → e ≤ 31 → entry_used e ≡ e
entry_within e h = rw (le-leb e 31 h)

pub entry_over : (e : ℕ) → 31 < e → entry_used e ≡ 0
entry_over e h = rw (lt-leb e 31 h)

pub entry_small : (e : ℕ) → entry_used e ≤ 31
entry_small e = go (leb e 31) refl
  where
    go : (t : Bool) → leb e 31 ≡ t → (if t then e else 0) ≤ 31
    go true h = leb-true e 31 h
    go false h = omega arith

-- output slot j: idle, or the input slot that its entry names
pub idle_slot : (m p : List ℕ) (f j : ℕ) → entry_at m j ≡ 0 → slot_octet m p f j ≡ 255
unfolding slot_octet
idle_slot m p f j e = rw e

pub taken_slot : (m p : List ℕ) (f j : ℕ) → (entry_at m j ≡ 0 → ⊥)
    → slot_octet m p f j ≡ get_or p (index_of f (entry_at m j)) 0
unfolding slot_octet
taken_slot m p f j h = rw (ne_eqb (entry_at m j) 0 h)

-- a mapped payload
abbrev pub octet_of : List ℕ → List ℕ → ℕ → ℕ
octet_of m p i = slot_octet m p (frame_of i) (slot_of i)

pub mapped_length : (m p : List ℕ) → length (mapped_payload m p) ≡ length p
unfolding mapped_payload
mapped_length m p = length_tab (length p) (octet_of m p)

module _ (m p : List ℕ) (f j : ℕ) (first : 1 ≤ j) (last : j ≤ 31) (inside : f < length p / 31) where
  pub mapped_octet : get_or (mapped_payload m p) (index_of f j) 0 ≡ slot_octet m p f j
  unfolding mapped_payload
  mapped_octet =
      get_d_tab (length p) (octet_of m p) (index_of f j) 0 (omega arith)
      ∙ ap₂ (slot_octet m p) (frame_of_index f j first last) (slot_of_index f j first last)

  pub mapped_zero : get_or m j 0 ≡ 0 → get_or (mapped_payload m p) (index_of f j) 0 ≡ 255
  mapped_zero e = mapped_octet ∙ idle_slot m p f j (rw e)

  pub mapped_over : 31 < get_or m j 0 → get_or (mapped_payload m p) (index_of f j) 0 ≡ 255
  mapped_over h = mapped_octet ∙ idle_slot m p f j (entry_over (get_or m j 0) h)

  pub mapped_entry : (e : ℕ) → get_or m j 0 ≡ e → 1 ≤ e → e ≤ 31
      → get_or (mapped_payload m p) (index_of f j) 0 ≡ get_or p (index_of f e) 0
  mapped_entry e q h k =
      let u : entry_at m j ≡ e = rw q (entry_within e k) in
      mapped_octet ∙ taken_slot m p f j (λ z. omega arith) ∙ ap (λ x. get_or p (index_of f x) 0) u

-- the identity map gives the payload back
pub identity_keeps : (p : List ℕ) → mapped_payload (tab 32 (λ j. j)) p ≡ p
unfolding mapped_payload
identity_keeps p = ext_get_or 0 _ p (mapped_length (tab 32 (λ j. j)) p) (λ i h. at i (rw mapped_length at h))
  where
    at : (i : ℕ) → i < length p → get_or (mapped_payload (tab 32 (λ j. j)) p) i 0 ≡ get_or p i 0
    at i h =
        let t : get_or (tab 32 (λ j. j)) (slot_of i) 0 ≡ slot_of i = get_d_tab 32 (λ j. j) (slot_of i) 0 (omega arith) in
        let u : entry_at (tab 32 (λ j. j)) (slot_of i) ≡ slot_of i = rw t (entry_within (slot_of i) (omega arith)) in
        get_d_tab (length p) (octet_of (tab 32 (λ j. j)) p) i 0 h
        ∙ taken_slot (tab 32 (λ j. j)) p (frame_of i) (slot_of i) (λ z. omega arith)
        ∙ ap (λ x. get_or p (index_of (frame_of i) x) 0) u
        ∙ ap (λ x. get_or p x 0) (index_of_lem i)

-- whole frames, and what follows them
module _ (m p q : List ℕ) (k : ℕ) (whole : length p ≡ 31 * k) where
  slot_before : (f j : ℕ) → f < k → slot_octet m (p ++ q) f j ≡ slot_octet m p f j
  unfolding slot_octet
  slot_before f j h =
      let l = entry_small (get_or m j 0) in
      rw (get_or-append p q 0 (index_of f (entry_at m j)) (omega arith))

  slot_behind : (f j : ℕ) → slot_octet m (p ++ q) (k + f) j ≡ slot_octet m q f j
  unfolding slot_octet
  slot_behind f j =
      let e : index_of (k + f) (entry_at m j) ≡ length p + index_of f (entry_at m j) = omega arith in
      rw (e, get_or-append-add p q (index_of f (entry_at m j)) 0)

  pub mapped_append : mapped_payload m (p ++ q) ≡ mapped_payload m p ++ mapped_payload m q
  unfolding mapped_payload
  mapped_append =
      ap (λ n. tab n (octet_of m (p ++ q))) (length-append p q)
      ∙ tab_split (length p) (length q) (octet_of m (p ++ q))
      ∙ ap₂ (λ a b. a ++ b)
      (tab_agree (length p) (octet_of m (p ++ q)) (octet_of m p) (λ i h. slot_before (frame_of i) (slot_of i) (omega arith)))
      (tab_agree (length q) (λ i. octet_of m (p ++ q) (length p + i)) (octet_of m q)
      (λ i h. ap₂ (slot_octet m (p ++ q)) (omega arith) (omega arith) ∙ slot_behind (frame_of i) (slot_of i)))

-- what an accepted call leaves in the output
pub accepted_mapping : (m p out : List ℕ) → map_refusal p out ≡ 0
    → mapped m p out ≡ mapped_payload m p ++ drop (length p) out
unfolding mapped
accepted_mapping m p out z = accepted_so (map_refusal p out) (mapped_payload m p ++ drop (length p) out) out z

-- two results that the contract admits are equal
pub mapped_single : (m p out : List ℕ) (r r' : ℕ) (out' out'' : List ℕ) → Mapped m p out r out'
    → Mapped m p out r' out'' → (r ≡ r') × (out' ≡ out'')
mapped_single m p out r r' out' out'' a b = (a.its_number ∙ sym b.its_number, a.its_out ∙ sym b.its_out)
