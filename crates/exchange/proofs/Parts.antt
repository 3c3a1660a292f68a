-- A payload's frames, mapped part by part.
use Rattle.std.specs.Prelude.{if◌then◌else◌}
use Prim.Native.Nat.{ℕ, zero, suc, ◌+◌, ◌-◌, ◌*◌, ◌/◌, ◌%◌, ◌≤◌, ◌<◌}
use mathlib.Core.Path.{◌≡◌, refl, sym, ap, ap₂, ◌∙◌}
use mathlib.Core.Bool.{true, and-eq-true_iff}
use mathlib.Core.List.{List, ◌∷◌, ◌++◌, append_assoc}
use native.Mathlib.Omega.{arith}
use lib.ListN.{length, get_or, take, drop}
use lib.Seq.{take_at, drop_at, drop-drop, take-add, take-length, length-take-le}
use lib.Dec.{eqb}
use borrow.Author.Tests.{eqb-true, ne_eqb}
use Rattle.base.specs.Tab.{tab_from, tab}
use Rattle.base.proofs.TabLaws.{get_d_tab, tab_agree}
use Rattle.e1.specs.Payload.{index_of, frame_of, slot_of, sized}
use Rattle.exchange.proofs.Laws.{refused_mapping}
use Rattle.exchange.specs.Mapping.{entry_used, entry_at, slot_octet, mapped_payload, map_refusal, Mapped}
use Rattle.exchange.proofs.MapLaws.{entry_within, entry_small, octet_of, mapped_length, mapped_append}
use Rattle.exchange.proofs.MapLaws.{accepted_mapping}

-- a frame with 255 before its slots: its octet by an entry
slot_of_entry : (p : List ℕ) (e : ℕ) → get_or (255 ∷ p) e 0 ≡ (if eqb e 0 then 255 else get_or p (index_of 0 e) 0)
slot_of_entry p zero = refl
slot_of_entry p (suc e) = let i : index_of 0 (suc e) ≡ e = omega arith in rw (ne_eqb (suc e) 0 (λ q. omega arith), i)

pub slot_taken : (m p : List ℕ) (i : ℕ) → i < 31 → get_or m (i + 1) 0 ≤ 31
    → get_or (255 ∷ p) (get_or m (i + 1) 0) 0 ≡ octet_of m p i
unfolding slot_octet
slot_taken m p i l h =
    let f : frame_of i ≡ 0 = omega arith in
    let j : slot_of i ≡ i + 1 = omega arith in
    rw (f, j, entry_within (get_or m (i + 1) 0) h) (slot_of_entry p (get_or m (i + 1) 0))

-- entries as they are used map as the map does
pub entries_small : (m m' : List ℕ) → m' ≡ tab 32 (entry_at m) → (j : ℕ) → j < 32 → get_or m' j 0 ≤ 31
entries_small m m' e j h = rw (e, get_d_tab 32 (entry_at m) j 0 h) (entry_small (get_or m j 0))

pub entries_same : (m m' p : List ℕ) → m' ≡ tab 32 (entry_at m) → mapped_payload m' p ≡ mapped_payload m p
unfolding mapped_payload slot_octet
entries_same m m' p e =
    tab_agree (length p) (octet_of m' p) (octet_of m p)
    (λ i h.
    let j = slot_of i in
    let g : get_or m' j 0 ≡ entry_at m j = rw e (get_d_tab 32 (entry_at m) j 0 (omega arith)) in
    let u : entry_at m' j ≡ entry_at m j = ap entry_used g ∙ entry_within (entry_at m j) (entry_small (get_or m j 0)) in
    ap (λ x. if eqb x 0 then 255 else get_or p (index_of (frame_of i) x) 0) u)

-- the output where its first n octets are p and the rest is d's: the next k are put in as q
graft : (p d q : List ℕ) (n k : ℕ) → length p ≡ n
    → take n (p ++ drop n d) ++ (q ++ drop k (drop n (p ++ drop n d))) ≡ (p ++ q) ++ drop (n + k) d
graft p d q n k e = rw (take_at p (drop n d) n e, drop_at p (drop n d) n e, drop-drop, append_assoc)

module _ (m p d : List ℕ) where
  -- the output when k frames are mapped
  abbrev pub done : ℕ → List ℕ
  done k = mapped_payload m (take (31 * k) p) ++ drop (31 * k) d

  module _ (k : ℕ) (more : 31 * k + 31 ≤ length p) where
    long : length (mapped_payload m (take (31 * k) p)) ≡ 31 * k
    long = mapped_length m (take (31 * k) p) ∙ length-take-le (31 * k) p (omega arith)

    pub done_more : (o q : List ℕ) → o ≡ done k → q ≡ mapped_payload m (take (31 * k + 31 - 31 * k) (drop (31 * k) p))
        → take (31 * k) o ++ (q ++ drop (31 * k + 31 - 31 * k) (drop (31 * k) o)) ≡ done (k + 1)
    done_more o q e h =
        let w : 31 * k + 31 - 31 * k ≡ 31 = omega arith in
        let n : 31 * k + 31 ≡ 31 * (k + 1) = omega arith in
        rw (h, e, w, graft (mapped_payload m (take (31 * k) p)) d (mapped_payload m (take 31 (drop (31 * k) p))) (31 * k) 31 long)
        (ap₂ (λ x y. x ++ y)
        (sym (mapped_append m (take (31 * k) p) (take 31 (drop (31 * k) p)) k (length-take-le (31 * k) p (omega arith)))
        ∙ ap (mapped_payload m) (sym (take-add (31 * k) 31 p) ∙ ap (λ i. take i p) n))
        (ap (λ i. drop i d) n))

  pub done_none : d ≡ done 0
  unfolding mapped_payload tab_from
  done_none = refl

  -- the contract, of a refused call and of all frames
  pub refused : (n : ℕ) → (n ≡ 0 → ⊥) → n ≡ map_refusal p d → Mapped m p d n d
  refused n h e = record { its_number = e; its_out = sym (refused_mapping m p d (λ z. h (e ∙ z))) }

  pub all_done : (o : List ℕ) (k : ℕ) → 31 * k ≡ length p → o ≡ done k → 0 ≡ map_refusal p d → Mapped m p d 0 o
  all_done o k h e z =
      record {
        its_number = z;
        its_out =
            e
            ∙ rw h (ap (λ l. mapped_payload m l ++ drop (length p) d) (take-length p))
            ∙ sym (accepted_mapping m p d (sym z));
      }

-- a payload of the right size is whole frames
pub whole_frames : (n : ℕ) → sized n ≡ true → 31 * (n / 31) ≡ n
unfolding sized
whole_frames n e = let r = eqb-true (n % 496) 0 ((and-eq-true_iff (eqb (n % 496) 0) _).0 e).0 in omega arith
