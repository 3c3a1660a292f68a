-- What a payload is mapped to (KIT §7). A map has the entry of output slot j at its index j; what stands at index 0 is
-- never used.
use Rattle.std.specs.Prelude.{if◌then◌else◌, ℕ, ◌≡◌, not, List, [], ◌∷◌, ◌++◌, length, get_or, drop, leb, ltb, eqb}
use Rattle.base.specs.Tab.{tab}
use Rattle.base.specs.Answer.{accepted, Refusal, ◌when◌, first_number}
use Rattle.e1.specs.Payload.{index_of, frame_of, slot_of, sized}

-- an entry over 31 counts as 0 wherever it is used
abbrev pub entry_used : ℕ → ℕ
entry_used e = if leb e 31 then e else 0

abbrev pub entry_at : List ℕ → ℕ → ℕ
entry_at map j = entry_used (get_or map j 0)

-- output slot j of frame f: the octet of the input slot that its entry names, or 255 where it is idle
unfoldable pub slot_octet : List ℕ → List ℕ → ℕ → ℕ → ℕ
slot_octet map payload f j = if eqb (entry_at map j) 0 then 255 else get_or payload (index_of f (entry_at map j)) 0

-- every frame of a payload through the map
unfoldable pub mapped_payload : List ℕ → List ℕ → List ℕ
mapped_payload map payload = tab (length payload) (λ i. slot_octet map payload (frame_of i) (slot_of i))

abbrev pub map_refusals : List ℕ → List ℕ → List Refusal
map_refusals payload out =
    5 when not (sized (length payload))
    ∷ 4 when ltb (length out) (length payload)
    ∷ []

unfoldable pub map_refusal : List ℕ → List ℕ → ℕ
map_refusal payload out = first_number (map_refusals payload out)

-- what the output holds then
unfoldable pub mapped : List ℕ → List ℕ → List ℕ → List ℕ
mapped map payload out = accepted (map_refusal payload out) (mapped_payload map payload ++ drop (length payload) out) out

-- what a call answers, r, and leaves in the output, out'
pub record Mapped (map payload out : List ℕ) (r : ℕ) (out' : List ℕ) : Type 0 where
  pub its_number : r ≡ map_refusal payload out
  pub its_out : out' ≡ mapped map payload out
