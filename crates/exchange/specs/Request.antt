-- What a host record asks for, by its kind (KIT §7).
use Rattle.std.specs.Prelude.{◌≡◌, ℕ, List, Result, Ok, Err}
use Rattle.base.specs.Number.{refusal_number}
use Rattle.base.specs.declared.Refused.{Refused}
use Rattle.exchange.specs.declared.Request.{Request}
use Rattle.exchange.specs.declared.Request.TheVariants.{Stage, Commit, Read, Drop}
use Rattle.exchange.specs.Machine.{kind_of, a_of, b_of, record_refusal}

abbrev pub request_kind : Request → ℕ
request_kind (Stage a b) = 1
request_kind Commit = 2
request_kind (Read a) = 3
request_kind Drop = 4

-- the record r asks for q
abbrev pub Asks : List ℕ → Request → Type 0
Asks r (Stage a b) = (kind_of r ≡ 1) × (a_of r ≡ a) × (b_of r ≡ b)
Asks r Commit = kind_of r ≡ 2
Asks r (Read a) = (kind_of r ≡ 3) × (a_of r ≡ a)
Asks r Drop = kind_of r ≡ 4

-- what it is read as: a request where nothing of the record itself refuses it
abbrev pub Parsed : List ℕ → Result Request Refused → Type 0
Parsed r (Ok q) = (record_refusal r ≡ 0) × Asks r q
Parsed r (Err e) = record_refusal r ≡ refusal_number e
