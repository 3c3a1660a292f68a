-- Values in the places of an answer, zeros behind.
use native.Mathlib.Omega.{arith}
use Rattle.std.proofs.Common.{◌≡◌, ℕ, ◌+◌, ◌-◌, ◌≤◌, List, ◌++◌, length, take, drop, ap, sym, ◌∙◌}
use Rattle.std.proofs.Math.ListN.{replicate}
use Rattle.std.proofs.Math.Seq.{take-append-add}
use Rattle.std.proofs.lemmas.List.{drop-replicate, take-replicate}
use Rattle.jikhvanto.specs.Octets.{answer_of}

abbrev pub zeros : List ℕ
zeros = replicate 16 0

pub laid : (v : List ℕ) → length v ≤ 16 → v ++ drop (length v) zeros ≡ answer_of v
laid v h =
    let n = 16 - length v in
    let e : 16 ≡ length v + n = omega arith in
    sym
    (ap (λ m. take m (v ++ zeros)) e ∙ take-append-add v zeros n
    ∙ ap (λ z. v ++ z) (take-replicate n 16 0 (omega arith) ∙ sym (drop-replicate (length v) 16 0)))
