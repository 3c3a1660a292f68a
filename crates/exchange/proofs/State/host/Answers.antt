-- The record is refused by itself, or by the state, or what it asks for is done.
use Rattle.std.proofs.Common.{ap, sym, ◌∙◌, arith}
use Rattle.std.proofs.lemmas.Result.{err_from_is_err_and}
use Rattle.exchange.specs.Answer.{accept}
use Rattle.exchange.proofs.Requests.{by_record, by_state, refused_by, accepted_by, stage_slot, read_slot}
use Rattle.exchange.proofs.State.host.Goals as goal

pub returns-in_err-request : goal.returns-in_err-request
returns-in_err-request c =
    let p = err_from_is_err_and c.from_residual.result c.from_residual.ensures.1 in
    rw (p.1, p.2) (refused_by _ _ _ (by_record _ _ _ c.in_err-request.ensures))

pub returns-in_err-permit : goal.returns-in_err-permit
returns-in_err-permit c =
    let p = err_from_is_err_and c.from_residual-in_err-permit.result c.from_residual-in_err-permit.ensures.1 in
    rw (p.1, p.2) (refused_by _ _ _ (by_state _ _ _ c.in_ok-request.ensures ∙ sym c.in_err-permit.ensures))

pub stage-requires : goal.stage-requires
stage-requires c =
    let a = c.args in
    let h = c.in_ok-request.ensures in
    stage_slot a.self.now a.octets.now _ _ (rw c.in-Stage.is at h.1)
    (by_state a.self.now a.octets.now _ h ∙ sym c.in_ok-permit.ensures)

pub bounds-self-output : goal.bounds-self-output
bounds-self-output c =
    let a = c.args in
    let h = c.in_ok-request.ensures in
    let z = by_state a.self.now a.octets.now _ h ∙ sym c.in_ok-permit.ensures in
    omega (arith, read_slot a.self.now a.octets.now _ (rw c.in-Read.is at h.1) z)

pub returns-in-Read : goal.returns-in-Read
returns-in-Read c =
    let a = c.args in
    let h = c.in_ok-request.ensures in
    let z = by_state a.self.now a.octets.now _ h ∙ sym c.in_ok-permit.ensures in
    ap (accept a.self.now) c.used.ensures ∙ (rw c.in-Read.is at (accepted_by a.self.now a.octets.now _ h.1 z))

pub returns-in-Stage : goal.returns-in-Stage
returns-in-Stage c =
    let a = c.args in
    let h = c.in_ok-request.ensures in
    let z = by_state a.self.now a.octets.now _ h ∙ sym c.in_ok-permit.ensures in
    ap (λ t. accept t 0) c.stage.ensures ∙ (rw c.in-Stage.is at (accepted_by a.self.now a.octets.now _ h.1 z))

pub returns-in-Commit : goal.returns-in-Commit
returns-in-Commit c =
    let a = c.args in
    let h = c.in_ok-request.ensures in
    let z = by_state a.self.now a.octets.now _ h ∙ sym c.in_ok-permit.ensures in
    ap (λ t. accept t 0) c.commit.ensures ∙ (rw c.in-Commit.is at (accepted_by a.self.now a.octets.now _ h.1 z))

pub returns-in-Drop : goal.returns-in-Drop
returns-in-Drop c =
    let a = c.args in
    let h = c.in_ok-request.ensures in
    let z = by_state a.self.now a.octets.now _ h ∙ sym c.in_ok-permit.ensures in
    rw c.in-Drop.is at (accepted_by a.self.now a.octets.now _ h.1 z)
