use Rattle.std.proofs.Common.{◌≡◌, ◌≤◌, ◌∙◌, IfOk, length, ap, subst}
use Rattle.std.proofs.lemmas.Result.{err_from_is_err_and}
use Rattle.jws_form.specs.Compact.{max_bytes}
use Rattle.key_ring.specs.Sets.{live_set}
use Rattle.sealed.specs.Seals.{IsSealedBy}
use Rattle.authority_core.specs.Answers.{status_response}
use Rattle.authority_core.specs.Nodes.{Node, node_of}
use Rattle.authority_core.proofs.Responses.{answer-live, status-is}
use Rattle.authority_core.specs.Statuses.{status_tests}
use Rattle.authority_core.proofs.StatusLaws.{all-at-most, either-counted, none-at-most}
use Rattle.authority_core.proofs.registry.Registry.status.Goals as goal
use Rattle.fed_base.specs.Counts.{counted}

pub returns-clause-response : goal.returns-clause-response
returns-clause-response g c =
    let node = node_of c.self.inside.config c.self.inside.ring in
    subst (λ n. IfOk c.signed.result (λ x. x ≡ status_response n c.args.t c.args.mark.now)) c.self.view_is
    (subst (λ y. IfOk c.signed.result (λ x. x ≡ y))
    (status-is node c.args.t c.args.mark.now c.signer.result.now c.in_ok-status.status c.in_ok-claims.claims c.signer.ensures c.in_ok-status.ensures.status c.in_ok-claims.ensures.tree) c.signed.ensures.response)

pub returns-clause-sealed : goal.returns-clause-sealed
returns-clause-sealed g c =
    let node = node_of c.self.inside.config c.self.inside.ring in
    subst (λ (n : Node). IfOk c.signed.result (λ x. length x.body ≤ max_bytes → IsSealedBy x.body (live_set n.ring))) c.self.view_is
    (answer-live c.signed.result c.self.inside.ring c.signer.result.now c.signer.ensures c.self.invariant.1 c.signed.ensures.sealed)

pub returns-in_err-status-clause-counted : goal.returns-in_err-status-clause-counted
returns-in_err-status-clause-counted g c =
    let p = err_from_is_err_and c.from_residual.result c.from_residual.ensures.1 in
    rw p.1 (none-at-most _ _ _ c.in_err-status.ensures.counted)

pub returns-in_err-claims-clause-counted : goal.returns-in_err-claims-clause-counted
returns-in_err-claims-clause-counted g c =
    let p = err_from_is_err_and c.from_residual-in_err-claims.result c.from_residual-in_err-claims.ensures.1 in
    rw p.1 (all-at-most _ _ _ (c.in_ok-status.ensures.counted ∙ ap (λ n. counted (status_tests n c.args.mark.now) (g.L.Ledger.count c.args.steps.now.ledger)) c.self.view_is))

pub returns-clause-counted : goal.returns-clause-counted
returns-clause-counted g c =
    either-counted c.signed.result (status_tests c.args.self.now c.args.mark.now) (g.L.Ledger.count c.args.steps.now.ledger) _ (c.in_ok-status.ensures.counted ∙ ap (λ n. counted (status_tests n c.args.mark.now) (g.L.Ledger.count c.args.steps.now.ledger)) c.self.view_is)
