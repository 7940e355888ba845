use Rattle.std.proofs.Common.{◌≡◌, ◌≤◌, ◌<◌, IfOk, subst}
use Rattle.fed_base.specs.Moments.{moment_limit}
use Rattle.fed_json.specs.Forms.{nesting}
use Rattle.key_ring.specs.Sets.{live_set}
use Rattle.sealed.specs.Seals.{IsSealedBy}
use Rattle.authority_core.specs.Answers.{configuration_response}
use Rattle.authority_core.specs.Issued.{configuration_claims}
use Rattle.authority_core.specs.Issues.{IsIssue, issue_by}
use Rattle.authority_core.specs.Nodes.{Node, node_of}
use Rattle.authority_core.specs.ReadBack.{ReadsAs, own_claims}
use Rattle.authority_core.proofs.Responses.{always, answer-issued, answer-live, configuration-is, short-live}
use Rattle.authority_core.proofs.TextLengths.{configuration-brief}
use Rattle.authority_core.proofs.registry.Registry.configuration.Goals as goal

pub returns-clause-response : goal.returns-clause-response
returns-clause-response c =
    let node = node_of c.self.inside.config c.self.inside.ring in
    subst (λ n. IfOk c.signed.result (λ x. x ≡ configuration_response n c.args.t)) c.self.view_is
    (subst (λ y. IfOk c.signed.result (λ x. x ≡ y)) (configuration-is node c.args.t c.signer.result.now c.in_ok-claims.claims c.signer.ensures c.in_ok-claims.ensures.tree) c.signed.ensures.response)

pub returns-clause-short : goal.returns-clause-short
returns-clause-short c =
    configuration-brief c.signed.result (node_of c.self.inside.config c.self.inside.ring) c.args.t c.signer.result.now c.in_ok-claims.claims c.ranges.t.fits c.self.invariant.3
    c.in_ok-claims.ensures.tree c.signed.ensures.response

pub returns-clause-sealed : goal.returns-clause-sealed
returns-clause-sealed c =
    subst (λ (n : Node). IfOk c.signed.result (λ x. IsSealedBy x.body (live_set n.ring))) c.self.view_is
    (short-live c.signed.result c.self.inside.ring (answer-live c.signed.result c.self.inside.ring c.signer.result.now c.signer.ensures c.self.invariant.1 c.signed.ensures.sealed) (returns-clause-short c))

pub returns-clause-reads_back : goal.returns-clause-reads_back
returns-clause-reads_back c =
    let node = node_of c.self.inside.config c.self.inside.ring in
    subst (λ (n : Node). IfOk c.signed.result (λ x. c.args.t < moment_limit → ReadsAs (configuration_claims n c.args.t) (own_claims n.settings (live_set n.ring) c.args.t))) c.self.view_is
    (always c.signed.result _ (λ x small. subst (λ tree. ReadsAs tree (own_claims node.settings (live_set node.ring) c.args.t)) c.in_ok-claims.ensures.tree (c.in_ok-claims.ensures.reads_back small)))

pub returns-clause-issued : goal.returns-clause-issued
returns-clause-issued c =
    let node = node_of c.self.inside.config c.self.inside.ring in
    let claims = own_claims node.settings (live_set node.ring) c.args.t in
    subst (λ (n : Node). IfOk c.signed.result (λ x. c.args.t < moment_limit → nesting (configuration_claims n c.args.t) ≤ 127 → IsIssue (issue_by n x.body (own_claims n.settings (live_set n.ring) c.args.t)))) c.self.view_is
    (answer-issued c.signed.result node c.signer.result.now c.in_ok-claims.claims (configuration_claims node c.args.t) claims (c.args.t < moment_limit)
    c.signer.ensures c.in_ok-claims.ensures.tree c.in_ok-claims.ensures.reads_back (λ own. c.self.invariant.1 c.signer.result.now c.signer.ensures)
    c.signed.ensures.sealed c.signed.ensures.splits c.signed.ensures.reads_back (returns-clause-short c))
