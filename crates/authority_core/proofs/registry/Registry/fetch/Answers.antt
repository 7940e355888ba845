use Rattle.std.proofs.Common.{◌≡◌, ◌∙◌, ◌≤◌, ◌<◌, IfOk, length, None, Some, find, map, ap, subst, sym}
use Rattle.std.specs.Prelude.{IsSome}
use Rattle.fed_base.specs.Moments.{moment_limit}
use Rattle.fed_json.specs.Forms.{nesting}
use Rattle.jws_form.specs.Compact.{max_bytes}
use Rattle.key_ring.specs.Sets.{live_set}
use Rattle.sealed.specs.Seals.{IsSealedBy}
use Rattle.node_config.specs.Nodes.{Subordinate}
use Rattle.node_config.specs.Told.{told_subordinate}
use Rattle.authority_core.specs.Answers.{fetch_response}
use Rattle.authority_core.specs.Issued.{statement_claims}
use Rattle.authority_core.specs.Issues.{IsIssue, issue_by}
use Rattle.authority_core.specs.Nodes.{Node, is_for, node_of, registered}
use Rattle.authority_core.specs.ReadBack.{ReadsAs, claims_about}
use Rattle.authority_core.proofs.Responses.{answer-live, short-live, statement-is, stranger-is, stranger-issues, stranger-reads, stranger-sealed, stranger-short, subordinate-issues, subordinate-reads, whatever}
use Rattle.authority_core.proofs.TextLengths.{statement-brief}
use Rattle.authority_core.proofs.registry.Registry.fetch.Goals as goal

pub returns-in_default-clause-response : goal.returns-in_default-clause-response
returns-in_default-clause-response c =
    let node = node_of c.self.inside.config c.self.inside.ring in
    let none : registered c.args.sub.now node.settings ≡ None = ap (λ l. find (is_for c.args.sub.now) (map told_subordinate l)) (sym c.as_slice.ensures) ∙ sym c.in_default.ensures.found in
    subst (λ n. IfOk c.not_found.result (λ x. x ≡ fetch_response n c.args.t c.args.sub.now)) c.self.view_is
    (subst (λ y. IfOk c.not_found.result (λ x. x ≡ y)) (stranger-is node c.args.t c.args.sub.now none) c.not_found.ensures)

pub returns-in_default-clause-short : goal.returns-in_default-clause-short
returns-in_default-clause-short c =
    let node = node_of c.self.inside.config c.self.inside.ring in
    let none : registered c.args.sub.now node.settings ≡ None = ap (λ l. find (is_for c.args.sub.now) (map told_subordinate l)) (sym c.as_slice.ensures) ∙ sym c.in_default.ensures.found in
    subst (λ (n : Node). IfOk c.not_found.result (λ x. IsSome (registered c.args.sub.now n.settings) → length x.body ≤ max_bytes)) c.self.view_is
    (stranger-short c.not_found.result node c.args.sub.now none)

pub returns-in_default-clause-sealed : goal.returns-in_default-clause-sealed
returns-in_default-clause-sealed c =
    let node = node_of c.self.inside.config c.self.inside.ring in
    let none : registered c.args.sub.now node.settings ≡ None = ap (λ l. find (is_for c.args.sub.now) (map told_subordinate l)) (sym c.as_slice.ensures) ∙ sym c.in_default.ensures.found in
    subst (λ (n : Node). IfOk c.not_found.result (λ x. IsSome (registered c.args.sub.now n.settings) → IsSealedBy x.body (live_set n.ring))) c.self.view_is
    (stranger-sealed c.not_found.result node c.args.sub.now none)

pub returns-in_default-clause-reads_back : goal.returns-in_default-clause-reads_back
returns-in_default-clause-reads_back c =
    let node = node_of c.self.inside.config c.self.inside.ring in
    let none : registered c.args.sub.now node.settings ≡ None = ap (λ l. find (is_for c.args.sub.now) (map told_subordinate l)) (sym c.as_slice.ensures) ∙ sym c.in_default.ensures.found in
    subst (λ (n : Node). IfOk c.not_found.result (λ x. (s : Subordinate) → registered c.args.sub.now n.settings ≡ Some s → c.args.t < moment_limit → ReadsAs (statement_claims n.settings s c.args.t) (claims_about n.settings s c.args.t))) c.self.view_is
    (stranger-reads c.not_found.result node c.args.t c.args.sub.now none)

pub returns-in_default-clause-issued : goal.returns-in_default-clause-issued
returns-in_default-clause-issued c =
    let node = node_of c.self.inside.config c.self.inside.ring in
    let none : registered c.args.sub.now node.settings ≡ None = ap (λ l. find (is_for c.args.sub.now) (map told_subordinate l)) (sym c.as_slice.ensures) ∙ sym c.in_default.ensures.found in
    subst (λ (n : Node). IfOk c.not_found.result (λ x. (s : Subordinate) → registered c.args.sub.now n.settings ≡ Some s → c.args.t < moment_limit → nesting (statement_claims n.settings s c.args.t) ≤ 127 → IsIssue (issue_by n x.body (claims_about n.settings s c.args.t)))) c.self.view_is
    (stranger-issues c.not_found.result node c.args.t c.args.sub.now none)

pub returns-clause-response : goal.returns-clause-response
returns-clause-response c =
    let node = node_of c.self.inside.config c.self.inside.ring in
    let found : registered c.args.sub.now node.settings ≡ Some (told_subordinate c.in-Some.s.now) = ap (λ l. find (is_for c.args.sub.now) (map told_subordinate l)) (sym c.as_slice.ensures) ∙ sym c.in-Some.ensures.found in
    subst (λ n. IfOk c.signed.result (λ x. x ≡ fetch_response n c.args.t c.args.sub.now)) c.self.view_is
    (subst (λ y. IfOk c.signed.result (λ x. x ≡ y))
    (statement-is node c.args.t c.args.sub.now c.signer.result.now (told_subordinate c.in-Some.s.now) c.in_ok-claims.claims c.signer.ensures found c.in_ok-claims.ensures.tree) c.signed.ensures.response)

pub returns-clause-short : goal.returns-clause-short
returns-clause-short c =
    let node = node_of c.self.inside.config c.self.inside.ring in
    let found : registered c.args.sub.now node.settings ≡ Some (told_subordinate c.in-Some.s.now) = ap (λ l. find (is_for c.args.sub.now) (map told_subordinate l)) (sym c.as_slice.ensures) ∙ sym c.in-Some.ensures.found in
    subst (λ (n : Node). IfOk c.signed.result (λ x. IsSome (registered c.args.sub.now n.settings) → length x.body ≤ max_bytes)) c.self.view_is
    (whatever c.signed.result _ _
    (statement-brief c.signed.result node c.args.t c.args.sub.now c.signer.result.now (told_subordinate c.in-Some.s.now) c.in_ok-claims.claims c.ranges.t.fits c.self.invariant.3 found
    c.in_ok-claims.ensures.tree c.signed.ensures.response)
    (λ x short some. short))

pub returns-clause-sealed : goal.returns-clause-sealed
returns-clause-sealed c =
    let node = node_of c.self.inside.config c.self.inside.ring in
    let found : registered c.args.sub.now node.settings ≡ Some (told_subordinate c.in-Some.s.now) = ap (λ l. find (is_for c.args.sub.now) (map told_subordinate l)) (sym c.as_slice.ensures) ∙ sym c.in-Some.ensures.found in
    subst (λ (n : Node). IfOk c.signed.result (λ x. IsSome (registered c.args.sub.now n.settings) → IsSealedBy x.body (live_set n.ring))) c.self.view_is
    (whatever c.signed.result _ _
    (short-live c.signed.result c.self.inside.ring (answer-live c.signed.result c.self.inside.ring c.signer.result.now c.signer.ensures c.self.invariant.1 c.signed.ensures.sealed)
    (statement-brief c.signed.result node c.args.t c.args.sub.now c.signer.result.now (told_subordinate c.in-Some.s.now) c.in_ok-claims.claims c.ranges.t.fits c.self.invariant.3 found
    c.in_ok-claims.ensures.tree c.signed.ensures.response))
    (λ x seals some. seals))

pub returns-clause-reads_back : goal.returns-clause-reads_back
returns-clause-reads_back c =
    let node = node_of c.self.inside.config c.self.inside.ring in
    let found : registered c.args.sub.now node.settings ≡ Some (told_subordinate c.in-Some.s.now) = ap (λ l. find (is_for c.args.sub.now) (map told_subordinate l)) (sym c.as_slice.ensures) ∙ sym c.in-Some.ensures.found in
    subst (λ (n : Node). IfOk c.signed.result (λ x. (s : Subordinate) → registered c.args.sub.now n.settings ≡ Some s → c.args.t < moment_limit → ReadsAs (statement_claims n.settings s c.args.t) (claims_about n.settings s c.args.t))) c.self.view_is
    (subordinate-reads c.signed.result node c.args.t c.args.sub.now (told_subordinate c.in-Some.s.now) c.in_ok-claims.claims c.self.invariant.2 found c.in_ok-claims.ensures.tree c.in_ok-claims.ensures.reads_back)

pub returns-clause-issued : goal.returns-clause-issued
returns-clause-issued c =
    let node = node_of c.self.inside.config c.self.inside.ring in
    let found : registered c.args.sub.now node.settings ≡ Some (told_subordinate c.in-Some.s.now) = ap (λ l. find (is_for c.args.sub.now) (map told_subordinate l)) (sym c.as_slice.ensures) ∙ sym c.in-Some.ensures.found in
    subst (λ (n : Node). IfOk c.signed.result (λ x. (s : Subordinate) → registered c.args.sub.now n.settings ≡ Some s → c.args.t < moment_limit → nesting (statement_claims n.settings s c.args.t) ≤ 127 → IsIssue (issue_by n x.body (claims_about n.settings s c.args.t)))) c.self.view_is
    (subordinate-issues c.signed.result node c.args.t c.args.sub.now c.signer.result.now (told_subordinate c.in-Some.s.now) c.in_ok-claims.claims c.signer.ensures
    c.self.invariant.2 found c.in_ok-claims.ensures.tree c.in_ok-claims.ensures.reads_back c.signed.ensures.sealed c.signed.ensures.splits c.signed.ensures.reads_back
    (statement-brief c.signed.result node c.args.t c.args.sub.now c.signer.result.now (told_subordinate c.in-Some.s.now) c.in_ok-claims.claims c.ranges.t.fits c.self.invariant.3 found
    c.in_ok-claims.ensures.tree c.signed.ensures.response))
