use Rattle.std.proofs.Common.{◌∙◌, ap, codes, subst}
use Rattle.entity_id.specs.Identifiers.{IsIdentifier}
use Rattle.node_config.specs.Told.{told}
use Rattle.authority_core.specs.Endpoints.{endpoint_member}
use Rattle.authority_core.proofs.MetadataLaws.{endpoints-are, five-joined}
use Rattle.authority_core.proofs.metadata.push_endpoints.Goals as goal

pub returns-clause-members : goal.returns-clause-members
returns-clause-members c =
    λ none. endpoints-are (told c.args.node.now) c.has_any-above.result c.resolves.result c.in_ok-endpoint.field-0 c.in_ok-endpoint-2.field-0 c.in_ok-endpoint-3.field-0 c.in_ok-endpoint-4.field-0 c.in_ok-endpoint-5.field-0
    c.push-2.new.self
    (five-joined c.args.all.now c.push_where.new.members c.push.new.self c.push_where-2.new.members c.push_where-3.new.members c.push-2.new.self _ _ _ _ _
    none c.in_ok-push_where.ensures c.in_ok-push.ensures.ok c.in_ok-push_where-2.ensures c.in_ok-push_where-3.ensures c.in_ok-push-2.ensures.ok)
    c.has_any-above.ensures c.resolves.ensures
    (c.in_ok-endpoint.ensures ∙ ap (λ id. endpoint_member id (codes "federation_fetch_endpoint") (codes "/fetch")) c.text-id.ensures.text)
    (c.in_ok-endpoint-2.ensures ∙ ap (λ id. endpoint_member id (codes "federation_historical_keys_endpoint") (codes "/historical-keys")) c.text-id.ensures.text)
    (c.in_ok-endpoint-3.ensures ∙ ap (λ id. endpoint_member id (codes "federation_list_endpoint") (codes "/list")) c.text-id.ensures.text)
    (c.in_ok-endpoint-4.ensures ∙ ap (λ id. endpoint_member id (codes "federation_resolve_endpoint") (codes "/resolve")) c.text-id.ensures.text)
    (c.in_ok-endpoint-5.ensures ∙ ap (λ id. endpoint_member id (codes "federation_trust_mark_status_endpoint") (codes "/trust-mark-status")) c.text-id.ensures.text)

pub returns-clause-identifier : goal.returns-clause-identifier
returns-clause-identifier c = subst IsIdentifier c.text-id.ensures.text c.text-id.ensures.identifier
