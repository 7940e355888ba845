-- What a node answers as an authority.
use Rattle.std.specs.Prelude.{ℕ, List, [], ◌∷◌, codes, Option, Some, None}
use Rattle.fed_json.specs.declared.tree.Json.{Object}
use Rattle.fed_json.specs.Compact.{compact}
use Rattle.fed_json.specs.Members.{text_member}
use Rattle.http_messages.specs.declared.response.Media.{Media}
use Rattle.http_messages.specs.declared.response.Media.TheVariants.{Json, Statement, JwkSet, Status}
use Rattle.http_messages.specs.declared.response.Response.{Response}
use Rattle.entity_statement.specs.Table.{statement_type}
use Rattle.node_config.specs.Nodes.{Subordinate}
use Rattle.trust_mark.specs.Claims.{status_type_name}
use Rattle.authority_core.specs.declared.query.ListQuery.{ListQuery}
use Rattle.authority_core.specs.Issued.{configuration_claims, historical_claims, historical_type, list_tree, signed_by, statement_claims}
use Rattle.authority_core.specs.Nodes.{Node, registered}
use Rattle.authority_core.specs.Statuses.{status_claims}

-- a good answer
abbrev pub good : Media → List ℕ → Response
good media body = record { status = 200; media = media; body = body }

-- a refusal, with its body (OpenID Federation 1.0 section 8.9)
abbrev pub refusal : ℕ → List ℕ → List ℕ → Response
refusal status error description =
    record { status = status; media = Json; body = compact (Object (text_member (codes "error") error ∷ text_member (codes "error_description") description ∷ [])) }

-- the entity isn't known
abbrev pub not_found : Response
not_found = refusal 404 (codes "not_found") (codes "no such entity")

unfoldable pub configuration_response : Node → ℕ → Response
configuration_response node t = good Statement (signed_by node statement_type (configuration_claims node t))

abbrev pub statement_response : Node → ℕ → Option Subordinate → Response
statement_response node t None = not_found
statement_response node t (Some s) = good Statement (signed_by node statement_type (statement_claims node.settings s t))

unfoldable pub fetch_response : Node → ℕ → List ℕ → Response
fetch_response node t sub = statement_response node t (registered sub node.settings)

unfoldable pub list_response : Node → ListQuery → Response
list_response node query = good Json (compact (list_tree node.settings query))

unfoldable pub historical_response : Node → ℕ → Response
historical_response node t = good JwkSet (signed_by node historical_type (historical_claims node t))

unfoldable pub status_response : Node → ℕ → List ℕ → Response
status_response node t mark = good Status (signed_by node status_type_name (status_claims node t mark))
