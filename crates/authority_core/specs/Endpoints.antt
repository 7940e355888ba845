-- Where a node is asked, and how its metadata says so (OpenID Federation 1.0 section 5.1.1).
use Rattle.std.specs.Prelude.{ℕ, List, [], ◌∷◌, ◌++◌, codes, Bool, true, false, is_some, if◌then◌else◌}
use Rattle.std.specs.Option.{option_map_or}
use Rattle.fed_json.specs.declared.tree.Json.{Json, Object}
use Rattle.fed_json.specs.declared.tree.Member.{Member}
use Rattle.fed_json.specs.Members.{text_member}
use Rattle.fed_json.specs.Reading.{member_of}
use Rattle.fed_json.specs.Trees.{find, object_members}
use Rattle.entity_id.specs.Urls.{base_of}
use Rattle.chain_check.specs.Metadata.{parameters_over}
use Rattle.entity_statement.specs.Claims.{Identifier}
use Rattle.node_config.specs.Nodes.{Settings, Subordinate}

-- the URL of an endpoint: the identifier without a slash at its end, and the path
abbrev pub endpoint : Identifier → List ℕ → List ℕ
endpoint id path = base_of id ++ path

-- a parameter that tells an endpoint
abbrev pub endpoint_member : Identifier → List ℕ → List ℕ → Member
endpoint_member id name path = text_member name (endpoint id path)

-- a parameter that is there in some nodes alone
abbrev pub member_where : Bool → Member → List Member
member_where b m = if b then m ∷ [] else []

-- there are subordinates
abbrev pub has_any : List Subordinate → Bool
has_any [] = false
has_any (s ∷ subordinates) = true

-- the endpoints that a node has, in byte order of their names
abbrev pub endpoint_members : Bool → Bool → Identifier → List Member
endpoint_members above resolves id =
    member_where above (endpoint_member id (codes "federation_fetch_endpoint") (codes "/fetch"))
    ++ (endpoint_member id (codes "federation_historical_keys_endpoint") (codes "/historical-keys")
    ∷ (member_where above (endpoint_member id (codes "federation_list_endpoint") (codes "/list"))
    ++ (member_where resolves (endpoint_member id (codes "federation_resolve_endpoint") (codes "/resolve"))
    ++ (endpoint_member id (codes "federation_trust_mark_status_endpoint") (codes "/trust-mark-status") ∷ []))))

unfoldable pub endpoints_of : Settings → List Member
endpoints_of settings = endpoint_members (has_any settings.subordinates) (is_some settings.resolver) settings.id

-- the entity type of a node's own endpoints
abbrev pub federation_entity : List ℕ
federation_entity = codes "federation_entity"

-- the parameters of a type among configured ones
abbrev pub parameters_of : List ℕ → List Member → List Member
parameters_of entity_type types = option_map_or object_members (find entity_type types) []

-- the configured types, with the endpoints over what is configured in the node's own
abbrev pub types_with : List Member → List Member → List Member
types_with endpoints types =
    parameters_over (member_of federation_entity (Object (parameters_over endpoints (parameters_of federation_entity types))) ∷ []) types

-- the metadata of a node's configuration
unfoldable pub own_metadata : Settings → Json
own_metadata settings = Object (types_with (endpoints_of settings) (option_map_or object_members settings.claims.metadata []))
