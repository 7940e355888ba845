-- What a node states: its configuration, statements about its subordinates, their list, and its historical keys.
use Rattle.std.specs.Prelude.{◌≡◌, ◌≤◌, ◌⊎◌, ℕ, ◌+◌, ◌-◌, ◌&&◌, ◌||◌, min, List, [], ◌∷◌, ◌++◌, map, filter, codes, bytes_eq, nat_le, length, Bool, true, not, IsTrue, Option, Some, None}
use Rattle.std.specs.List.{list_all, list_any}
use Rattle.std.specs.Option.{option_map_or}
use Rattle.fed_base.specs.Moments.{moment_limit}
use Rattle.fed_json.specs.declared.tree.Json.{Json, Text, List as ListOf, Object}
use Rattle.fed_json.specs.declared.tree.Member.{Member}
use Rattle.fed_json.specs.Compact.{compact}
use Rattle.fed_json.specs.Members.{number_member, text_member}
use Rattle.fed_json.specs.Reading.{member_of}
use Rattle.jws_form.specs.Compact.{max_bytes}
use Rattle.jwk_set.specs.Trees.{set_tree}
use Rattle.jwk_set.specs.declared.jwk.Jwk.{Jwk}
use Rattle.slh_dsa.specs.Keys.{Keys}
use Rattle.sealed.specs.Sealing.{sealed_text}
use Rattle.key_ring.specs.Sets.{historical_keys, live_set}
use Rattle.policy_merge.specs.Scope.{is_empty}
use Rattle.entity_statement.specs.Claims.{Identifier}
use Rattle.entity_statement.specs.Table.{statement_type}
use Rattle.trust_mark.specs.Claims.{delegation_type_name, mark_type_name}
use Rattle.node_config.specs.Nodes.{Settings, Subordinate, subordinate_id}
use Rattle.authority_core.specs.declared.query.ListQuery.{ListQuery}
use Rattle.authority_core.specs.Endpoints.{own_metadata}
use Rattle.authority_core.specs.Nodes.{Node, node_signer}

-- the last moment
abbrev pub last_moment : ℕ
last_moment = moment_limit - 1

-- when a statement ends that is made at the moment
abbrev pub end_of : ℕ → ℕ → ℕ
end_of lifetime t = min (t + lifetime) last_moment

-- a configured claim, where there is one
abbrev pub claim : List ℕ → Option Json → List Member
claim name None = []
claim name (Some tree) = member_of name tree ∷ []

-- what every statement says of its making: its end, its moment, its issuer and the keys that it names
abbrev pub issue_members : Settings → List Jwk → ℕ → List Member
issue_members settings keys t =
    number_member (codes "exp") (end_of settings.lifetime t) ∷ number_member (codes "iat") t
    ∷ text_member (codes "iss") settings.id ∷ member_of (codes "jwks") (set_tree keys) ∷ []

-- the claims of the node's configuration, with their members in byte order (OpenID Federation 1.0 sections 3.1.1 and 3.1.2)
abbrev pub configuration_members : Settings → List Jwk → ℕ → List Member
configuration_members settings keys t =
    claim (codes "authority_hints") settings.claims.hints
    ++ (issue_members settings keys t
    ++ (member_of (codes "metadata") (own_metadata settings)
    ∷ (text_member (codes "sub") settings.id
    ∷ (claim (codes "trust_mark_issuers") settings.claims.issuers
    ++ (claim (codes "trust_mark_owners") settings.claims.owners
    ++ claim (codes "trust_marks") settings.claims.marks)))))

unfoldable pub configuration_claims : Node → ℕ → Json
configuration_claims node t = Object (configuration_members node.settings (live_set node.ring) t)

-- the claims of the statement about a subordinate (OpenID Federation 1.0 sections 3.1.1 and 3.1.3)
abbrev pub statement_members : Settings → Subordinate → ℕ → List Member
statement_members settings s t =
    claim (codes "constraints") s.claims.constraints
    ++ (issue_members settings s.entity.keys t
    ++ (claim (codes "metadata") s.claims.metadata
    ++ (claim (codes "metadata_policy") s.claims.policy
    ++ (claim (codes "metadata_policy_crit") s.claims.policy_crit
    ++ (text_member (codes "sub") s.entity.id ∷ [])))))

unfoldable pub statement_claims : Settings → Subordinate → ℕ → Json
statement_claims settings s t = Object (statement_members settings s t)

-- ---- sizes

-- the claims have at most 179,000 bytes
abbrev pub is_short : Json → Bool
is_short claims = nat_le (length (compact claims)) 179000

-- whatever the moment at which they are stated: those at the last one are the longest
abbrev pub states_itself_shortly : Node → Bool
states_itself_shortly node = is_short (configuration_claims node last_moment)

abbrev pub states_shortly : Settings → Subordinate → Bool
states_shortly settings s = is_short (statement_claims settings s last_moment)

abbrev pub states_all_shortly : Settings → Bool
states_all_shortly settings = list_all (states_shortly settings) settings.subordinates

-- ---- the list of subordinates (OpenID Federation 1.0 section 8.2)

-- one of the texts is this one
abbrev pub is_among : List (List ℕ) → List ℕ → Bool
is_among texts text = list_any (bytes_eq text) texts

-- the subordinate passes every filter; what isn't asked for filters nothing
abbrev pub passes : ListQuery → Subordinate → Bool
passes query s =
    (is_empty query.types || list_any (is_among s.listing.types) query.types)
    && ((not query.trust_marked || not (is_empty s.listing.mark_types))
    && (option_map_or (is_among s.listing.mark_types) query.mark_type true
    && (not query.intermediate || s.listing.intermediate)))

-- the identifiers of those that pass, in the order of the configuration
abbrev pub ids_of : ListQuery → List Subordinate → List Json
ids_of query subordinates = map (λ s. Text (subordinate_id s)) (filter (passes query) subordinates)

unfoldable pub list_tree : Settings → ListQuery → Json
list_tree settings query = ListOf (ids_of query settings.subordinates)

-- ---- historical keys (OpenID Federation 1.0 section 8.7)

abbrev pub historical_tree : Identifier → Json → ℕ → Json
historical_tree id keys t = Object (number_member (codes "iat") t ∷ text_member (codes "iss") id ∷ member_of (codes "keys") keys ∷ [])

unfoldable pub historical_claims : Node → ℕ → Json
historical_claims node t = historical_tree node.settings.id (ListOf (historical_keys node.ring)) t

abbrev pub historical_type : List ℕ
historical_type = codes "jwk-set+jwt"

-- ---- the signature

-- claims of that type, signed by the node
abbrev pub signed_by : Node → List ℕ → Json → List ℕ
signed_by node typ claims = sealed_text (node_signer node) typ claims

-- the types of statements, trust marks and their delegations (OpenID Federation 1.0 sections 3, 7.1 and 7.2.1)
abbrev pub IsIssuedType : List ℕ → Type 0
IsIssuedType typ = (typ ≡ statement_type) ⊎ ((typ ≡ mark_type_name) ⊎ (typ ≡ delegation_type_name))

-- claims that are short make a text of such a type that is short enough to be read, whichever key pair signs it (RFC 7515 section 7.1)
abbrev pub ShortClaimsFit : Type 0
ShortClaimsFit = (keys : Keys) (typ : List ℕ) (claims : Json) → IsIssuedType typ → IsTrue (is_short claims) → length (sealed_text keys typ claims) ≤ max_bytes
