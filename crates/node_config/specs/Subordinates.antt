-- The entities of a configuration: anchors and subordinates, of which no two have one identifier.
use Rattle.std.specs.Prelude.{ℕ, List, map, length, codes, bytes_eq, nat_lt, nat_le, Bool, false, ◌&&◌, not, Option, Some, None, option_map, unwrap_or, if◌then◌else◌}
use Rattle.std.specs.List.{list_any}
use Rattle.std.specs.Result.{result_ok}
use Rattle.fed_base.specs.Values.{◌>>=◌}
use Rattle.fed_json.specs.declared.tree.Json.{Json}
use Rattle.fed_json.specs.declared.tree.Member.{Member}
use Rattle.fed_json.specs.Trees.{as_list, as_object, each, texts_of}
use Rattle.jwk_set.specs.declared.jwk.Jwk.{Jwk}
use Rattle.jwk_set.specs.KeySets.{key_set_in}
use Rattle.policy_merge.specs.Shapes.{as_truth}
use Rattle.entity_statement.specs.Claims.{Identifier}
use Rattle.entity_statement.specs.Forms.{all_differ, identifier}
use Rattle.node_config.specs.declared.claims.Claim.TheVariants.{Metadata, MetadataPolicy, MetadataPolicyCrit, Constraints}
use Rattle.node_config.specs.declared.subordinates.ClaimsAbout.{ClaimsAbout}
use Rattle.node_config.specs.declared.subordinates.Listing.{Listing}
use Rattle.node_config.specs.Forms.{claim_in, needed, number_up_to, possible, possible_list}
use Rattle.node_config.specs.Nodes.{Anchor, Bounds, Entity, Subordinate, anchor_id, subordinate_id}

-- ---- an entity with its keys

-- the keys of a set (RFC 7517 section 5)
abbrev pub keys_of : Json → Option (List Jwk)
keys_of tree = result_ok (key_set_in tree)

-- the members `entity_id` and `jwks`
unfoldable pub entity_in : List Member → Option Entity
entity_in members = do
  id ← needed (codes "entity_id") identifier members
  keys ← needed (codes "jwks") keys_of members
  Some (record { id = id; keys = keys })

-- ---- anchors

-- how far searches go: at most 12 statements of superiors, 160 pages and 4,096 partial paths, and so far where a member is absent
unfoldable pub bounds_in : List Member → Option Bounds
bounds_in members = do
  depth ← number_up_to 12 (codes "depth") members
  calls ← number_up_to 160 (codes "calls") members
  paths ← number_up_to 4096 (codes "paths") members
  Some (record { depth = depth; calls = calls; paths = paths })

unfoldable pub anchor_in : List Member → Option Anchor
anchor_in members = do
  bounds ← bounds_in members
  entity ← entity_in members
  Some (record { entity = entity; bounds = bounds })

unfoldable pub anchor_of : Json → Option Anchor
anchor_of tree = as_object tree >>= anchor_in

-- 1 to 64 anchors, all different
abbrev pub is_anchor_count : ℕ → Bool
is_anchor_count n = nat_lt 0 n && nat_le n 64

abbrev pub are_anchors : List Anchor → Bool
are_anchors anchors = is_anchor_count (length anchors) && all_differ (map anchor_id anchors)

abbrev pub if_anchors : List Anchor → Option (List Anchor)
if_anchors anchors = if are_anchors anchors then Some anchors else None

unfoldable pub anchors_of : Json → Option (List Anchor)
anchors_of tree = as_list tree >>= each anchor_of >>= if_anchors

-- ---- subordinates

-- what the statement about a subordinate claims of it beside its keys (OpenID Federation 1.0 sections 3.1.1 and 3.1.3)
unfoldable pub claims_about_in : List Member → Option ClaimsAbout
claims_about_in members = do
  metadata ← claim_in Metadata members
  policy ← claim_in MetadataPolicy members
  policy_crit ← claim_in MetadataPolicyCrit members
  constraints ← claim_in Constraints members
  Some (record { metadata = metadata; policy = policy; policy_crit = policy_crit; constraints = constraints })

-- what lists of subordinates are filtered by (OpenID Federation 1.0 section 8.2.1)
unfoldable pub listing_in : List Member → Option Listing
listing_in members = do
  types ← possible_list (codes "entity_types") texts_of members
  mark_types ← possible_list (codes "mark_types") texts_of members
  intermediate ← option_map (λ said. unwrap_or said false) (possible (codes "intermediate") as_truth members)
  Some (record { types = types; mark_types = mark_types; intermediate = intermediate })

unfoldable pub subordinate_in : List Member → Option Subordinate
subordinate_in members = do
  entity ← entity_in members
  claims ← claims_about_in members
  listing ← listing_in members
  Some (record { entity = entity; claims = claims; listing = listing })

unfoldable pub subordinate_of : Json → Option Subordinate
subordinate_of tree = as_object tree >>= subordinate_in

-- at most 10,000, and none the node itself
abbrev pub are_below : Identifier → List Subordinate → Bool
are_below id list = nat_le (length list) 10000 && not (list_any (bytes_eq id) (map subordinate_id list))

-- and all different
abbrev pub are_subordinates : Identifier → List Subordinate → Bool
are_subordinates id list = are_below id list && all_differ (map subordinate_id list)

abbrev pub if_subordinates : Identifier → List Subordinate → Option (List Subordinate)
if_subordinates id list = if are_subordinates id list then Some list else None

unfoldable pub subordinates_of : Identifier → Json → Option (List Subordinate)
subordinates_of id tree = as_list tree >>= each subordinate_of >>= if_subordinates id
