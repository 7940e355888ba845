-- What a node resolves with, as its configuration and its ring give it.
use Rattle.std.specs.Prelude.{◌≡◌, List, bytes_eq, find, map, Bool, Option, Some, option_map}
use Rattle.std.specs.Option.{option_map_or}
use Rattle.jwk_set.specs.declared.jwk.Jwk.{Jwk}
use Rattle.jwk_set.specs.declared.set.JwkSet.{JwkSet}
use Rattle.entity_statement.specs.Claims.{Identifier}
use Rattle.chain_climb.specs.declared.want.Bounds.{Bounds}
use Rattle.slh_dsa.specs.Keys.{Keys}
use Rattle.key_ring.specs.Sets.{signer_keys}
use Rattle.node_config.specs.declared.entities.AnchorPart.{AnchorPart}
use Rattle.node_config.specs.Nodes.{Anchor, Entity, Resolver, entity_of}
use Rattle.node_config.specs.Told.{told_anchor}
use Rattle.authority_core.specs.Nodes.{Node}
use Rattle.statement_shelf.specs.declared.calls.AnchorKeys.{AnchorKeys}
use Rattle.statement_shelf.specs.Book.{keys_of}
use Rattle.resolve_reply.specs.Bounds.{bounds_for, usual}
use Rattle.resolve_reply.specs.declared.bounds.AnchorBounds.{AnchorBounds}
use Rattle.resolve_reply.specs.declared.signer.Signer.{Signer}
use Rattle.node_files.specs.declared.parts.Parts.{Parts}

-- ---- who signs

-- how far searches up to a trust anchor go, as it is configured
abbrev pub bounds_of : Anchor → AnchorBounds
bounds_of anchor = record {
  anchor = anchor.entity.id;
  bounds = record { depth = anchor.bounds.depth; calls = anchor.bounds.calls; paths = anchor.bounds.paths };
}

abbrev pub part_bounds : AnchorPart → AnchorBounds
part_bounds part = bounds_of (told_anchor part)

-- the node signs by this key pair, and it keeps pages for the age, searches as far and signs by as many workers as its configuration sets
abbrev pub signer_of : Node → Resolver → Keys → Signer
signer_of node resolver keys = record {
  iss = node.settings.id;
  keys = keys;
  age = resolver.age;
  bounds = map bounds_of resolver.anchors;
  workers = resolver.workers;
}

-- ---- trust anchors (OpenID Federation 1.0 section 1.2)

-- the keys that a configuration gives an anchor, where it lists it
abbrev pub is_named : Identifier → Anchor → Bool
is_named id anchor = bytes_eq anchor.entity.id id

unfoldable pub configured_keys : Identifier → List Anchor → Option (List Jwk)
configured_keys id anchors = option_map (λ anchor. anchor.entity.keys) (find (is_named id) anchors)

-- how far searches up to an anchor go that a configuration lists, and those up to any other
unfoldable pub configured_bounds : Identifier → List Anchor → Bounds
configured_bounds id anchors = option_map_or (λ anchor. (bounds_of anchor).bounds) (find (is_named id) anchors) usual

-- an anchor as the book has it
abbrev pub anchor_keys : AnchorPart → AnchorKeys
anchor_keys part = record { anchor = part.anchor; keys = part.keys }

-- what the book has, as the configuration has it
abbrev pub booked_entity : AnchorKeys → Entity
booked_entity a = record { id = a.anchor; keys = a.keys.keys }

-- the keys that a book gives an anchor
abbrev pub booked_keys : Identifier → List AnchorKeys → Option (List Jwk)
booked_keys anchor anchors = option_map (λ (set : JwkSet). set.keys) (keys_of anchor anchors)

-- ---- all of them

-- the parts are those of a node that resolves
pub record ArePartsOf (node : Node) (parts : Parts) : Type 0 where
  pub resolver : Resolver
  pub resolves : node.settings.resolver ≡ Some resolver
  pub keys : Keys
  pub signs : signer_keys node.ring ≡ Some keys
  pub signer : parts.signer ≡ signer_of node resolver keys
  pub listed : map booked_entity parts.anchors ≡ map entity_of resolver.anchors
  pub anchors : (anchor : Identifier) → booked_keys anchor parts.anchors ≡ configured_keys anchor resolver.anchors
  pub bounds : (anchor : Identifier) → bounds_for parts.signer.bounds anchor ≡ configured_bounds anchor resolver.anchors
  pub routes : parts.routes ≡ resolver.routes
  pub control : parts.control.keys ≡ resolver.control
  pub workers : parts.workers ≡ resolver.workers
