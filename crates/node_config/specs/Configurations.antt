-- A node's configuration: what it sets, or the first member that isn't of its form.
use Rattle.std.specs.Prelude.{List, codes, Option, Result, Ok, ok_or}
use Rattle.fed_base.specs.Answers.{◌>>=◌}
use Rattle.fed_json.specs.declared.tree.Json.{Json}
use Rattle.fed_json.specs.declared.tree.Member.{Member}
use Rattle.fed_json.specs.Trees.{as_object, as_text, texts_of}
use Rattle.entity_statement.specs.Claims.{Identifier}
use Rattle.entity_statement.specs.Forms.{identifier}
use Rattle.node_config.specs.declared.claims.Claim.{Claim}
use Rattle.node_config.specs.declared.claims.Claim.TheVariants.{Metadata, AuthorityHints, TrustMarks, TrustMarkIssuers, TrustMarkOwners}
use Rattle.node_config.specs.declared.fault.ConfigFault.{ConfigFault}
use Rattle.node_config.specs.declared.fault.ConfigFault.TheVariants.{Shape}
use Rattle.node_config.specs.declared.settings.Basics.{Basics}
use Rattle.node_config.specs.declared.settings.OwnClaims.{OwnClaims}
use Rattle.node_config.specs.Forms.{Name, claim_in, claim_name, needed, number_within, possible, possible_list}
use Rattle.node_config.specs.Nodes.{Further, Settings}
use Rattle.node_config.specs.Resolvers.{resolver_of}
use Rattle.node_config.specs.Subordinates.{subordinates_of}

-- what a member says, or its name where it isn't of its form
abbrev pub member : {X : Type 0} → Name → Option X → Result X ConfigFault
member name found = ok_or found (Shape name)

-- a claim of the node's own configuration, or its name
abbrev pub own_claim : Claim → List Member → Result (Option Json) ConfigFault
own_claim claim members = member (claim_name claim) (claim_in claim members)

-- what the node's own configuration claims beside its keys (OpenID Federation 1.0 sections 3.1.1 and 3.1.2)
unfoldable pub own_claims_in : List Member → Result OwnClaims ConfigFault
own_claims_in members = do
  metadata ← own_claim Metadata members
  hints ← own_claim AuthorityHints members
  marks ← own_claim TrustMarks members
  issuers ← own_claim TrustMarkIssuers members
  owners ← own_claim TrustMarkOwners members
  Ok (record { metadata = metadata; hints = hints; marks = marks; issuers = issuers; owners = owners })

-- what the node is: its identifier, its ring's file and the lifetime of what it issues
unfoldable pub basics_in : List Member → Result Basics ConfigFault
basics_in members = do
  id ← member (codes "entity_id") (needed (codes "entity_id") identifier members)
  ring ← member (codes "ring") (needed (codes "ring") as_text members)
  lifetime ← member (codes "lifetime") (needed (codes "lifetime") (number_within 60 31536000) members)
  Ok (record { id = id; ring = ring; lifetime = lifetime })

-- what stands behind the claims, for a node of that identifier
unfoldable pub further_in : Identifier → List Member → Result Further ConfigFault
further_in id members = do
  subordinates ← member (codes "subordinates") (possible_list (codes "subordinates") (subordinates_of id) members)
  revoked ← member (codes "revoked_marks") (possible_list (codes "revoked_marks") texts_of members)
  resolver ← member (codes "resolver") (possible (codes "resolver") resolver_of members)
  Ok (record { subordinates = subordinates; revoked = revoked; resolver = resolver })

-- the members in their order
unfoldable pub settings_in : List Member → Result Settings ConfigFault
settings_in members = do
  basics ← basics_in members
  claims ← own_claims_in members
  further ← further_in basics.id members
  Ok (record {
    id = basics.id;
    ring = basics.ring;
    lifetime = basics.lifetime;
    claims = claims;
    subordinates = further.subordinates;
    revoked = further.revoked;
    resolver = further.resolver;
  })

-- what a configuration sets; a tree that is no object has no `entity_id`
unfoldable pub configuration_in : Json → Result Settings ConfigFault
configuration_in tree = ok_or (as_object tree) (Shape (codes "entity_id")) >>= settings_in
