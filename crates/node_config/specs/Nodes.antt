-- What a configuration sets.
use Rattle.std.specs.Prelude.{ℕ, List, Option}
use Rattle.http_plain.specs.declared.route.Route.{Route}
use Rattle.jwk_set.specs.declared.jwk.Jwk.{Jwk}
use Rattle.entity_statement.specs.Claims.{Identifier}
use Rattle.node_config.specs.declared.settings.OwnClaims.{OwnClaims}
use Rattle.node_config.specs.declared.subordinates.ClaimsAbout.{ClaimsAbout}
use Rattle.node_config.specs.declared.subordinates.Listing.{Listing}

-- an entity with its keys: a trust anchor, or an entity of which the node is a superior (OpenID Federation 1.0 section 1.2)
pub record Entity : Type 0 where
  pub id : Identifier
  pub keys : List Jwk

-- how far one search for a chain goes: so many statements of superiors, pages that are asked for, and partial paths
pub record Bounds : Type 0 where
  pub depth : ℕ
  pub calls : ℕ
  pub paths : ℕ

-- a trust anchor, and how far searches up to it go
pub record Anchor : Type 0 where
  pub entity : Entity
  pub bounds : Bounds

-- an entity of which the node is a superior, with what is claimed of it and what lists of subordinates are filtered by
pub record Subordinate : Type 0 where
  pub entity : Entity
  pub claims : ClaimsAbout
  pub listing : Listing

-- what a node needs to resolve, an age in seconds
pub record Resolver : Type 0 where
  pub anchors : List Anchor
  pub age : ℕ
  pub workers : ℕ
  pub control : List Jwk
  pub routes : List Route

-- what a configuration sets beside what the node is and what it claims of itself
pub record Further : Type 0 where
  pub subordinates : List Subordinate
  pub revoked : List (List ℕ)
  pub resolver : Option Resolver

-- what the whole configuration sets, the lifetime of its statements in seconds
pub record Settings : Type 0 where
  pub id : Identifier
  pub ring : List ℕ
  pub lifetime : ℕ
  pub claims : OwnClaims
  pub subordinates : List Subordinate
  pub revoked : List (List ℕ)
  pub resolver : Option Resolver

-- the entity that a trust anchor is
abbrev pub entity_of : Anchor → Entity
entity_of anchor = anchor.entity

-- the identifier of an anchor, and of a subordinate
abbrev pub anchor_id : Anchor → Identifier
anchor_id anchor = anchor.entity.id

abbrev pub subordinate_id : Subordinate → Identifier
subordinate_id s = s.entity.id
