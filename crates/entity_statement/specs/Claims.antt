-- What an entity statement says (OpenID Federation 1.0 section 3.1).
use Rattle.std.specs.Prelude.{ℕ, List, [], Bool, ◌&&◌}
use Rattle.std.specs.List.{list_all}
use Rattle.std.specs.Str.{is_utf8}
use Rattle.fed_json.specs.declared.tree.Json.{Json, Object}
use Rattle.jwk_set.specs.declared.jwk.Jwk.{Jwk}
use Rattle.policy_merge.specs.Policies.{Types}
use Rattle.chain_limits.specs.declared.constraints.Constraints.{Constraints}
use Rattle.entity_statement.specs.declared.marks.MarkEntry.{MarkEntry}
use Rattle.entity_statement.specs.declared.marks.Issuers.{Issuers}
use Rattle.entity_statement.specs.declared.marks.Owner.{Owner}

-- the bytes of an identifier (section 1.2)
abbrev pub Identifier : Type 0
Identifier = List ℕ

-- the owner of a type of trust marks, and its keys (section 3.1.2)
pub record OwnerClaims : Type 0 where
  pub mark_type : List ℕ
  pub sub : Identifier
  pub keys : List Jwk

-- the claims that every statement has (section 3.1.1)
pub record CommonClaims : Type 0 where
  pub iss : Identifier
  pub sub : Identifier
  pub iat : ℕ
  pub exp : ℕ
  pub keys : List Jwk

-- when it holds, and the keys of its subject (section 3.1.1)
pub record ValidityClaims : Type 0 where
  pub iat : ℕ
  pub exp : ℕ
  pub keys : List Jwk

-- what a superior rules for its subordinate (section 3.1.3)
pub record RuleClaims : Type 0 where
  pub policy : Types
  pub constraints : Constraints

-- what a configuration says of trust marks (section 3.1.2)
pub record MarkClaims : Type 0 where
  pub marks : List MarkEntry
  pub issuers : List Issuers
  pub owners : List OwnerClaims

-- the claims beside those that every statement has (sections 3.1.1 to 3.1.3)
pub record FurtherClaims : Type 0 where
  pub hints : List Identifier
  pub metadata : Json
  pub rules : RuleClaims
  pub marks : MarkClaims

-- the claims that are read, where those that are absent say nothing (sections 3.1.1 to 3.1.3)
pub record Claims : Type 0 where
  pub iss : Identifier
  pub sub : Identifier
  pub iat : ℕ
  pub exp : ℕ
  pub keys : List Jwk
  pub hints : List Identifier
  pub metadata : Json
  pub policy : Types
  pub constraints : Constraints
  pub marks : List MarkEntry
  pub issuers : List Issuers
  pub owners : List OwnerClaims

-- the claims of a statement by its parts (sections 3.1.1 to 3.1.3)
abbrev pub all_claims : CommonClaims → FurtherClaims → Claims
all_claims common further = record {
  iss = common.iss;
  sub = common.sub;
  iat = common.iat;
  exp = common.exp;
  keys = common.keys;
  hints = further.hints;
  metadata = further.metadata;
  policy = further.rules.policy;
  constraints = further.rules.constraints;
  marks = further.marks.marks;
  issuers = further.marks.issuers;
  owners = further.marks.owners;
}

-- what an owner says, its key set by the keys (section 3.1.2)
abbrev pub told_owner : Owner → OwnerClaims
told_owner o = record { mark_type = o.mark_type; sub = o.sub; keys = o.jwks.keys }

-- what a statement without the claim `metadata` says: no type (section 3.1.1)
abbrev pub no_metadata : Json
no_metadata = Object []

-- the texts of a mark's entry are UTF-8 (RFC 8259 section 8.1)
abbrev pub mark_utf8 : MarkEntry → Bool
mark_utf8 m = is_utf8 m.mark_type && is_utf8 m.text

-- the type and those who may issue marks of it are UTF-8 (RFC 8259 section 8.1)
abbrev pub issuers_utf8 : Issuers → Bool
issuers_utf8 i = is_utf8 i.mark_type && list_all is_utf8 i.who
