-- What holds of claims that are stated as they are configured (OpenID Federation 1.0 sections 3.1.1 to 3.1.3).
use Rattle.std.specs.Prelude.{IsTrue, IfSome, Option}
use Rattle.fed_json.specs.declared.tree.Json.{Json}
use Rattle.fed_json.specs.Forms.{IsWhole}
use Rattle.node_config.specs.declared.claims.Claim.{Claim}
use Rattle.node_config.specs.declared.claims.Claim.TheVariants.{Metadata, AuthorityHints, TrustMarks, TrustMarkIssuers, TrustMarkOwners, MetadataPolicy, MetadataPolicyCrit, Constraints}
use Rattle.node_config.specs.declared.settings.OwnClaims.{OwnClaims}
use Rattle.node_config.specs.declared.subordinates.ClaimsAbout.{ClaimsAbout}
use Rattle.node_config.specs.declared.subordinates.SubordinateConfig.{SubordinateConfig}
use Rattle.node_config.specs.Forms.{has_form}

-- the value has the form that the claim has in a statement, and it has a text
abbrev pub IsStated : Claim → Json → Type 0
IsStated claim tree = IsTrue (has_form claim tree) × IsWhole tree

-- the same of a claim that may be absent
abbrev pub MayState : Claim → Option Json → Type 0
MayState claim o = IfSome o (IsStated claim)

-- the claims of the node's own configuration
pub record AreOwn (claims : OwnClaims) : Type 0 where
  pub metadata : MayState Metadata claims.metadata
  pub hints : MayState AuthorityHints claims.hints
  pub marks : MayState TrustMarks claims.marks
  pub issuers : MayState TrustMarkIssuers claims.issuers
  pub owners : MayState TrustMarkOwners claims.owners

-- the claims about a subordinate
pub record AreAbout (claims : ClaimsAbout) : Type 0 where
  pub metadata : MayState Metadata claims.metadata
  pub policy : MayState MetadataPolicy claims.policy
  pub policy_crit : MayState MetadataPolicyCrit claims.policy_crit
  pub constraints : MayState Constraints claims.constraints

abbrev pub IsSubordinate : SubordinateConfig → Type 0
IsSubordinate s = AreAbout s.claims
