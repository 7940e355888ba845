-- Which trust chains are valid (OpenID Federation 1.0 section 10.2), as a fact of the texts, the trust anchor, its keys and a moment.
use Rattle.std.specs.Prelude.{◌≡◌, ℕ, List, length, Result, Ok, IsOk}
use Rattle.fed_json.specs.declared.tree.Json.{Json}
use Rattle.jwk_set.specs.declared.jwk.Jwk.{Jwk}
use Rattle.chain_limits.specs.Limits.{FitsBelow}
use Rattle.policy_merge.specs.Policies.{Types}
use Rattle.policy_apply.specs.declared.fault.ApplyFault.{ApplyFault}
use Rattle.policy_apply.specs.Applying.{applying}
use Rattle.entity_statement.specs.Claims.{Claims}
use Rattle.chain_check.specs.Chains.{Texts, HasForm, statements_of}
use Rattle.chain_check.specs.Names.{HasNames}
use Rattle.chain_check.specs.Signatures.{AreCurrent, AreSigned}
use Rattle.chain_check.specs.Policies.{merged_policy}
use Rattle.chain_check.specs.Metadata.{limited_places, allowed_metadata}

-- what a chain is judged by: its texts, the identifier and the keys of the trust anchor, and a moment
pub record Case : Type 0 where
  pub texts : Texts
  pub anchor : List ℕ
  pub keys : List Jwk
  pub moment : ℕ

abbrev pub case_of : Texts → List ℕ → List Jwk → ℕ → Case
case_of texts anchor keys moment = record { texts = texts; anchor = anchor; keys = keys; moment = moment }

-- its statements
abbrev pub chain_of : Case → List Claims
chain_of case = statements_of case.texts

-- the limits of each superior are met (section 6.2)
abbrev pub IsWithin : List Claims → Type 0
IsWithin chain = FitsBelow (limited_places chain) (length (limited_places chain))

-- the policies merge without conflict (section 6.1.4.1)
abbrev pub Merges : List Claims → Type 0
Merges chain = IsOk (merged_policy chain)

-- the metadata under a merged policy (section 6.1.4.2)
abbrev pub applied : List Claims → Types → Result Json ApplyFault
applied chain policy = applying policy (allowed_metadata chain)

-- the metadata of the leaf under the merged policy of its chain is this (section 6.1.4)
pub record ResolvesTo (chain : List Claims) (metadata : Json) : Type 0 where
  pub policy : Types
  pub merged : merged_policy chain ≡ Ok policy
  pub resolved : applied chain policy ≡ Ok metadata

-- the leaf's metadata passes the merged policy
pub record Applies (chain : List Claims) : Type 0 where
  pub metadata : Json
  pub resolves : ResolvesTo chain metadata

-- the chain is valid
pub record IsValid (case : Case) : Type 0 where
  pub form : HasForm case.texts
  pub names : HasNames (chain_of case) case.anchor
  pub current : AreCurrent (chain_of case) case.moment
  pub signed : AreSigned case.texts (chain_of case) case.keys
  pub within : IsWithin (chain_of case)
  pub merges : Merges (chain_of case)
  pub applies : Applies (chain_of case)

-- what the chain passes before each class of failures, in their order
abbrev pub ToNames : Case → Type 0
ToNames case = HasForm case.texts

abbrev pub ToTimes : Case → Type 0
ToTimes case = ToNames case × HasNames (chain_of case) case.anchor

abbrev pub ToSignatures : Case → Type 0
ToSignatures case = ToTimes case × AreCurrent (chain_of case) case.moment

abbrev pub ToLimits : Case → Type 0
ToLimits case = ToSignatures case × AreSigned case.texts (chain_of case) case.keys
