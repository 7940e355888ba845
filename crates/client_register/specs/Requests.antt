-- What a relying party posts to register itself (OpenID Federation 1.0 section 12.2.1).
use Rattle.std.specs.Prelude.{◌≡◌, ℕ, List, map, bytes_eq, Option, Some, None, option_and_then, if◌then◌else◌}
use Rattle.fed_json.specs.declared.tree.Json.{Text, List as ListOf}
use Rattle.fed_json.specs.Reading.{tree_in}
use Rattle.fed_json.specs.Trees.{texts_of}
use Rattle.entity_statement.specs.Claims.{Claims, Identifier}
use Rattle.entity_statement.specs.Signed.{statement_of}
use Rattle.chain_check.specs.Chains.{Texts}
use Rattle.client_register.specs.declared.posted.Posted.{Posted}
use Rattle.client_register.specs.declared.posted.Posted.TheVariants.{Chain, Configuration, Neither}

-- the texts of a JSON list of texts (section 4.3, RFC 8259 section 5)
unfoldable pub chain_in : List ℕ → Option Texts
chain_in bytes = option_and_then texts_of (tree_in bytes)

-- the entity that a statement is the configuration of: issuer and subject are one (section 3.1)
abbrev pub configured : Claims → Option Identifier
configured claims = if bytes_eq claims.iss claims.sub then Some claims.sub else None

-- the entity that a text is the configuration of (section 3.1)
unfoldable pub entity_in : List ℕ → Option Identifier
entity_in bytes = option_and_then configured (statement_of bytes)

-- what was posted, by the chain and by the entity that are read from it
abbrev pub posted_as : Option Texts → Option Identifier → Posted
posted_as (Some texts) entity = Chain texts
posted_as None (Some entity) = Configuration entity
posted_as None None = Neither

-- a trust chain, the configuration of a leaf, or neither (section 12.2.1)
unfoldable pub posted_in : List ℕ → Posted
posted_in bytes = posted_as (chain_in bytes) (entity_in bytes)

-- the bytes are a JSON list of these texts (section 4.3, RFC 8259 section 5)
abbrev pub AreListed : List ℕ → Texts → Type 0
AreListed bytes texts = tree_in bytes ≡ Some (ListOf (map Text texts))

-- the bytes are the configuration of this entity (section 3.1)
pub record IsConfigurationOf (bytes : List ℕ) (entity : Identifier) : Type 0 where
  pub claims : Claims
  pub reads : statement_of bytes ≡ Some claims
  pub issuer : claims.iss ≡ entity
  pub subject : claims.sub ≡ entity

-- what was posted, once more: what is no list of texts may be a configuration
abbrev pub IsPosted : List ℕ → Posted → Type 0
IsPosted bytes (Chain texts) = AreListed bytes texts
IsPosted bytes (Configuration entity) = ((texts : Texts) → ¬ AreListed bytes texts) × IsConfigurationOf bytes entity
IsPosted bytes Neither = ((texts : Texts) → ¬ AreListed bytes texts) × ((entity : Identifier) → ¬ IsConfigurationOf bytes entity)
