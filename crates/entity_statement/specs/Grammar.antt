-- Which claims a text says, one fact a claim (OpenID Federation 1.0 section 3.1).
use Rattle.std.specs.Prelude.{◌≡◌, ◌≢◌, ◌<◌, ℕ, pos, List, [], codes, IsTrue, Some, None, MatchOption}
use Rattle.std.specs.List.{list_all}
use Rattle.fed_base.specs.Moments.{moment_limit}
use Rattle.fed_json.specs.declared.tree.Json.{Json, Text, Int, Object}
use Rattle.fed_json.specs.declared.tree.Member.{Member}
use Rattle.fed_json.specs.Trees.{find, texts_of}
use Rattle.fed_json.specs.Reading.{tree_in}
use Rattle.entity_id.specs.Identifiers.{IsIdentifier}
use Rattle.jws_form.specs.declared.compact.Compact.{Compact}
use Rattle.jwk_set.specs.declared.jwk.Jwk.{Jwk}
use Rattle.jwk_set.specs.KeySets.{IsKeySet}
use Rattle.fed_json.specs.Metadata.{IsMetadata}
use Rattle.fed_json.specs.Tables.{Name}
use Rattle.policy_merge.specs.Shapes.{policy_shape}
use Rattle.chain_limits.specs.Reading.{no_constraints, constraints_of}
use Rattle.entity_statement.specs.Claims.{Claims, Identifier, no_metadata}
use Rattle.entity_statement.specs.Forms.{hints_of, marks_of, issuers_of, owners_of}
use Rattle.entity_statement.specs.Table.{is_operator, statement_type}

-- the claim is this identifier (section 1.2)
abbrev pub NamesEntity : Name → List Member → Identifier → Type 0
NamesEntity name members id = (find name members ≡ Some (Text id)) × IsIdentifier id

-- the claim is this moment, in whole seconds since 1970 (RFC 7519 section 2, NumericDate)
abbrev pub NamesMoment : Name → List Member → ℕ → Type 0
NamesMoment name members n = (find name members ≡ Some (Int (pos n))) × (n < moment_limit)

-- the claim is a set of these keys (RFC 7517 section 5)
abbrev pub HoldsKeys : Name → List Member → List Jwk → Type 0
HoldsKeys name members keys = (tree : Json) × (find name members ≡ Some tree) × IsKeySet tree keys

-- the claim is absent and says nothing, or it is there and says this (section 3.1)
abbrev pub MaySay : Name → List Member → Type 0 → (Json → Type 0) → Type 0
MaySay name members Empty Says = MatchOption (find name members) Empty Says

-- the names of operators that are known (section 6.1.3.1)
abbrev pub AreOperators : Json → Type 0
AreOperators tree = (names : List Name) × (texts_of tree ≡ Some names) × IsTrue (list_all is_operator names)

-- the members are the claims of a statement, and they say this (sections 3.1.1 to 3.1.3)
pub record SaysClaims (members : List Member) (s : Claims) : Type 0 where
  pub crit : find (codes "crit") members ≡ None
  pub iss : NamesEntity (codes "iss") members s.iss
  pub sub : NamesEntity (codes "sub") members s.sub
  pub iat : NamesMoment (codes "iat") members s.iat
  pub exp : NamesMoment (codes "exp") members s.exp
  pub jwks : HoldsKeys (codes "jwks") members s.keys
  pub authority_hints : MaySay (codes "authority_hints") members (s.hints ≡ []) (λ tree. (s.iss ≡ s.sub) × (hints_of tree ≡ Some s.hints))
  pub metadata : MaySay (codes "metadata") members (s.metadata ≡ no_metadata) (λ tree. IsMetadata tree × (s.metadata ≡ tree))
  pub metadata_policy : MaySay (codes "metadata_policy") members (s.policy ≡ []) (λ tree. (s.iss ≢ s.sub) × (policy_shape tree ≡ Some s.policy))
  pub metadata_policy_crit : MaySay (codes "metadata_policy_crit") members (Unit {0}) (λ tree. (s.iss ≢ s.sub) × AreOperators tree)
  pub constraints : MaySay (codes "constraints") members (s.constraints ≡ no_constraints) (λ tree. (s.iss ≢ s.sub) × (constraints_of tree ≡ Some s.constraints))
  pub trust_marks : s.iss ≡ s.sub → MaySay (codes "trust_marks") members (s.marks ≡ []) (λ tree. marks_of tree ≡ Some s.marks)
  pub trust_mark_issuers : s.iss ≡ s.sub → MaySay (codes "trust_mark_issuers") members (s.issuers ≡ []) (λ tree. issuers_of tree ≡ Some s.issuers)
  pub trust_mark_owners : s.iss ≡ s.sub → MaySay (codes "trust_mark_owners") members (s.owners ≡ []) (λ tree. owners_of tree ≡ Some s.owners)
  pub unmarked : s.iss ≢ s.sub → (s.marks ≡ []) × (s.issuers ≡ []) × (s.owners ≡ [])

-- the parts of a compact text are an entity statement that says this (section 3.1)
pub record IsStatement (c : Compact) (s : Claims) : Type 0 where
  pub typed : c.typ ≡ Some statement_type
  pub members : List Member
  pub object : tree_in c.payload ≡ Some (Object members)
  pub says : SaysClaims members s
