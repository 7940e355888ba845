-- Members of a configuration: those that must be there, those that may be absent, and the forms of their values.
use Rattle.std.specs.Prelude.{ℕ, ◌+◌, List, [], codes, nat_le, Bool, ◌&&◌, not, Option, Some, None, option_map, unwrap_or, is_some, if◌then◌else◌}
use Rattle.std.specs.List.{list_all}
use Rattle.std.specs.Option.{option_map_or}
use Rattle.fed_base.specs.Values.{◌>>=◌}
use Rattle.fed_json.specs.declared.tree.Json.{Json}
use Rattle.fed_json.specs.declared.tree.Member.{Member}
use Rattle.fed_json.specs.Forms.{has_odd}
use Rattle.fed_json.specs.Metadata.{is_metadata}
use Rattle.fed_json.specs.Trees.{count_below, find, optional, texts_of}
use Rattle.policy_merge.specs.Shapes.{policy_shape}
use Rattle.chain_limits.specs.Reading.{constraints_of}
use Rattle.entity_statement.specs.Forms.{hints_of, issuers_of, marks_of, owners_of}
use Rattle.entity_statement.specs.Table.{is_operator}
use Rattle.node_config.specs.declared.claims.Claim.{Claim}
use Rattle.node_config.specs.declared.claims.Claim.TheVariants.{Metadata, AuthorityHints, TrustMarks, TrustMarkIssuers, TrustMarkOwners, MetadataPolicy, MetadataPolicyCrit, Constraints}

-- the name of a member (RFC 8259 section 4)
abbrev pub Name : Type 0
Name = List ℕ

-- what a member says that must be there
abbrev pub needed : {X : Type 0} → Name → (Json → Option X) → List Member → Option X
needed name form members = find name members >>= form

-- what a member says that may be absent
abbrev pub possible : {X : Type 0} → Name → (Json → Option X) → List Member → Option (Option X)
possible name form members = optional form (find name members)

-- a list that may be absent, and is then empty
abbrev pub possible_list : {X : Type 0} → Name → (Json → Option (List X)) → List Member → Option (List X)
possible_list name form members = option_map (λ list. unwrap_or list []) (possible name form members)

-- a whole number within the bounds (RFC 8259 section 6)
abbrev pub if_least : ℕ → ℕ → Option ℕ
if_least least n = if nat_le least n then Some n else None

abbrev pub number_within : ℕ → ℕ → Json → Option ℕ
number_within least most tree = count_below (most + 1) tree >>= if_least least

-- a whole number from 1 on that may be absent, and is then the most that it may be
abbrev pub number_up_to : ℕ → Name → List Member → Option ℕ
number_up_to most name members = option_map (λ n. unwrap_or n most) (possible name (number_within 1 most) members)

-- ---- claims that are stated as they are configured (OpenID Federation 1.0 sections 3.1.1 to 3.1.3)

-- the claim's name
unfoldable pub claim_name : Claim → Name
claim_name Metadata = codes "metadata"
claim_name AuthorityHints = codes "authority_hints"
claim_name TrustMarks = codes "trust_marks"
claim_name TrustMarkIssuers = codes "trust_mark_issuers"
claim_name TrustMarkOwners = codes "trust_mark_owners"
claim_name MetadataPolicy = codes "metadata_policy"
claim_name MetadataPolicyCrit = codes "metadata_policy_crit"
claim_name Constraints = codes "constraints"

-- operators of policies, each known (section 3.1.3, `metadata_policy_crit`)
abbrev pub are_operators : Json → Bool
are_operators tree = option_map_or (list_all is_operator) (texts_of tree) Bool.false

-- the value has the form that the claim has in a statement
unfoldable pub has_form : Claim → Json → Bool
has_form Metadata tree = is_metadata tree
has_form AuthorityHints tree = is_some (hints_of tree)
has_form TrustMarks tree = is_some (marks_of tree)
has_form TrustMarkIssuers tree = is_some (issuers_of tree)
has_form TrustMarkOwners tree = is_some (owners_of tree)
has_form MetadataPolicy tree = is_some (policy_shape tree)
has_form MetadataPolicyCrit tree = are_operators tree
has_form Constraints tree = is_some (constraints_of tree)

-- the claim as it is configured, where it has its form and its text can be written
unfoldable pub claim_of : Claim → Json → Option Json
claim_of claim tree = if has_form claim tree && not (has_odd tree) then Some tree else None

-- the claim, which may be absent
abbrev pub claim_in : Claim → List Member → Option (Option Json)
claim_in claim members = possible (claim_name claim) (claim_of claim) members
