-- The table of claims: which statements have each claim, and its first fault in the table's order (OpenID Federation 1.0 section 3.1).
use Rattle.std.specs.Prelude.{◌≡◌, ℕ, List, [], ◌∷◌, codes, bytes_eq, Bool, false, not, Option, Some, None, option_and_then, Result, Ok, Err, if◌then◌else◌}
use Rattle.std.specs.Option.{ok_or, option_map_or}
use Rattle.std.specs.List.{list_any, find as first_that}
use Rattle.fed_base.specs.Answers.{◌>>=◌}
use Rattle.fed_json.specs.declared.tree.Json.{Json}
use Rattle.fed_json.specs.declared.tree.Member.{Member}
use Rattle.fed_json.specs.Trees.{as_object, find, texts_of}
use Rattle.fed_json.specs.Reading.{tree_in}
use Rattle.fed_json.specs.Tables.{Name}
use Rattle.jws_form.specs.declared.compact.Compact.{Compact}
use Rattle.jwk_set.specs.declared.jwk.Jwk.{Jwk}
use Rattle.jwk_set.specs.declared.fault.SetFault.{SetFault}
use Rattle.jwk_set.specs.KeySets.{key_set_in}
use Rattle.policy_merge.specs.Policies.{Types}
use Rattle.policy_merge.specs.Names.{operator_name, operators}
use Rattle.policy_merge.specs.Shapes.{policy_shape}
use Rattle.chain_limits.specs.Reading.{Texts, no_constraints, constraints_of}
use Rattle.chain_limits.specs.declared.constraints.Constraints.{Constraints}
use Rattle.entity_statement.specs.declared.fault.StatementFault.{StatementFault}
use Rattle.entity_statement.specs.declared.fault.StatementFault.TheVariants.{Typ, Tree, Missing, Shape, Keys, Misplaced, Critical, Memory}
use Rattle.entity_statement.specs.declared.parts.Parties.{Parties}
use Rattle.entity_statement.specs.declared.marks.MarkEntry.{MarkEntry}
use Rattle.entity_statement.specs.declared.marks.Issuers.{Issuers}
use Rattle.entity_statement.specs.Claims.{Claims, CommonClaims, FurtherClaims, Identifier, MarkClaims, OwnerClaims, RuleClaims, ValidityClaims, all_claims, no_metadata}
use Rattle.entity_statement.specs.Forms.{identifier, moment, hints_of, metadata_of, marks_of, issuers_of, owners_of}

-- ---- answers

-- the answer says what is expected, unless memory was wanting
abbrev pub GivesBy : {X Y : Type 0} → (X → Y) → Result X StatementFault → Result Y StatementFault → Type 0
GivesBy view (Ok x) expected = expected ≡ Ok (view x)
GivesBy view (Err Memory) expected = Unit {0}
GivesBy view (Err fault) expected = expected ≡ Err fault

-- the answer is the one that is expected, unless memory was wanting
abbrev pub Gives : {X : Type 0} → Result X StatementFault → Result X StatementFault → Type 0
Gives = GivesBy (λ x. x)

-- ---- the columns of the table

-- what a claim's value says under the claim's name, or its fault (section 3.1)
abbrev pub Column : Type 0 → Type 0
Column X = Name → Json → Result X StatementFault

-- the claim has a form (section 3.1)
abbrev pub formed : {X : Type 0} → (Json → Option X) → Column X
formed form name tree = ok_or (form tree) (Shape name)

-- a claim has its place in these statements alone (sections 3.1.2 and 3.1.3)
abbrev pub in_place : Bool → Name → Result (Unit {0}) StatementFault
in_place here name = if here then Ok tt else Err (Misplaced name)

-- what a claim says that has its place in these statements alone (sections 3.1.2 and 3.1.3)
abbrev pub placed : {X : Type 0} → Bool → Column X → Column X
placed here column name tree = in_place here name >>= λ is. column name tree

-- the claim must be there (section 3.1.1)
abbrev pub required : {X : Type 0} → Name → Column X → List Member → Result X StatementFault
required name column members = ok_or (find name members) (Missing name) >>= column name

-- what a value says that may be absent, and says then what an empty one would (section 3.1)
abbrev pub said : {X : Type 0} → X → (Json → Result X StatementFault) → Option Json → Result X StatementFault
said empty says None = Ok empty
said empty says (Some tree) = says tree

-- the claim may be absent (section 3.1)
abbrev pub optional : {X : Type 0} → X → Name → Column X → List Member → Result X StatementFault
optional empty name column members = said empty (column name) (find name members)

-- the claim is read in these statements alone (section 3.1.2)
abbrev pub read_where : {X : Type 0} → Bool → X → Result X StatementFault → Result X StatementFault
read_where here empty claim = if here then claim else Ok empty

-- ---- names that must be understood

-- the name that isn't understood, where there is one, is told (section 3.1.1, `crit`)
abbrev pub unless_strange : Option Name → Result (Unit {0}) StatementFault
unless_strange None = Ok tt
unless_strange (Some name) = Err (Critical name)

-- each name is understood, else the first that isn't is told (section 3.1.1, `crit`)
abbrev pub all_understood : (Name → Bool) → Texts → Result (Unit {0}) StatementFault
all_understood understood names = unless_strange (first_that (λ name. not (understood name)) names)

-- a list of texts that isn't empty (section 3.1.1, `crit`)
abbrev pub unless_empty : Texts → Option Texts
unless_empty [] = None
unless_empty (text ∷ texts) = Some (text ∷ texts)

-- claims that must be understood (section 3.1.1, `crit`); none is
unfoldable pub critical : Column (Unit {0})
critical name tree = ok_or (option_and_then unless_empty (texts_of tree)) (Shape name) >>= all_understood (λ claim. false)

-- the name is an operator's (section 6.1.3.1)
abbrev pub is_operator : Name → Bool
is_operator name = list_any (λ o. bytes_eq (operator_name o) name) operators

-- operators that must be understood (section 3.1.3, `metadata_policy_crit`)
unfoldable pub critical_operators : Column (Unit {0})
critical_operators name tree = ok_or (texts_of tree) (Shape name) >>= all_understood is_operator

-- ---- the table

-- the keys of a set, or its fault (section 3.1.1, `jwks`)
abbrev pub keyed : Result (List Jwk) SetFault → Result (List Jwk) StatementFault
keyed (Ok keys) = Ok keys
keyed (Err fault) = Err (Keys fault)

-- the claim is a set of keys (section 3.1.1, `jwks`)
abbrev pub key_set : Column (List Jwk)
key_set name tree = keyed (key_set_in tree)

-- the claims that every statement has, or the first fault; `crit` comes before all (section 3.1.1)
unfoldable pub common_in : List Member → Result CommonClaims StatementFault
common_in members = do
  understood ← optional tt (codes "crit") critical members
  iss ← required (codes "iss") (formed identifier) members
  sub ← required (codes "sub") (formed identifier) members
  iat ← required (codes "iat") (formed moment) members
  exp ← required (codes "exp") (formed moment) members
  keys ← required (codes "jwks") key_set members
  Ok (record { iss = iss; sub = sub; iat = iat; exp = exp; keys = keys })

-- who says it and of whom, or the first fault (section 3.1.1)
unfoldable pub parties_in : List Member → Result Parties StatementFault
parties_in members = do
  iss ← required (codes "iss") (formed identifier) members
  sub ← required (codes "sub") (formed identifier) members
  Ok (record { iss = iss; sub = sub })

-- when it holds and the keys of its subject, or the first fault (section 3.1.1)
unfoldable pub validity_in : List Member → Result ValidityClaims StatementFault
validity_in members = do
  iat ← required (codes "iat") (formed moment) members
  exp ← required (codes "exp") (formed moment) members
  keys ← required (codes "jwks") key_set members
  Ok (record { iat = iat; exp = exp; keys = keys })

-- the superiors that a configuration names (section 3.1.2, `authority_hints`)
unfoldable pub hints_in : Bool → List Member → Result (List Identifier) StatementFault
hints_in own members = optional [] (codes "authority_hints") (placed own (formed hints_of)) members

-- the metadata of a configuration, or what a superior puts over it (section 3.1.1, `metadata`)
unfoldable pub metadata_in : List Member → Result Json StatementFault
metadata_in members = optional no_metadata (codes "metadata") (formed metadata_of) members

-- what a superior asks of the metadata below it (section 3.1.3, `metadata_policy`)
unfoldable pub policy_in : Bool → List Member → Result Types StatementFault
policy_in own members = optional [] (codes "metadata_policy") (placed (not own) (formed policy_shape)) members

-- the operators that have to be understood are (section 3.1.3, `metadata_policy_crit`)
unfoldable pub policy_crit_in : Bool → List Member → Result (Unit {0}) StatementFault
policy_crit_in own members = optional tt (codes "metadata_policy_crit") (placed (not own) critical_operators) members

-- the limits that a superior sets (section 3.1.3, `constraints`)
unfoldable pub constraints_in : Bool → List Member → Result Constraints StatementFault
constraints_in own members = optional no_constraints (codes "constraints") (placed (not own) (formed constraints_of)) members

-- the trust marks of a configuration (section 3.1.2, `trust_marks`)
unfoldable pub marks_in : Bool → List Member → Result (List MarkEntry) StatementFault
marks_in own members = read_where own [] (optional [] (codes "trust_marks") (formed marks_of) members)

-- those who may issue marks, as an anchor's configuration says (section 3.1.2, `trust_mark_issuers`)
unfoldable pub mark_issuers_in : Bool → List Member → Result (List Issuers) StatementFault
mark_issuers_in own members = read_where own [] (optional [] (codes "trust_mark_issuers") (formed issuers_of) members)

-- the owners of types of marks, as an anchor's configuration says (section 3.1.2, `trust_mark_owners`)
unfoldable pub mark_owners_in : Bool → List Member → Result (List OwnerClaims) StatementFault
mark_owners_in own members = read_where own [] (optional [] (codes "trust_mark_owners") (formed owners_of) members)

-- what a superior rules for its subordinate, or the first fault (section 3.1.3)
unfoldable pub rules_in : Bool → List Member → Result RuleClaims StatementFault
rules_in own members = do
  policy ← policy_in own members
  understood ← policy_crit_in own members
  constraints ← constraints_in own members
  Ok (record { policy = policy; constraints = constraints })

-- what a configuration says of trust marks, or the first fault (section 3.1.2)
unfoldable pub mark_claims_in : Bool → List Member → Result MarkClaims StatementFault
mark_claims_in own members = do
  marks ← marks_in own members
  issuers ← mark_issuers_in own members
  owners ← mark_owners_in own members
  Ok (record { marks = marks; issuers = issuers; owners = owners })

-- the claims beside the common ones, of a configuration or of a subordinate statement (sections 3.1.1 to 3.1.3)
unfoldable pub further_in : Bool → List Member → Result FurtherClaims StatementFault
further_in own members = do
  hints ← hints_in own members
  metadata ← metadata_in members
  rules ← rules_in own members
  marks ← mark_claims_in own members
  Ok (record { hints = hints; metadata = metadata; rules = rules; marks = marks })

-- the claims of an object: what they say, or the first fault in the table's order (section 3.1)
unfoldable pub claims_in : List Member → Result Claims StatementFault
claims_in members = do
  common ← common_in members
  further ← further_in (bytes_eq common.iss common.sub) members
  Ok (all_claims common further)

-- the header's type of an entity statement (section 3.1)
abbrev pub statement_type : List ℕ
statement_type = codes "entity-statement+jwt"

-- the header's type is that of an entity statement (section 3.1)
abbrev pub is_statement_type : Option (List ℕ) → Bool
is_statement_type typ = option_map_or (λ t. bytes_eq t statement_type) typ false

-- what a tree says as the payload of a statement: its claims, or the first fault (section 3.1)
unfoldable pub claims_of_tree : Json → Result Claims StatementFault
claims_of_tree tree = ok_or (as_object tree) Tree >>= claims_in

-- what a text says as a statement: its claims, or the first fault (section 3.1)
unfoldable pub claims_of : Compact → Result Claims StatementFault
claims_of c = if is_statement_type c.typ then (ok_or (tree_in c.payload) Tree >>= claims_of_tree) else Err Typ
