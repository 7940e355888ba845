-- The constraints that a JSON object tells (OpenID Federation 1.0 section 6.2).
use Rattle.std.specs.Prelude.{◌≡◌, ◌^◌, ℕ, List, [], codes, All, Option, Some, None, unwrap_or, IfSome, Result, Ok, Err, IsUtf8}
use Rattle.fed_base.specs.Values.{◌>>=◌}
use Rattle.fed_json.specs.declared.tree.Json.{Json}
use Rattle.fed_json.specs.declared.tree.Member.{Member}
use Rattle.fed_json.specs.Trees.{find, as_object, count_below, optional, texts_of}
use Rattle.chain_limits.specs.declared.constraints.Constraints.{Constraints}
use Rattle.chain_limits.specs.declared.shape.LimitShape.{LimitShape}
use Rattle.chain_limits.specs.declared.shape.LimitShape.TheVariants.{Shape, Memory}

-- names of hosts, or types of entities (sections 6.2.2 and 6.2.3)
abbrev pub Texts : Type 0
Texts = List (List ℕ)

-- what a statement without the claim sets: no limit (section 6.2)
abbrev pub no_constraints : Constraints
no_constraints = record { max_path = None; permitted = None; excluded = []; types = None }

-- the members of an object; one that is missing has none (section 6.2.2)
abbrev pub members_of : Option Json → Option (List Member)
members_of None = Some []
members_of (Some tree) = as_object tree

-- the members of the naming constraints (section 6.2.2)
abbrev pub naming_in : List Member → Option (List Member)
naming_in members = members_of (find (codes "naming_constraints") members)

-- how many entities may stand between, a number below 2^32 (section 6.2.1)
abbrev pub max_path_in : List Member → Option (Option ℕ)
max_path_in members = optional (count_below (2 ^ 32)) (find (codes "max_path_length") members)

-- the names of which each host matches one (section 6.2.2)
abbrev pub permitted_in : List Member → Option (Option Texts)
permitted_in naming = optional texts_of (find (codes "permitted") naming)

-- the names of which no host matches one (section 6.2.2)
abbrev pub excluded_in : List Member → Option (Option Texts)
excluded_in naming = optional texts_of (find (codes "excluded") naming)

-- the types of entities that are allowed (section 6.2.3)
abbrev pub types_in : List Member → Option (Option Texts)
types_in members = optional texts_of (find (codes "allowed_entity_types") members)

-- the constraints that the tree tells, where it has their form (section 6.2)
unfoldable pub constraints_of : Json → Option Constraints
constraints_of tree = do
  members ← as_object tree
  naming ← naming_in members
  max_path ← max_path_in members
  permitted ← permitted_in naming
  excluded ← excluded_in naming
  types ← types_in members
  Some (record { max_path = max_path; permitted = permitted; excluded = unwrap_or excluded []; types = types })

-- the answer says what is expected, and Shape where there is nothing; of want of memory nothing is said
abbrev pub ReadsBy : {X Y : Type 0} → (X → Y) → Result X LimitShape → Option Y → Type 0
ReadsBy view (Ok x) expected = expected ≡ Some (view x)
ReadsBy view (Err Shape) expected = expected ≡ None
ReadsBy view (Err Memory) expected = Unit {0}

-- the answer is what is expected, and Shape where there is nothing; of want of memory nothing is said
abbrev pub Reads : {X : Type 0} → Result X LimitShape → Option X → Type 0
Reads = ReadsBy (λ x. x)

-- each name and each type is UTF-8 (RFC 8259 section 8.1)
pub record HoldsUtf8 (limits : Constraints) : Type 0 where
  pub permitted : IfSome limits.permitted (All IsUtf8)
  pub excluded : All IsUtf8 limits.excluded
  pub types : IfSome limits.types (All IsUtf8)
