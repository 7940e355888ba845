-- The shape of a policy as a tree (OpenID Federation 1.0 section 6.1.2).
use Rattle.std.specs.Prelude.{◌≡◌, List, Option, Some, None, option_map, Bool, Result, Ok, Err, if◌then◌else◌}
use Rattle.fed_base.specs.Values.{◌>>=◌}
use Rattle.fed_json.specs.Trees.{as_list, as_object, find, is_null, optional, each}
use Rattle.fed_json.specs.Forms.{has_odd}
use Rattle.fed_json.specs.declared.tree.Json.{Json, out-Json}
use Rattle.fed_json.specs.declared.tree.Json.TheOpen.{Json-F}
use Rattle.fed_json.specs.declared.tree.Member.{Member}
use Rattle.policy_merge.specs.declared.fault.PolicyShape.{PolicyShape}
use Rattle.policy_merge.specs.declared.fault.PolicyShape.TheVariants.{Shape, Memory}
use Rattle.policy_merge.specs.declared.operator.Operator.{Operator}
use Rattle.policy_merge.specs.declared.operator.Operator.TheVariants.{Value, Add, Default, OneOf, SubsetOf, SupersetOf, Essential}
use Rattle.policy_merge.specs.declared.operators.Operators.{Operators}
use Rattle.fed_json.specs.declared.named.Named.{Named}
use Rattle.policy_merge.specs.Names.{operator_name}
use Rattle.policy_merge.specs.Policies.{Types, named}

-- true or false, at one level of a tree
abbrev truth_in : Json-F Json Member → Option Bool
truth_in (Json-F.Bool b) = Some b
truth_in _ = None

-- true or false (RFC 8259 section 3)
abbrev pub as_truth : Json → Option Bool
as_truth tree = truth_in (out-Json tree)

-- any tree but null (section 6.1.3.1.3)
abbrev pub as_default : Json → Option Json
as_default tree = if is_null tree then None else Some tree

-- what stands under the operator's name: nothing, or something of the operator's shape
abbrev pub at : {X : Type 0} → (Json → Option X) → Operator → List Member → Option (Option X)
at shape operator members = optional shape (find (operator_name operator) members)

-- the operators of a parameter; other members of the object are left unread
abbrev pub operators_of : List Member → Option Operators
operators_of members = do
  value ← at Some Value members
  add ← at as_list Add members
  default ← at as_default Default members
  one_of ← at as_list OneOf members
  subset_of ← at as_list SubsetOf members
  superset_of ← at as_list SupersetOf members
  essential ← at as_truth Essential members
  Some (record {
    value = value;
    add = add;
    default = default;
    one_of = one_of;
    subset_of = subset_of;
    superset_of = superset_of;
    essential = essential;
  })

-- an object of operators (section 6.1.3)
unfoldable pub operators_shape : Json → Option Operators
operators_shape tree = as_object tree >>= operators_of

-- members as a table, where each of their values has the shape
abbrev pub table_of : {T : Type 0} → (Json → Option T) → List Member → Option (List (Named T))
table_of shape = each (λ m. option_map (named m.name) (shape m.value))

-- an object as a table
unfoldable pub table_shape : {T : Type 0} → (Json → Option T) → Json → Option (List (Named T))
table_shape shape tree = as_object tree >>= table_of shape

-- a policy: an object from entity type to an object from parameter to an object of operators, with no Odd anywhere
unfoldable pub policy_shape : Json → Option Types
policy_shape tree = if has_odd tree then None else table_shape (table_shape operators_shape) tree

-- the answer is what the tree reads as, and Shape where it has no reading; of want of memory nothing is said
abbrev pub Reads : {T : Type 0} → Result T PolicyShape → Option T → Type 0
Reads (Ok value) expected = expected ≡ Some value
Reads (Err Shape) expected = expected ≡ None
Reads (Err Memory) expected = Unit {0}

-- the same of an answer that leaves the value in a place
abbrev pub ReadsInto : {T : Type 0} → T → Result (Unit {0}) PolicyShape → Option T → Type 0
ReadsInto value (Ok _) expected = expected ≡ Some value
ReadsInto value (Err Shape) expected = expected ≡ None
ReadsInto value (Err Memory) expected = Unit {0}
