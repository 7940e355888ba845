-- Metadata under a policy (OpenID Federation 1.0 section 6.1.4.2).
use Rattle.std.specs.Prelude.{◌≡◌, IsTrue, List, [], Option, Some, None, option_map, Result, Ok, Err}
use Rattle.fed_base.specs.Values.{◌>>=◌}
use Rattle.std.specs.List.{filter_map}
use Rattle.fed_base.specs.Answers.{unless}
use Rattle.fed_json.specs.Reading.{member_of}
use Rattle.fed_json.specs.Trees.{find, object_members, member_name}
use Rattle.fed_json.specs.declared.tree.Json.{Json, Object}
use Rattle.fed_json.specs.declared.tree.Member.{Member}
use Rattle.fed_json.specs.declared.named.Named.{Named}
use Rattle.policy_merge.specs.declared.operator.Operator.{Operator}
use Rattle.policy_merge.specs.declared.operators.Operators.{Operators}
use Rattle.fed_json.specs.Tables.{Name, Side, sides, first}
use Rattle.policy_merge.specs.Places.{IsEarlier, AreUtf8}
use Rattle.policy_merge.specs.Policies.{Parameters, Types, no_operators, operators_at}
use Rattle.policy_merge.specs.Merging.{name_of, value_or}
use Rattle.policy_apply.specs.declared.fault.ApplyFault.{ApplyFault}
use Rattle.policy_apply.specs.declared.fault.ApplyFault.TheVariants.{Refused, Memory}
use Rattle.policy_apply.specs.Acting.{Outcome, acted, is_there}

-- a policy's table beside the members of an object, name by name in byte order
abbrev pub beside_members : {T : Type 0} → List (Named T) → List Member → List (Side (Named T) Member)
beside_members = sides name_of member_name

-- what an outcome leaves, and which operator refused (section 6.1.4.2)
abbrev pub left_of : Outcome → Option Json
left_of (Ok x) = x
left_of (Err operator) = None

abbrev pub refuser : Outcome → Option Operator
refuser (Ok x) = None
refuser (Err operator) = Some operator

-- what the policy makes of a parameter that it or the metadata has
abbrev pub outcome_at : Side (Named Operators) Member → Outcome
outcome_at s = acted s.name (value_or no_operators s.upper) (option_map (λ m. m.value) s.lower)

-- the parameter that is left, if any
abbrev pub parameter_left : Side (Named Operators) Member → Option Member
parameter_left s = option_map (member_of s.name) (left_of (outcome_at s))

-- the refusal of the parameter, if any
abbrev pub parameter_refusal : Name → Side (Named Operators) Member → Option ApplyFault
parameter_refusal entity_type s = option_map (λ operator. Refused entity_type s.name operator) (refuser (outcome_at s))

-- the parameters that are left of an entity type
unfoldable pub applied_parameters : Parameters → List Member → List Member
applied_parameters policy members = filter_map parameter_left (beside_members policy members)

-- the first parameter of an entity type that is refused
unfoldable pub parameters_refusal : Name → Parameters → List Member → Option ApplyFault
parameters_refusal entity_type policy members = first (parameter_refusal entity_type) (beside_members policy members)

-- an entity type that the metadata has; one that only the policy has is passed over
abbrev pub type_left : Side (Named Parameters) Member → Option Member
type_left s =
    option_map (λ m. member_of s.name (Object (applied_parameters (value_or [] s.upper) (object_members m.value)))) s.lower

-- the first refusal in an entity type that the metadata has
abbrev pub type_refusal : Side (Named Parameters) Member → Option ApplyFault
type_refusal s = s.lower >>= λ m. parameters_refusal s.name (value_or [] s.upper) (object_members m.value)

-- the entity types with the parameters that are left
unfoldable pub applied_types : Types → List Member → List Member
applied_types policy members = filter_map type_left (beside_members policy members)

-- the first refusal of all entity types
unfoldable pub types_refusal : Types → List Member → Option ApplyFault
types_refusal policy members = first type_refusal (beside_members policy members)

-- what becomes of one parameter: the value that is left, if any, or the refusal
abbrev pub leaving : Name → Name → Outcome → Result (Option Json) ApplyFault
leaving entity_type parameter (Ok x) = Ok x
leaving entity_type parameter (Err operator) = Err (Refused entity_type parameter operator)

-- what becomes of the parameters of an entity type
unfoldable pub applying_parameters : Name → Parameters → List Member → Result (List Member) ApplyFault
applying_parameters entity_type policy members = unless (parameters_refusal entity_type policy members) (applied_parameters policy members)

-- what becomes of the entity types
unfoldable pub applying_types : Types → List Member → Result (List Member) ApplyFault
applying_types policy members = unless (types_refusal policy members) (applied_types policy members)

-- the metadata under the policy (section 6.1.4.2), or the first refusal: by entity type, then by parameter, then by operator
unfoldable pub applying : Types → Json → Result Json ApplyFault
applying policy metadata =
    unless (types_refusal policy (object_members metadata)) (Object (applied_types policy (object_members metadata)))

-- the answer is the one expected; of want of memory nothing is said
abbrev pub Gives : {T : Type 0} → Result T ApplyFault → Result T ApplyFault → Type 0
Gives (Ok value) expected = expected ≡ Ok value
Gives (Err Memory) expected = Unit {0}
Gives (Err (Refused t p o)) expected = expected ≡ Err (Refused t p o)

-- the fault names the operator, or is want of memory
abbrev pub IsRefusal : ApplyFault → Name → Name → Operator → Type 0
IsRefusal Memory t p o = Unit {0}
IsRefusal (Refused t' p' o') t p o = Refused t' p' o' ≡ Refused t p o

-- ---- at one place

-- what an object has under a name
abbrev pub value_at : Json → Name → Option Json
value_at tree name = find name (object_members tree)

-- the parameter of an entity type (section 5)
abbrev pub parameter_at : Json → Name → Name → Option Json
parameter_at metadata entity_type parameter = value_at metadata entity_type >>= λ tree. value_at tree parameter

-- the metadata has the entity type (section 5)
abbrev pub HasType : Json → Name → Type 0
HasType metadata entity_type = IsTrue (is_there (value_at metadata entity_type))

-- what the policy makes of the parameter there
abbrev pub outcome_in : Types → Json → Name → Name → Outcome
outcome_in policy metadata t p = acted p (operators_at policy t p) (parameter_at metadata t p)

-- the operator refuses at that place, and nothing is refused at an earlier one; of want of memory nothing is said
abbrev pub IsFirstRefusal : Types → Json → ApplyFault → Type 0
IsFirstRefusal policy metadata Memory = Unit {0}
IsFirstRefusal policy metadata (Refused entity_type parameter operator) =
    HasType metadata entity_type × (outcome_in policy metadata entity_type parameter ≡ Err operator)
    × ((t p : Name) → HasType metadata t → IsEarlier t p entity_type parameter → refuser (outcome_in policy metadata t p) ≡ None)

-- the names in a refusal are UTF-8
abbrev pub NamesUtf8 : ApplyFault → Type 0
NamesUtf8 Memory = Unit {0}
NamesUtf8 (Refused t p o) = AreUtf8 t p
