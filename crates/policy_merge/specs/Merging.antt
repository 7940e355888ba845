-- The merged policy (OpenID Federation 1.0 section 6.1.4.1). How two values of one operator become one is said with the
-- operator in section 6.1.3.1; what is taken where the standard leaves room stands in docs/POLICY.md.
use Rattle.std.specs.Prelude.{◌≡◌, List, [], Option, Some, None, option_map, map, ◌||◌, Result, if◌then◌else◌}
use Rattle.std.specs.Option.{option_map_or}
use Rattle.fed_json.specs.Sets.{same, union_of, intersection_of}
use Rattle.policy_merge.specs.declared.operator.Operator.TheVariants.{Value, Default}
use Rattle.policy_merge.specs.declared.operators.Operators.{Operators}
use Rattle.fed_json.specs.declared.named.Named.{Named}
use Rattle.policy_merge.specs.declared.fault.PolicyFault.{PolicyFault}
use Rattle.policy_merge.specs.declared.fault.PolicyFault.TheVariants.{Conflict, Memory}
use Rattle.fed_base.specs.Answers.{unless}
use Rattle.fed_json.specs.Tables.{Name, Side, sides, first}
use Rattle.policy_merge.specs.Places.{IsEarlier, AreUtf8}
use Rattle.policy_merge.specs.Policies.{Parameters, Types, named, no_operators, operators_at}
use Rattle.policy_merge.specs.Combining.{Pair, if_both, clash, conflict_at}

-- the one that is there, or what becomes of both
abbrev pub met : {X : Type 0} → (X → X → X) → Option X → Option X → Option X
met both (Some upper) (Some lower) = Some (both upper lower)
met both (Some upper) None = Some upper
met both None lower = lower

-- the operators of both, each merged by its rule (section 6.1.3.1); a list keeps its order and has each value once, and a `subset_of` may
-- become empty
abbrev pub merged_operators : Operators → Operators → Operators
merged_operators upper lower = record {
  value = met (λ u l. u) upper.value lower.value;
  add = met union_of upper.add lower.add;
  default = met (λ u l. u) upper.default lower.default;
  one_of = met intersection_of upper.one_of lower.one_of;
  subset_of = met intersection_of upper.subset_of lower.subset_of;
  superset_of = met union_of upper.superset_of lower.superset_of;
  essential = met (λ u l. u || l) upper.essential lower.essential;
}

-- what stands first against merging (sections 6.1.3.1 and 6.1.4.1): two values, two defaults, and then a pair of the merged operators
unfoldable pub merge_clash : Name → Operators → Operators → Option Pair
merge_clash name upper lower =
    if if_both same upper.value lower.value
    then if if_both same upper.default lower.default
    then clash name (merged_operators upper lower)
    else Some (Default, Default)
    else Some (Value, Value)

-- what a side has under its name
abbrev pub value_or : {T : Type 0} → T → Option (Named T) → T
value_or none item = option_map_or (λ n. n.value) item none

-- the name of an item of a table
abbrev pub name_of : {T : Type 0} → Named T → Name
name_of n = n.name

-- two tables side by side, name by name in byte order
abbrev pub beside : {T : Type 0} → List (Named T) → List (Named T) → List (Side (Named T) (Named T))
beside = sides name_of name_of

-- a parameter that one side or both have (section 6.1.4.1)
abbrev pub merged_parameter : Side (Named Operators) (Named Operators) → Named Operators
merged_parameter s = named s.name (merged_operators (value_or no_operators s.upper) (value_or no_operators s.lower))

-- the parameters of both
unfoldable pub merged_parameters : Parameters → Parameters → Parameters
merged_parameters upper lower = map merged_parameter (beside upper lower)

-- an entity type that one side or both have (section 6.1.4.1)
abbrev pub merged_type : Side (Named Parameters) (Named Parameters) → Named Parameters
merged_type s = named s.name (merged_parameters (value_or [] s.upper) (value_or [] s.lower))

-- the entity types of both
unfoldable pub merged : Types → Types → Types
merged upper lower = map merged_type (beside upper lower)

-- the conflict of a parameter, the first in the order of `merge_clash`
abbrev pub parameter_conflict : Name → Side (Named Operators) (Named Operators) → Option PolicyFault
parameter_conflict entity_type s =
    option_map (conflict_at entity_type s.name) (merge_clash s.name (value_or no_operators s.upper) (value_or no_operators s.lower))

-- the first conflict of the parameters of an entity type
unfoldable pub parameters_conflict : Name → Parameters → Parameters → Option PolicyFault
parameters_conflict entity_type upper lower = first (parameter_conflict entity_type) (beside upper lower)

-- the first conflict of an entity type
abbrev pub type_conflict : Side (Named Parameters) (Named Parameters) → Option PolicyFault
type_conflict s = parameters_conflict s.name (value_or [] s.upper) (value_or [] s.lower)

-- the first conflict of two policies: by entity type, then by parameter, then in the order of `merge_clash`
unfoldable pub merge_conflict : Types → Types → Option PolicyFault
merge_conflict upper lower = first type_conflict (beside upper lower)

-- what becomes of the operators of both: the merged ones, or the conflict that is named
unfoldable pub merging_operators : Name → Name → Operators → Operators → Result Operators PolicyFault
merging_operators entity_type parameter upper lower =
    unless (option_map (conflict_at entity_type parameter) (merge_clash parameter upper lower)) (merged_operators upper lower)

-- what becomes of the parameters of both
unfoldable pub merging_parameters : Name → Parameters → Parameters → Result Parameters PolicyFault
merging_parameters entity_type upper lower = unless (parameters_conflict entity_type upper lower) (merged_parameters upper lower)

-- what becomes of two policies: the merged one, or the conflict that is named (section 6.1.4.1)
unfoldable pub merging : Types → Types → Result Types PolicyFault
merging upper lower = unless (merge_conflict upper lower) (merged upper lower)

-- no pair at an earlier place
abbrev pub NoneBefore : (Name → Name → Option Pair) → Name → Name → Type 0
NoneBefore pair_at entity_type parameter =
    (t p : Name) → IsEarlier t p entity_type parameter → pair_at t p ≡ None

-- the fault names the pair at the first place that has one; of want of memory nothing is said
abbrev pub IsFirst : (Name → Name → Option Pair) → PolicyFault → Type 0
IsFirst pair_at Memory = Unit {0}
IsFirst pair_at (Conflict t p f s) = (pair_at t p ≡ Some (f, s)) × NoneBefore pair_at t p

-- what clashes at a place of one policy
abbrev pub clash_in : Types → Name → Name → Option Pair
clash_in types t p = clash p (operators_at types t p)

-- what clashes at a place of two policies that are merged
abbrev pub merge_clash_in : Types → Types → Name → Name → Option Pair
merge_clash_in upper lower t p = merge_clash p (operators_at upper t p) (operators_at lower t p)

-- the names in a conflict are UTF-8
abbrev pub NamesUtf8 : PolicyFault → Type 0
NamesUtf8 Memory = Unit {0}
NamesUtf8 (Conflict t p f s) = AreUtf8 t p
