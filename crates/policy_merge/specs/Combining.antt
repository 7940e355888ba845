-- Which operators of one parameter stand together (OpenID Federation 1.0 section 6.1.3.1).
use Rattle.std.specs.Prelude.{◌≡◌, List, [], ◌∷◌, Option, Some, option_map, Bool, true, false, ◌&&◌, not, Result, Ok, Err}
use Rattle.std.specs.Option.{option_map_or}
use Rattle.fed_base.specs.Values.{◌>>=◌}
use Rattle.std.specs.List.{find}
use Rattle.fed_json.specs.Sets.{are_among, is_among}
use Rattle.fed_json.specs.declared.tree.Json.{Json}
use Rattle.policy_merge.specs.declared.operator.Operator.{Operator}
use Rattle.policy_merge.specs.declared.operator.Operator.TheVariants.{Value, Add, Default, OneOf, SubsetOf, SupersetOf, Essential}
use Rattle.policy_merge.specs.declared.operators.Operators.{Operators}
use Rattle.policy_merge.specs.declared.fault.PolicyFault.{PolicyFault}
use Rattle.policy_merge.specs.declared.fault.PolicyFault.TheVariants.{Conflict, Memory}
use Rattle.fed_json.specs.Tables.{Name, first}
use Rattle.policy_merge.specs.Scope.{members_of, is_empty}
use Rattle.policy_merge.specs.Policies.{Parameters, Types}
use Rattle.fed_json.specs.Trees.{is_null}

-- one of the two is absent, or both pass
abbrev pub if_both : {X Y : Type 0} → (X → Y → Bool) → Option X → Option Y → Bool
if_both test (Some x) (Some y) = test x y
if_both test _ _ = true

-- the value has members, and they pass
abbrev pub have_members : (List Json → Bool) → Option (List Json) → Bool
have_members test members = option_map_or test members false

-- the operators of a parameter, with the members of its `value` and its `default`
pub record Judged : Type 0 where
  pub operators : Operators
  pub value_members : Option (List Json)
  pub default_members : Option (List Json)

-- the operators of the parameter, judged by the members that its values have
unfoldable pub judged : Name → Operators → Judged
judged name o = record { operators = o; value_members = o.value >>= members_of name; default_members = o.default >>= members_of name }

-- whether two operators of the parameter stand together; an empty one_of doesn't stand by itself
unfoldable pub stand : Judged → Operator → Operator → Bool
stand j OneOf OneOf = option_map_or (λ list. not (is_empty list)) j.operators.one_of true
stand j Value Add = if_both (λ value add. have_members (λ members. are_among members add) j.value_members) j.operators.value j.operators.add
stand j Value Default = if_both (λ value default. not (is_null value)) j.operators.value j.operators.default
stand j Value OneOf = if_both (λ value list. not (is_null value) && is_among list value) j.operators.value j.operators.one_of
stand j Value SubsetOf = if_both (λ value list. have_members (λ members. are_among list members) j.value_members) j.operators.value j.operators.subset_of
stand j Value SupersetOf = if_both (λ value list. have_members (λ members. are_among members list) j.value_members) j.operators.value j.operators.superset_of
stand j Value Essential = if_both (λ value essential. not (is_null value && essential)) j.operators.value j.operators.essential
stand j Add OneOf = if_both (λ add list. false) j.operators.add j.operators.one_of
stand j Add SubsetOf = if_both (λ add list. are_among list add) j.operators.add j.operators.subset_of
stand j Default OneOf = if_both (λ default list. is_among list default) j.operators.default j.operators.one_of
stand j Default SubsetOf = if_both (λ default list. have_members (λ members. are_among list members) j.default_members) j.operators.default j.operators.subset_of
stand j Default SupersetOf = if_both (λ default list. have_members (λ members. are_among members list) j.default_members) j.operators.default j.operators.superset_of
stand j OneOf SubsetOf = if_both (λ a b. false) j.operators.one_of j.operators.subset_of
stand j OneOf SupersetOf = if_both (λ a b. false) j.operators.one_of j.operators.superset_of
stand j SubsetOf SupersetOf = if_both (λ subset superset. are_among subset superset) j.operators.subset_of j.operators.superset_of
stand j _ _ = true

-- two operators
abbrev pub Pair : Type 0
Pair = Operator × Operator

-- the pairs that are looked at, in the order in which a conflict is named
unfoldable pub pairs : List Pair
pairs =
    (OneOf, OneOf) ∷ (Value, Add) ∷ (Value, Default) ∷ (Value, OneOf) ∷ (Value, SubsetOf) ∷ (Value, SupersetOf) ∷ (Value, Essential)
    ∷ (Add, OneOf) ∷ (Add, SubsetOf) ∷ (Default, OneOf) ∷ (Default, SubsetOf) ∷ (Default, SupersetOf)
    ∷ (OneOf, SubsetOf) ∷ (OneOf, SupersetOf) ∷ (SubsetOf, SupersetOf) ∷ []

-- the first pair of one parameter that doesn't stand together
unfoldable pub clash : Name → Operators → Option Pair
clash name o = find (λ pair. not (stand (judged name o) pair.0 pair.1)) pairs

-- a pair of operators, at its entity type and parameter
abbrev pub conflict_at : Name → Name → Pair → PolicyFault
conflict_at entity_type parameter pair = Conflict entity_type parameter pair.0 pair.1

-- the first conflict of an entity type by itself: by parameter, then in the order of the pairs
unfoldable pub conflict_in_parameters : Name → Parameters → Option PolicyFault
conflict_in_parameters entity_type = first (λ p. option_map (conflict_at entity_type p.name) (clash p.name p.value))

-- the first conflict of a policy by itself: by entity type, then as above
unfoldable pub conflict_in : Types → Option PolicyFault
conflict_in = first (λ t. conflict_in_parameters t.name t.value)

-- the fault is the one that is named, or want of memory
abbrev pub IsFault : PolicyFault → PolicyFault → Type 0
IsFault Memory named = Unit {0}
IsFault (Conflict t p f s) named = Conflict t p f s ≡ named

-- the answer is the one expected; of want of memory nothing is said
abbrev pub Gives : {T : Type 0} → Result T PolicyFault → Result T PolicyFault → Type 0
Gives (Ok value) expected = expected ≡ Ok value
Gives (Err Memory) expected = Unit {0}
Gives (Err (Conflict t p f s)) expected = expected ≡ Err (Conflict t p f s)
