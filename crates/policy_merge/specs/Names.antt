-- The names of the seven operators (OpenID Federation 1.0 section 6.1.3.1).
use Rattle.std.specs.Prelude.{ℕ, List, [], ◌∷◌, codes}
use Rattle.policy_merge.specs.declared.operator.Operator.{Operator}
use Rattle.policy_merge.specs.declared.operator.Operator.TheVariants.{Value, Add, Default, OneOf, SubsetOf, SupersetOf, Essential}

-- the name as it stands in a policy
abbrev pub operator_name : Operator → List ℕ
operator_name Value = codes "value"
operator_name Add = codes "add"
operator_name Default = codes "default"
operator_name OneOf = codes "one_of"
operator_name SubsetOf = codes "subset_of"
operator_name SupersetOf = codes "superset_of"
operator_name Essential = codes "essential"

-- the seven operators, in the order in which they act (section 6.1.3.1)
abbrev pub operators : List Operator
operators = Value ∷ Add ∷ Default ∷ OneOf ∷ SubsetOf ∷ SupersetOf ∷ Essential ∷ []
