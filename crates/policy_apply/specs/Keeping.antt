-- What a superior asks of a parameter, in the words of each operator (OpenID Federation 1.0 section 6.1.3.1).
use Rattle.std.specs.Prelude.{◌≡◌, ◌==◌, IsTrue, List, [], ◌∷◌, Option, Bool, true, false, ◌&&◌, ◌||◌, not, if◌then◌else◌, Ok}
use Rattle.std.specs.Option.{option_map_or}
use Rattle.std.specs.List.{list_all}
use Rattle.fed_json.specs.Trees.{as_text}
use Rattle.fed_json.specs.Sets.{same}
use Rattle.fed_json.specs.declared.tree.Json.{Json}
use Rattle.policy_merge.specs.declared.operators.Operators.{Operators}
use Rattle.fed_json.specs.Tables.{Name}
use Rattle.policy_merge.specs.Scope.{is_scope, is_empty, members_of}
use Rattle.policy_merge.specs.Policies.{Types}
use Rattle.fed_json.specs.Trees.{is_null}
use Rattle.fed_base.specs.Values.{if_there}
use Rattle.policy_merge.specs.Combining.{have_members}
use Rattle.fed_json.specs.Sets.{are_among}
use Rattle.policy_merge.specs.Merging.{merging}
use Rattle.policy_apply.specs.Acting.{has_all, is_there, is_one_of, is_superset_of, is_enough}

-- the two values are one, or have the same members
abbrev pub is_value : Name → Json → Json → Bool
is_value name v x = same x v || have_members (λ members. have_members (λ others. are_among members others && are_among others members) (members_of name v)) (members_of name x)

-- all members of the value are in the list
abbrev pub is_within : Name → List Json → Json → Bool
is_within name list x = have_members (are_among list) (members_of name x)

-- a parameter, or its absence, is what the operators ask for
pub record KeepsWithin (name : Name) (o : Operators) (x : Option Json) : Type 0 where
  -- it is the value, but for order and repeats, and absent where that is null
  pub value : IsTrue (if_there (λ v. if is_null v then not (is_there x) else option_map_or (is_value name v) x false) o.value)
  -- it is there, with all that is added
  pub add : IsTrue (if_there (λ list. option_map_or (has_all name list) x false) o.add)
  -- where it is there, it is one of the list
  pub one_of : IsTrue (is_one_of o.one_of x)
  -- where it is there, its members are in the list
  pub subset_of : IsTrue (if_there (λ list. if_there (is_within name list) x) o.subset_of)
  -- where it is there, it has all of the list
  pub superset_of : IsTrue (is_superset_of name o.superset_of x)
  -- it is there, where it is required
  pub essential : IsTrue (is_enough o.essential x)

-- a text of one word, which isn't empty and has no space (RFC 6749 section 3.3)
abbrev pub is_word : Json → Bool
is_word tree = option_map_or (λ bytes. not (is_empty bytes) && list_all (λ byte. not (byte == 32)) bytes) (as_text tree) false

-- the parameter isn't `scope`, or each value that is added to it is one word
abbrev pub AddsWords : Name → Operators → Type 0
AddsWords name o = IsTrue (if is_scope name then if_there (list_all is_word) o.add else true)

-- the first policy merged with the next, the result with the one after, and so on (section 6.1.4.1)
abbrev pub IsMergedOf : Types → List Types → Types → Type 0
IsMergedOf top [] policy = policy ≡ top
IsMergedOf top (lower ∷ lowers) policy = (both : Types) × (merging top lower ≡ Ok both) × IsMergedOf both lowers policy

-- what holds of each policy of a list
abbrev pub OfEach : (Types → Type 0) → List Types → Type 0
OfEach holds [] = Unit {0}
OfEach holds (policy ∷ policies) = holds policy × OfEach holds policies
