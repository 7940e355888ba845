-- What the operators of one parameter make of its value (OpenID Federation 1.0 section 6.1.3.1).
use Rattle.std.specs.Prelude.{◌≡◌, ℕ, List, [], Option, Some, None, Bool, true, false, ◌&&◌, ◌||◌, not, Result, Ok, Err, if◌then◌else◌}
use Rattle.std.specs.Option.{option_map_or, option_or}
use Rattle.std.specs.List.{join_with_byte}
use Rattle.fed_base.specs.Answers.{◌>>=◌}
use Rattle.fed_json.specs.Trees.{as_text, texts_in}
use Rattle.fed_json.specs.Sets.{is_among, union_of, intersection_of}
use Rattle.fed_json.specs.declared.tree.Json.{Json, Text, List as ListOf}
use Rattle.policy_merge.specs.declared.operator.Operator.{Operator}
use Rattle.policy_merge.specs.declared.operator.Operator.TheVariants.{Add, OneOf, SubsetOf, SupersetOf, Essential}
use Rattle.policy_merge.specs.declared.operators.Operators.{Operators}
use Rattle.fed_json.specs.Tables.{Name}
use Rattle.policy_merge.specs.Scope.{is_scope, members_of}
use Rattle.fed_base.specs.Values.{if_there}
use Rattle.policy_merge.specs.Combining.{have_members}
use Rattle.fed_json.specs.Sets.{are_among}
use Rattle.policy_merge.specs.Shapes.{as_default}
use Rattle.policy_apply.specs.declared.stop.Stop.{Stop}
use Rattle.policy_apply.specs.declared.stop.Stop.TheVariants.{Refused, Memory}

-- the value that a parameter is left with, if any, or the operator that refuses
abbrev pub Outcome : Type 0
Outcome = Result (Option Json) Operator

-- words with one space between them (RFC 6749 section 3.3)
abbrev pub joined_words : List (List ℕ) → Json
joined_words words = Text (join_with_byte 32 words)

-- the value is a text (RFC 8259 section 7)
abbrev pub is_text : Json → Bool
is_text tree = option_map_or (λ _. true) (as_text tree) false

-- `scope` stays a text where it was one or was absent (RFC 6749 section 3.3)
abbrev pub stays_text : Name → Option Json → Bool
stays_text name before = is_scope name && if_there is_text before

-- the list as the parameter's new value, where `before` is the one it had; the operator refuses where a text is to be made of it and one of
-- its values isn't a text
unfoldable pub made : Name → Operator → Option Json → List Json → Outcome
made name operator before list =
    if stays_text name before then option_map_or (λ words. Ok (Some (joined_words words))) (texts_in list) (Err operator) else Ok (Some (ListOf list))

-- `value` sets the parameter; null says that it is absent (section 6.1.3.1.1)
unfoldable pub by_value : Operators → Option Json → Outcome
by_value o x = Ok (option_map_or as_default o.value x)

-- `add` adds its list to the members, and is all of an absent parameter (section 6.1.3.1.2)
abbrev pub with_added : Name → List Json → Option Json → Outcome
with_added name list None = made name Add None (union_of list [])
with_added name list (Some v) = option_map_or (λ members. made name Add (Some v) (union_of members list)) (members_of name v) (Err Add)

-- the action of `add`
unfoldable pub by_add : Name → Operators → Option Json → Outcome
by_add name o x = option_map_or (λ list. with_added name list x) o.add (Ok x)

-- `default` sets a parameter that is absent (section 6.1.3.1.3)
unfoldable pub by_default : Operators → Option Json → Outcome
by_default o x = Ok (option_or x o.default)

-- the value, where it passes
abbrev pub if_passes : Bool → Operator → Option Json → Outcome
if_passes passes operator x = if passes then Ok x else Err operator

-- `one_of` refuses a value that isn't in its list (section 6.1.3.1.4)
abbrev pub is_one_of : Option (List Json) → Option Json → Bool
is_one_of one_of x = if_there (λ list. if_there (is_among list) x) one_of

-- the action of `one_of`
unfoldable pub by_one_of : Operators → Option Json → Outcome
by_one_of o x = if_passes (is_one_of o.one_of x) OneOf x

-- `subset_of` keeps the members that are in its list (section 6.1.3.1.5)
abbrev pub with_kept : Name → List Json → Option Json → Outcome
with_kept name list None = Ok None
with_kept name list (Some v) = option_map_or (λ members. made name SubsetOf (Some v) (intersection_of members list)) (members_of name v) (Err SubsetOf)

-- the action of `subset_of`
unfoldable pub by_subset_of : Name → Operators → Option Json → Outcome
by_subset_of name o x = option_map_or (λ list. with_kept name list x) o.subset_of (Ok x)

-- the value has members, and each value of the list is one of them
abbrev pub has_all : Name → List Json → Json → Bool
has_all name list v = have_members (λ members. are_among members list) (members_of name v)

-- `superset_of` refuses a value that lacks one of its list (section 6.1.3.1.6)
abbrev pub is_superset_of : Name → Option (List Json) → Option Json → Bool
is_superset_of name superset_of x = if_there (λ list. if_there (has_all name list) x) superset_of

-- the action of `superset_of`
unfoldable pub by_superset_of : Name → Operators → Option Json → Outcome
by_superset_of name o x = if_passes (is_superset_of name o.superset_of x) SupersetOf x

-- the parameter is there
abbrev pub is_there : {X : Type 0} → Option X → Bool
is_there o = option_map_or (λ _. true) o false

-- `essential` refuses an absent parameter, where it is true (section 6.1.3.1.7)
abbrev pub is_enough : Option Bool → Option Json → Bool
is_enough essential x = if_there (λ required. not required || is_there x) essential

-- the action of `essential`
unfoldable pub by_essential : Operators → Option Json → Outcome
by_essential o x = if_passes (is_enough o.essential x) Essential x

-- the seven actions in their order (section 6.1.3.1)
unfoldable pub acted : Name → Operators → Option Json → Outcome
acted name o x =
    by_value o x >>= by_add name o >>= by_default o >>= by_one_of o >>= by_subset_of name o >>= by_superset_of name o >>= by_essential o

-- the code's answer is the outcome; of want of memory nothing is said
abbrev pub Gives : Result (Option Json) Stop → Outcome → Type 0
Gives (Ok x) outcome = outcome ≡ Ok x
Gives (Err (Refused operator)) outcome = outcome ≡ Err operator
Gives (Err Memory) outcome = Unit {0}
