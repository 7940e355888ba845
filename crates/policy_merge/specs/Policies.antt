-- What a policy holds: entity types, their parameters and the operators of each (OpenID Federation 1.0 section 6.1).
use Rattle.std.specs.Prelude.{List, [], None, map, Bool, ◌&&◌, not}
use Rattle.std.specs.Option.{option_map_or}
use Rattle.std.specs.List.{list_all}
use Rattle.std.specs.Str.{is_utf8}
use Rattle.fed_json.specs.Forms.{rising, whole}
use Rattle.fed_base.specs.Values.{if_there}
use Rattle.fed_json.specs.Trees.{is_null}
use Rattle.fed_json.specs.declared.named.Named.{Named}
use Rattle.policy_merge.specs.declared.operators.Operators.{Operators}
use Rattle.fed_json.specs.Tables.{Name, item_of}

-- the parameters of an entity type, each with its operators (section 6.1.2)
abbrev pub Parameters : Type 0
Parameters = List (Named Operators)

-- the entity types of a policy, each with its parameters (section 6.1.2)
abbrev pub Types : Type 0
Types = List (Named Parameters)

-- a value under a name
abbrev pub named : {T : Type 0} → Name → T → Named T
named name value = record { name = name; value = value }

-- no operator, which leaves a parameter as it is (section 6.1.3)
abbrev pub no_operators : Operators
no_operators = record { value = None; add = None; default = None; one_of = None; subset_of = None; superset_of = None; essential = None }

-- every value of the operators can be written, and the default isn't null (section 6.1.3.1.3)
abbrev pub operators_formed : Operators → Bool
operators_formed o =
    if_there whole o.value && if_there (list_all whole) o.add && if_there (λ tree. whole tree && not (is_null tree)) o.default && if_there (list_all whole) o.one_of
    && if_there (list_all whole) o.subset_of && if_there (list_all whole) o.superset_of

-- the names rise and are UTF-8, and each value passes
abbrev pub table_formed : {T : Type 0} → (T → Bool) → List (Named T) → Bool
table_formed formed table = rising (map (λ e. e.name) table) && list_all (λ e. is_utf8 e.name && formed e.value) table

-- the table of an entity type, whose parameters have formed operators
abbrev pub parameters_formed : Parameters → Bool
parameters_formed = table_formed operators_formed

-- the table of a policy, whose entity types have formed parameters
abbrev pub types_formed : Types → Bool
types_formed = table_formed parameters_formed

-- the parameters of an entity type; none where the policy doesn't speak of it
abbrev pub parameters_at : Types → Name → Parameters
parameters_at types entity_type = option_map_or (λ t. t.value) (item_of (λ t. t.name) entity_type types) []

-- the operators of a parameter of an entity type; none where the policy doesn't speak of it
abbrev pub operators_at : Types → Name → Name → Operators
operators_at types entity_type parameter = option_map_or (λ p. p.value) (item_of (λ p. p.name) parameter (parameters_at types entity_type)) no_operators
