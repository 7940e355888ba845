-- What is warned of a configuration's tree: members that aren't known, and policies that refuse every chain.
use Rattle.std.specs.Prelude.{ℕ, List, [], ◌∷◌, ◌++◌, flat_map, codes, Option, Some, None, unwrap_or, if◌then◌else◌}
use Rattle.std.specs.Option.{option_and_then, option_map_or}
use Rattle.fed_json.specs.declared.tree.Json.{Json}
use Rattle.fed_json.specs.declared.tree.Member.{Member}
use Rattle.fed_json.specs.Trees.{as_list, find, object_members}
use Rattle.policy_merge.specs.Combining.{conflict_in}
use Rattle.policy_merge.specs.Shapes.{policy_shape}
use Rattle.policy_merge.specs.declared.fault.PolicyFault.{PolicyFault}
use Rattle.policy_merge.specs.declared.fault.PolicyFault.TheVariants.{Conflict, Memory}
use Rattle.config_warnings.specs.Parts.{knows}
use Rattle.config_warnings.specs.Places.{Place, each_from, item_at, under, warn}
use Rattle.config_warnings.specs.declared.part.Part.{Part}
use Rattle.config_warnings.specs.declared.part.Part.TheVariants as part
use Rattle.config_warnings.specs.declared.warning.Kind.TheVariants.{Unknown, Clash}
use Rattle.config_warnings.specs.declared.warning.Warning.{Warning}

-- ---- members by their names

-- a member that isn't known there
abbrev pub unknown_member : Part → Place → Member → List Warning
unknown_member part place m = if knows part m.name then [] else warn (Unknown part) place m.name

abbrev pub unknown_members : Part → Place → List Member → List Warning
unknown_members part place members = flat_map (unknown_member part place) members

-- the same of an object
abbrev pub unknown_in : Part → Place → Json → List Warning
unknown_in part place tree = unknown_members part place (object_members tree)

-- of each object of a list
abbrev pub items_of : Json → List Json
items_of tree = unwrap_or (as_list tree) []

abbrev pub unknown_item : Part → Place → ℕ → Json → List Warning
unknown_item part place i tree = unknown_in part (item_at place i) tree

abbrev pub unknown_items : Part → Place → Json → List Warning
unknown_items part place tree = each_from (unknown_item part place) 0 (items_of tree)

-- of each object under any name
abbrev pub unknown_below : Part → Place → Member → List Warning
unknown_below part place m = unknown_in part (under place m.name) m.value

abbrev pub unknown_under : Part → Place → Json → List Warning
unknown_under part place tree = flat_map (unknown_below part place) (object_members tree)

-- what is warned of a member, where it is there
abbrev pub where_there : (Json → List Warning) → Option Json → List Warning
where_there warned found = option_map_or warned found []

-- ---- policies (OpenID Federation 1.0 section 6.1)

-- operators that aren't known, by entity type and parameter (section 6.1.2)
abbrev pub unknown_of_type : Place → Member → List Warning
unknown_of_type place m = unknown_under part.Operators (under place m.name) m.value

abbrev pub unknown_operators : Place → Json → List Warning
unknown_operators place tree = flat_map (unknown_of_type place) (object_members tree)

-- the first two operators of a parameter that don't stand together (section 6.1.3.1)
abbrev pub clash_at : Place → Option PolicyFault → List Warning
clash_at place None = []
clash_at place (Some Memory) = []
clash_at place (Some (Conflict t p f s)) = warn (Clash f s) (under (under place t) p) []

abbrev pub clash_of : Place → Json → List Warning
clash_of place tree = clash_at place (option_and_then conflict_in (policy_shape tree))

unfoldable pub of_policy : Place → Json → List Warning
of_policy place tree = unknown_operators place tree ++ clash_of place tree

-- ---- the objects of a configuration

-- the names of entities, among constraints (section 6.2.2)
unfoldable pub of_constraints : Place → Json → List Warning
of_constraints place tree =
    unknown_in part.Constraints place tree
    ++ where_there (unknown_in part.Naming (under place (codes "naming_constraints"))) (find (codes "naming_constraints") (object_members tree))

-- a subordinate, with its policy and its constraints
unfoldable pub subordinate_in : Place → List Member → List Warning
subordinate_in place members =
    unknown_members part.Subordinate place members
    ++ (where_there (of_policy (under place (codes "metadata_policy"))) (find (codes "metadata_policy") members)
    ++ where_there (of_constraints (under place (codes "constraints"))) (find (codes "constraints") members))

abbrev pub of_subordinate : Place → Json → List Warning
of_subordinate place tree = subordinate_in place (object_members tree)

abbrev pub subordinate_at : ℕ → Json → List Warning
subordinate_at i tree = of_subordinate (item_at (codes "subordinates") i) tree

abbrev pub of_subordinates : Json → List Warning
of_subordinates tree = each_from subordinate_at 0 (items_of tree)

-- the object `resolver`, with its anchors and routes
unfoldable pub of_resolver : Json → List Warning
of_resolver tree =
    unknown_in part.Resolver (codes "resolver") tree
    ++ (where_there (unknown_items part.Anchor (codes "resolver.anchors")) (find (codes "anchors") (object_members tree))
    ++ where_there (unknown_items part.Route (codes "resolver.routes")) (find (codes "routes") (object_members tree)))

-- the node's own trust marks, and the owners of their types (sections 7.1 and 7.2)
abbrev pub of_marks : List Member → List Warning
of_marks members =
    where_there (unknown_items part.Mark (codes "trust_marks")) (find (codes "trust_marks") members)
    ++ where_there (unknown_under part.Owner (codes "trust_mark_owners")) (find (codes "trust_mark_owners") members)

-- those whom it knows
abbrev pub of_others : List Member → List Warning
of_others members =
    where_there of_subordinates (find (codes "subordinates") members) ++ where_there of_resolver (find (codes "resolver") members)

-- the whole tree
unfoldable pub of_members : List Member → List Warning
of_members members = unknown_members part.Node [] members ++ (of_marks members ++ of_others members)

abbrev pub of_tree : Json → List Warning
of_tree tree = of_members (object_members tree)
