-- The entity types that are left of an entity's metadata (OpenID Federation 1.0 section 6.2.3).
use Rattle.std.specs.Prelude.{◌≡◌, ◌⊎◌, ◌↔◌, ◌||◌, ℕ, List, Option, Bool, true, bytes_eq, codes, filter, All, Contains, IfSome, Some, None, Vec, unwrap_or, option_map}
use Rattle.std.specs.BTreeSet.{BTreeSet, contains_by}
use Rattle.std.specs.Cmp.Lexicographic.{slice_cmp}
use Rattle.std.specs.Option.{option_map_or}
use Rattle.std.specs.Ordering.{nat_cmp}
use Rattle.std.specs.List.{list_all, list_any}
use Rattle.fed_json.specs.declared.tree.Json.{Json, Object}
use Rattle.fed_json.specs.declared.tree.Member.{Member}
use Rattle.fed_json.specs.Trees.{as_object}
use Rattle.chain_limits.specs.declared.constraints.Constraints.{Constraints}
use Rattle.chain_limits.specs.declared.place.Place.{Place}

-- the list of types, where there is one, names the type (section 6.2.3)
abbrev pub names_type : List ℕ → Constraints → Bool
names_type entity_type limits = option_map_or (list_any (bytes_eq entity_type)) limits.types true

-- every list of the chain names the type; federation_entity needs no naming (section 6.2.3)
abbrev pub is_allowed : List Place → List ℕ → Bool
is_allowed places entity_type = bytes_eq entity_type (codes "federation_entity") || list_all (λ place. names_type entity_type place.limits) places

-- the names in a set, or all where there is none; for private clauses, as is `stays`
abbrev pub in_set : {Z : Type 0} → Option (BTreeSet (Vec ℕ Z)) → List ℕ → Bool
in_set None name = true
in_set (Some set) name = contains_by (λ key. slice_cmp nat_cmp name key.items) set

abbrev pub stays : {Z : Type 0} → Option (BTreeSet (Vec ℕ Z)) → List ℕ → Bool
stays names entity_type = bytes_eq entity_type (codes "federation_entity") || in_set names entity_type

-- the members whose types are allowed (section 6.2.3)
abbrev pub members_allowed : List Place → List Member → List Member
members_allowed places members = filter (λ m. is_allowed places m.name) members

-- the metadata without the types that aren't allowed; a tree that is no object has none (section 6.2.3)
unfoldable pub types_allowed : List Place → Json → Json
types_allowed places metadata = unwrap_or (option_map (λ members. Object (members_allowed places members)) (as_object metadata)) metadata

-- `is_allowed` in other words (section 6.2.3)
abbrev pub IsAllowed : List Place → List ℕ → Type 0
IsAllowed places entity_type =
    (entity_type ≡ codes "federation_entity") ⊎ All (λ place. IfSome place.limits.types (λ types. Contains types entity_type)) places

-- of the members of an object those stay whose types are allowed (section 6.2.3)
abbrev pub KeepsAllowed : List Place → Json → Json → Type 0
KeepsAllowed places metadata tree = (members : List Member) → as_object metadata ≡ Some members
    → (kept : List Member) × (as_object tree ≡ Some kept) × ((m : Member) → Contains kept m ↔ (Contains members m × IsAllowed places m.name))
