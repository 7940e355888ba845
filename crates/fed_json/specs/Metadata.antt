-- Metadata as statements carry it (OpenID Federation 1.0 section 5).
use Rattle.std.specs.Prelude.{Bool, false, ◌&&◌, not, IsTrue}
use Rattle.std.specs.Option.{option_map_or}
use Rattle.std.specs.List.{list_all}
use Rattle.fed_json.specs.Trees.{as_object}
use Rattle.fed_json.specs.Forms.{whole}
use Rattle.fed_json.specs.declared.tree.Json.{Json}
use Rattle.fed_json.specs.Trees.{is_null}

-- an object, each of whose values passes
abbrev pub is_object_of : (Json → Bool) → Json → Bool
is_object_of test tree = option_map_or (list_all (λ m. test m.value)) (as_object tree) false

-- an object from entity type to an object from parameter to a value that isn't null, with no Odd anywhere
abbrev pub is_metadata : Json → Bool
is_metadata tree = whole tree && is_object_of (is_object_of (λ value. not (is_null value))) tree

-- the tree is metadata
abbrev pub IsMetadata : Json → Type 0
IsMetadata tree = IsTrue (is_metadata tree)
