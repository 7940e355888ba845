use Rattle.std.proofs.Common.{◌≡◌, not, take, true}
use Rattle.std.specs.List.{list_all}
use Rattle.fed_json.specs.Trees.{is_null}
use Rattle.fed_json.specs.Metadata.{is_object_of}
use Rattle.fed_json.proofs.metadata.all_types.Given as goal

abbrev pub invariant-loop-entity_type : goal.invariant-loop-entity_type
invariant-loop-entity_type l = list_all (λ m. is_object_of (λ value. not (is_null value)) m.value) (take l.entity_type-index l.types) ≡ true
