use Rattle.std.proofs.Common.{◌≡◌, map, take}
use Rattle.chain_check.specs.Metadata.{type_over}
use Rattle.chain_check.proofs.metadata.put_over.Given as goal

abbrev pub invariant-loop-entity_type : goal.invariant-loop-entity_type
invariant-loop-entity_type l = l.types ≡ map (type_over l.upper) (take l.entity_type-index l.entity_type-items)
