use Rattle.std.proofs.Common.{◌≡◌, drop}
use Rattle.policy_merge.specs.Combining.{conflict_in}
use Rattle.policy_merge.proofs.combining.types_combined.Given as goal

abbrev pub invariant-loop-entity_type : goal.invariant-loop-entity_type
invariant-loop-entity_type l = conflict_in l.types ≡ conflict_in (drop l.entity_type-index l.types)
