use Rattle.std.proofs.Common.{◌≡◌, drop}
use Rattle.policy_merge.specs.Combining.{conflict_in_parameters}
use Rattle.policy_merge.proofs.combining.parameters_combined.Given as goal

abbrev pub invariant-loop-parameter : goal.invariant-loop-parameter
invariant-loop-parameter l =
    conflict_in_parameters l.entity_type l.parameters ≡ conflict_in_parameters l.entity_type (drop l.parameter-index l.parameters)
