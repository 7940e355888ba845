use Rattle.std.proofs.Common.{◌+◌, length}
use Rattle.std.specs.List.{filter_map}
use Rattle.fed_json.specs.Trees.{member_name}
use Rattle.policy_merge.specs.Merging.{name_of}
use Rattle.fed_json.proofs.Walks.{Passed}
use Rattle.policy_apply.specs.Applying.{parameter_left, parameter_refusal}
use Rattle.policy_apply.proofs.applying.apply_parameters.Given as goal

abbrev pub invariant-loop-side : goal.invariant-loop-side
invariant-loop-side l = Passed name_of member_name (parameter_refusal l.fn.entity_type) (filter_map parameter_left) l.fn.policy l.fn.parameters l.sides.upper.now l.sides.lower.now l.applied

abbrev pub decreases-loop-side : goal.decreases-loop-side
decreases-loop-side l = length l.sides.upper.now + length l.sides.lower.now
