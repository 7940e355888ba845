use Rattle.std.proofs.Common.{◌+◌, length}
use Rattle.std.specs.List.{filter_map}
use Rattle.fed_json.specs.Trees.{member_name}
use Rattle.policy_merge.specs.Merging.{name_of}
use Rattle.fed_json.proofs.Walks.{Passed}
use Rattle.policy_apply.specs.Applying.{type_left, type_refusal}
use Rattle.policy_apply.proofs.applying.apply_types.Given as goal

abbrev pub invariant-loop-side : goal.invariant-loop-side
invariant-loop-side l = Passed name_of member_name type_refusal (filter_map type_left) l.fn.policy l.fn.metadata l.sides.upper.now l.sides.lower.now l.applied

abbrev pub decreases-loop-side : goal.decreases-loop-side
decreases-loop-side l = length l.sides.upper.now + length l.sides.lower.now
