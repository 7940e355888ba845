use Rattle.std.proofs.Common.{◌+◌, length, map}
use Rattle.policy_merge.specs.Merging.{name_of, parameter_conflict, merged_parameter}
use Rattle.fed_json.proofs.Walks.{Passed}
use Rattle.policy_merge.proofs.merging.merge_sides.Given as goal

abbrev pub invariant-loop-side : goal.invariant-loop-side
invariant-loop-side l = Passed name_of name_of (parameter_conflict l.fn.entity_type) (map merged_parameter) l.fn.upper l.fn.lower l.sides.upper.now l.sides.lower.now l.merged

abbrev pub decreases-loop-side : goal.decreases-loop-side
decreases-loop-side l = length l.sides.upper.now + length l.sides.lower.now
