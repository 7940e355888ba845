use Rattle.std.proofs.Common.{◌+◌, length, map}
use Rattle.policy_merge.specs.Merging.{name_of, type_conflict, merged_type}
use Rattle.fed_json.proofs.Walks.{Passed}
use Rattle.policy_merge.proofs.merging.merge_types.Given as goal

abbrev pub invariant-loop-side : goal.invariant-loop-side
invariant-loop-side l = Passed name_of name_of type_conflict (map merged_type) l.fn.upper l.fn.lower l.sides.upper.now l.sides.lower.now l.merged

abbrev pub decreases-loop-side : goal.decreases-loop-side
decreases-loop-side l = length l.sides.upper.now + length l.sides.lower.now
