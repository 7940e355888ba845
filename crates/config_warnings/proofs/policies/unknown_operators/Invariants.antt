use Rattle.std.proofs.Common.{◌≡◌, ◌++◌, take, flat_map}
use Rattle.fed_json.specs.Trees.{object_members}
use Rattle.config_warnings.specs.Trees.{unknown_of_type}
use Rattle.config_warnings.proofs.policies.unknown_operators.Given as goal

abbrev pub invariant-loop-member : goal.invariant-loop-member
invariant-loop-member l = l.out ≡ l.initial.out ++ flat_map (unknown_of_type l.place) (take l.member-index (object_members l.tree))
