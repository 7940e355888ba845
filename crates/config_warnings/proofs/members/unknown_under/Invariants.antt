use Rattle.std.proofs.Common.{◌≡◌, ◌++◌, take, flat_map}
use Rattle.fed_json.specs.Trees.{object_members}
use Rattle.config_warnings.specs.Trees.{unknown_below}
use Rattle.config_warnings.proofs.members.unknown_under.Given as goal

abbrev pub invariant-loop-member : goal.invariant-loop-member
invariant-loop-member l = l.out ≡ l.initial.out ++ flat_map (unknown_below l.part l.place) (take l.member-index (object_members l.tree))
