use Rattle.std.proofs.Common.{◌≡◌, ◌++◌, take, flat_map}
use Rattle.config_warnings.specs.Trees.{unknown_member}
use Rattle.config_warnings.proofs.members.unknown_members.Given as goal

abbrev pub invariant-loop-member : goal.invariant-loop-member
invariant-loop-member l = l.out ≡ l.initial.out ++ flat_map (unknown_member l.part l.place) (take l.member-index l.members)
