use Rattle.std.proofs.Common.{◌≤◌, ◌+◌, take}
use Rattle.authority_core.specs.Lengths.{items_length, members_length}
use Rattle.authority_core.proofs.lengths.+lengths.Given as goal

abbrev pub invariant-after_items-loop-item : goal.invariant-after_items-loop-item
invariant-after_items-loop-item l = items_length (take l.item-index l.items) + l.left ≤ l.room

abbrev pub invariant-after_members-loop-member : goal.invariant-after_members-loop-member
invariant-after_members-loop-member l = members_length (take l.member-index l.members) + l.left ≤ l.room
