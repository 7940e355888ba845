use Rattle.std.proofs.Common.{◌≡◌, ◌++◌, map, take}
use Rattle.std.specs.List.{concat}
use Rattle.fed_json.specs.Codes.{code_of, member_code}
use Rattle.fed_json.proofs.codes.+code.Given as goal

abbrev pub invariant-add_items-loop-item : goal.invariant-add_items-loop-item
invariant-add_items-loop-item l = l.code ≡ l.initial.code ++ concat (map code_of (take l.item-index l.items))

abbrev pub invariant-add_members-loop-member : goal.invariant-add_members-loop-member
invariant-add_members-loop-member l = l.code ≡ l.initial.code ++ concat (map member_code (take l.member-index l.members))
