use Rattle.std.proofs.Common.{ap, ◌++◌, ◌∙◌, append_assoc}
use Rattle.fed_json.specs.Codes.{code_of, counted, member_code}
use Rattle.fed_json.proofs.CodeParts.{parts_more}
use Rattle.fed_json.proofs.codes.+code.Goals as goal

pub add_items-loop-item-preserved : goal.add_items-loop-item-preserved
add_items-loop-item-preserved t c =
    parts_more code_of c.args.items.now c.loop-item.item-index c.item-item.result c.args.code.now _ _ c.loop-item-test.true c.item-item.is c.loop-item.invariant c.in_ok-add_code.ensures

pub add_members-loop-member-preserved : goal.add_members-loop-member-preserved
add_members-loop-member-preserved t c =
    parts_more member_code c.args.members.now c.loop-member.member-index c.member-item.result c.args.code.now c.loop-member.code _ c.loop-member-test.true c.member-item.is c.loop-member.invariant
    (c.in_ok-add_code.ensures ∙ ap (λ code. code ++ code_of c.member-item.result.value) c.in_ok-add_counted.ensures ∙ append_assoc c.loop-member.code (counted c.member-item.result.name) _)
