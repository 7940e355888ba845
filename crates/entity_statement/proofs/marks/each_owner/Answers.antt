use Rattle.entity_statement.proofs.Owners.{gathered_more}
use Rattle.entity_statement.proofs.marks.each_owner.Goals as goal

pub loop-member-preserved : goal.loop-member-preserved
loop-member-preserved c =
    gathered_more c.args.members.now c.loop-member.owners c.push.new.self c.loop-member.member-index c.member-item.result c.in-Some.owner c.in_ok-owner.field-0 c.loop-member.invariant
    c.loop-member-test.true c.member-item.is c.in_ok-owner.ensures c.in-Some.is c.in_ok-push-in-Some.ensures.ok
