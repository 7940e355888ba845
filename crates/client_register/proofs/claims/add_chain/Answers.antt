use Rattle.client_register.proofs.ClaimLaws.{chain-added}
use Rattle.client_register.proofs.claims.add_chain.Goals as goal

pub returns-clause-members : goal.returns-clause-members
returns-clause-members c =
    chain-added c.add.result c.args.sub.now c.args.anchor.now c.args.chain c.text.result.now c.text-2.result.now c.args.members.now c.push.new.self c.push-2.new.self c.add.new.members c.in_ok-text_member.field-0 c.in_ok-text_member-2.field-0
    c.in_ok-chain.chain c.text.ensures.text c.text-2.ensures.text c.in_ok-text_member.ensures c.in_ok-push.ensures.ok c.in_ok-text_member-2.ensures c.in_ok-push-2.ensures.ok c.in_ok-chain.ensures c.add.ensures
