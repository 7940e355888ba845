use Rattle.chain_check.specs.Validity.{case_of as chain_case}
use Rattle.reply_check.proofs.AnswerLaws.{chain-is, refused-answer, valid-answer, valid-ends}
use Rattle.reply_check.proofs.checking.checked_chain.Goals as goal

pub checked_beside-verdict-requires : goal.checked_beside-verdict-requires
checked_beside-verdict-requires g c =
    let case = chain_case c.args.claimed.said.chain c.args.anchor.now c.args.keys.now.keys c.args.claimed.said.iat in
    valid-ends case c.in-Valid.resolved (chain-is case _ _ c.in-Valid.is c.in_ok-resolved.ensures.verdict)

pub returns-in-Valid-clause-verdict : goal.returns-in-Valid-clause-verdict
returns-in-Valid-clause-verdict g c =
    let case = chain_case c.args.claimed.said.chain c.args.anchor.now c.args.keys.now.keys c.args.claimed.said.iat in
    valid-answer case c.args.claimed c.in-Valid.resolved c.args.t c.checked_beside-verdict.result (chain-is case _ _ c.in-Valid.is c.in_ok-resolved.ensures.verdict) c.checked_beside-verdict.ensures.verdict

pub returns-in-Refused-clause-verdict : goal.returns-in-Refused-clause-verdict
returns-in-Refused-clause-verdict g c =
    let case = chain_case c.args.claimed.said.chain c.args.anchor.now c.args.keys.now.keys c.args.claimed.said.iat in
    refused-answer case c.args.claimed c.args.t c.in-Refused.place c.in-Refused.reason (chain-is case _ _ c.in-Refused.is c.in_ok-resolved.ensures.verdict)
