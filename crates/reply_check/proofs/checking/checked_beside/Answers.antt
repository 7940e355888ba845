use Rattle.reply_check.proofs.AnswerLaws.{fault-answer, fault-told, fits-answer}
use Rattle.reply_check.proofs.checking.checked_beside.Goals as goal

pub returns-in-Some-clause-verdict : goal.returns-in-Some-clause-verdict
returns-in-Some-clause-verdict g c = fault-answer c.args.claimed c.args.resolved.now c.args.t c.in-Some.reason c.in-Some.ensures

pub returns-in-Some-clause-written : goal.returns-in-Some-clause-written
returns-in-Some-clause-written g c = λ whole. fault-told c.args.claimed.said c.args.resolved.now c.in-Some.reason c.in-Some.ensures

pub returns-in-None-clause-verdict : goal.returns-in-None-clause-verdict
returns-in-None-clause-verdict g c = fits-answer c.args.claimed c.args.resolved.now c.args.t c.checked_marks.result c.in-None.ensures c.checked_marks.ensures.verdict
