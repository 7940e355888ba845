use Rattle.reply_check.specs.Verdicts.{case_of}
use Rattle.reply_check.proofs.VerdictLaws.{one-answer, only-answer}
use Rattle.reply_check.proofs.checking.check_reply.Goals as goal

pub returns-clause-only : goal.returns-clause-only
returns-clause-only g c = only-answer (case_of c.args.text.now c.args.resolver.now.keys c.args.anchor.now c.args.keys.now.keys c.args.t) c.checked.result c.checked.ensures.verdict

pub returns-clause-one : goal.returns-clause-one
returns-clause-one g c = one-answer (case_of c.args.text.now c.args.resolver.now.keys c.args.anchor.now c.args.keys.now.keys c.args.t) c.checked.result c.checked.ensures.verdict
