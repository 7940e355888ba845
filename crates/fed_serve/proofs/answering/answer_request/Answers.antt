use Rattle.fed_serve.proofs.Outcomes.{at_moment}
use Rattle.fed_serve.proofs.Sameness.{answers_alone}
use Rattle.fed_serve.proofs.answering.answer_request.Goals as goal

pub returns-clause-answers : goal.returns-clause-answers
returns-clause-answers g c =
    at_moment c.args.node.now _ c.args.context.now.t _ _ c.args.asked.now c.answer_to.result c.hand_out.result c.answer_to.ensures.answer c.hand_out.ensures

pub returns-clause-alone : goal.returns-clause-alone
returns-clause-alone g c =
    answers_alone c.args.node.now _ c.args.context.now.t _ _ c.args.asked.now c.hand_out.result
    (at_moment c.args.node.now _ c.args.context.now.t _ _ c.args.asked.now c.answer_to.result c.hand_out.result c.answer_to.ensures.answer c.hand_out.ensures)
