use Rattle.std.proofs.Common.{Some, refl, ap}
use Rattle.std.proofs.lemmas.Result.{IfErr-weaker, IfOk-weaker}
use Rattle.rehearsal.proofs.AnswerLaws.{answers, anyway, worn-of}
use Rattle.rehearsal.proofs.requesting.ask.Goals as goal

pub returns-clause-kept : goal.returns-clause-kept
returns-clause-kept g c = anyway c.hand_on.result c.serve_one-served.ensures.kept

pub returns-clause-answer : goal.returns-clause-answer
returns-clause-answer g c =
    IfOk-weaker c.hand_on.result _ _
    (λ answer handed. answers c.args.node.now _ _ _ _ c.serve_one-served.new.peer c.serve_one-served.result answer (ap Some c.in_ok-peer.ensures.left) (ap Some c.in_ok-peer.ensures.held) refl c.serve_one-served.ensures.serves handed)
    c.hand_on.ensures.answer

pub returns-clause-worn : goal.returns-clause-worn
returns-clause-worn g c =
    IfErr-weaker c.hand_on.result _ _ (λ fault by. worn-of c.args.node.now _ _ _ c.serve_one-served.result fault c.serve_one-served.ensures.serves by) c.hand_on.ensures.worn
