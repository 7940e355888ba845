use Rattle.turn_log.specs.Groups.{known}
use Rattle.fed_serve.proofs.RotationLaws.{sealed-answer, unsealed-answer}
use Rattle.fed_serve.proofs.rotation.answer_rotation.Goals as goal

pub returns-in-Ok-clause-answer : goal.returns-in-Ok-clause-answer
returns-in-Ok-clause-answer g c =
    sealed-answer c.args.part.now.control.keys c.args.change c.requires.compact (known c.args.pass.now) (known c.change_keys.new.pass) (g.G.Ledger.count c.args.steps.now.ledger) (g.G.Ledger.count c.check_sealed.new.steps.ledger)
    c.change_keys.result c.in-Ok.ensures.decides c.in-Ok.ensures.counted c.change_keys.ensures.changes

pub returns-in-Err-clause-answer : goal.returns-in-Err-clause-answer
returns-in-Err-clause-answer g c =
    unsealed-answer c.args.part.now.control.keys c.args.change c.requires.compact (known c.args.pass.now) (g.G.Ledger.count c.args.steps.now.ledger) (g.G.Ledger.count c.check_sealed.new.steps.ledger)
    c.in-Err.fault c.unsealed.result c.in-Err.ensures.checked c.in-Err.ensures.decides c.in-Err.ensures.counted c.unsealed.ensures
