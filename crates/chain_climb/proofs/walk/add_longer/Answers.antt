use Rattle.std.proofs.Common.{[], arith, ap, ◌∙◌, ◌∷◌, ◌++◌, rules}
use Rattle.chain_climb.proofs.walk.add_longer.Goals as goal

pub returns-clause-added : goal.returns-clause-added
returns-clause-added c = (omega (arith, c.len.ensures), c.in_ok-push.ensures.ok ∙ ap (λ path. c.args.queue.now ++ path ∷ []) c.in_ok-longer.ensures)

pub returns-in_err-push-clause-grows : goal.returns-in_err-push-clause-grows
returns-in_err-push-clause-grows c = search rules
