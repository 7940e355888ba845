use Rattle.turn_log.proofs.BetweenSteps.{between}
use Rattle.turn_log.proofs.laws.between_steps.Goals as goal

pub returns : goal.returns
returns g c = between g.T.Sequential.steps
