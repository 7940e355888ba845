use Rattle.turn_log.proofs.GroupCalls.{history}
use Rattle.turn_log.proofs.group.KeptGroup+T+B.is_history.Goals as goal

pub returns : goal.returns
returns g c = history g.T.Sequential.steps g.T.Opening.opening g.B.Sequential.steps c.args.self.now c.args._pass.now c.requires
