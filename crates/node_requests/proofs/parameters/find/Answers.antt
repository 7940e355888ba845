use Rattle.std.proofs.Common.{arith}
use Rattle.std.proofs.lemmas.Grind.{common_steps}
use Rattle.node_requests.proofs.parameters.find.Goals as goal

pub returns-in-Once : goal.returns-in-Once
returns-in-Once c = grind (arith, common_steps)
