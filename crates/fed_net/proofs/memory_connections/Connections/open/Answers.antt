use Rattle.std.proofs.Common.{rules}
use Rattle.fed_net.proofs.memory_connections.Connections.open.Goals as goal

pub returns-clause-failed : goal.returns-clause-failed
returns-clause-failed c = search rules
