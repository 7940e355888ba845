use Rattle.std.proofs.Common.{rules}
use Rattle.fed_net.proofs.memory_network.MemoryNetworkNetwork.accept.Goals as goal

pub returns-clause-next : goal.returns-clause-next
returns-clause-next c = search rules
