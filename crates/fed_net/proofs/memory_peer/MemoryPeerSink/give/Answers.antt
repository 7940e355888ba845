use Rattle.std.proofs.Common.{rules}
use Rattle.fed_net.proofs.memory_peer.MemoryPeerSink.give.Goals as goal

pub returns-clause-side : goal.returns-clause-side
returns-clause-side c = search rules
