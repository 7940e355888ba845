use Rattle.std.proofs.Common.{rules}
use Rattle.fed_net.proofs.real_peer.RealPeerSink.give.Goals as goal

pub returns-in-None-clause-cause : goal.returns-in-None-clause-cause
returns-in-None-clause-cause g c = search rules
