use Rattle.std.proofs.Common.{◌≡◌, ◌≤◌, ◌-◌, true}
use Rattle.std.specs.Prelude.{is_some}
use Rattle.node_service.specs.Connections.{Serves, peer_seen, service_seen}
use Rattle.node_service.specs.Streams.{IsAnsweredBy}
use Rattle.node_service.proofs.connections.serve_connections.Given as goal

abbrev pub invariant-connections : goal.invariant-connections
invariant-connections g l = (l.served ≤ l.connections) × (is_some (g.N.Network.port l.net) ≡ true) × (g.N.Network.exchanges l.net ≡ g.N.Network.exchanges l.initial.net)
    × (g.N.Network.faults l.net ≡ g.N.Network.faults l.initial.net)
    × Serves (IsAnsweredBy l.server.stream (peer_seen g.N.Peer.Source g.N.Peer.Sink)) l.server.node.now.registry l.served
    (service_seen g.N.Network g.C.Clock l.initial.net l.initial.clock) (service_seen g.N.Network g.C.Clock l.net l.clock)

abbrev pub decreases-connections : goal.decreases-connections
decreases-connections g l = l.connections - l.served
