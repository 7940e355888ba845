use Rattle.std.proofs.Common.{◌≡◌, ◌≤◌, true}
use Rattle.std.specs.Prelude.{is_some}
use Rattle.turn_log.specs.Groups.{known}
use Rattle.statement_shelf.specs.Passes.{IsPassOfAll}
use Rattle.resolver_service.specs.Batches.{setup}
use Rattle.resolver_service.specs.Ports.{standing_seen, views_by}
use Rattle.resolver_service.specs.Stopped.{ServesSome}
use Rattle.resolver_service.proofs.batches.serve_batches.Given as goal

abbrev pub invariant-batches : goal.invariant-batches
invariant-batches g l =
    (l.left ≤ l.connections) × (is_some (g.N.Network.port l.net) ≡ true) × IsPassOfAll l.server.part.now.commons l.pass
    × (g.N.Network.exchanges l.net ≡ g.N.Network.exchanges l.initial.net) × (g.N.Network.faults l.net ≡ g.N.Network.faults l.initial.net)
    × ServesSome (setup (views_by g.N.Network g.N.Peer.Source g.N.Peer.Sink g.C.Clock) l.server.opened.now.node l.server.opened.now.routes) l.server.opened.now.workers l.connections l.left
    (standing_seen g.N.Network g.C.Clock l.initial.net (known l.initial.pass) l.initial.clock)
    (standing_seen g.N.Network g.C.Clock l.net (known l.pass) l.clock)

abbrev pub decreases-batches : goal.decreases-batches
decreases-batches g l = l.left
