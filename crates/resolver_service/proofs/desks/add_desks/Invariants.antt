use Rattle.std.proofs.Common.{◌≡◌, ◌∷◌, length, map}
use Rattle.turn_log.specs.Groups.{IsSame, known}
use Rattle.statement_shelf.specs.Passes.{IsPassOfAll}
use Rattle.resolver_service.specs.Batches.{known_at}
use Rattle.resolver_service.specs.Passes.{AreShared}
use Rattle.resolver_service.specs.Ports.{views_by}
use Rattle.resolver_service.specs.Steps.{AreMade}
use Rattle.resolver_service.proofs.desks.add_desks.Given as goal

abbrev pub invariant-loop : goal.invariant-loop
invariant-loop g l =
    IsPassOfAll l.server.part.now.commons l.pass × IsSame (known l.initial.pass) (known l.pass) × (length l.desks.items ≡ l.counter)
    × AreMade (views_by g.N.Network g.N.Peer.Source g.N.Peer.Sink g.C.Clock) l.server.part.now l.server.opened.now.routes (known l.initial.pass) l.desks.items
    × AreShared (known l.initial.pass) (known l.pass ∷ map known_at l.desks.items)
