use Rattle.std.proofs.Common.{◌≡◌, Ok, Result}
use Rattle.std.specs.Prelude.{All}
use Rattle.std.specs.Vec.Iter.{into_iter_items}
use Rattle.turn_log.specs.Groups.{known}
use Rattle.statement_shelf.specs.Passes.{IsPassOfAll}
use Rattle.resolver_service.specs.declared.stop.Stop.{Stop}
use Rattle.resolver_service.specs.Batches.{Progress}
use Rattle.resolver_service.specs.Ports.{progress_seen}
use Rattle.resolver_service.specs.Steps.{EndInTurn, IsDone}
use Rattle.resolver_service.proofs.batch.end_desks.Given as goal

abbrev pub invariant-loop-desk : goal.invariant-loop-desk
invariant-loop-desk g l =
    IsPassOfAll l.server.part.now.commons l.pass × All (IsDone l.server.part.now) (into_iter_items l.desk-iterator)
    × ((last : Progress _) (result : Result Unit Stop)
    → EndInTurn (into_iter_items l.desk-iterator) (progress_seen g.N.Network l.net (known l.pass)) l.ended last result
    → EndInTurn l.fn.desks.items (progress_seen g.N.Network l.initial.net (known l.initial.pass)) (Ok tt) last result)
    × (g.N.Network.callers l.net ≡ g.N.Network.callers l.initial.net) × (g.N.Network.port l.net ≡ g.N.Network.port l.initial.net)
    × (g.N.Network.exchanges l.net ≡ g.N.Network.exchanges l.initial.net) × (g.N.Network.faults l.net ≡ g.N.Network.faults l.initial.net)
