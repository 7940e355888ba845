use Rattle.turn_log.specs.Groups.{OwnsEach, known}
use Rattle.statement_shelf.specs.Passes.{IsPassOfAll}
use Rattle.statement_shelf.proofs.PurgeEnds.{EndedBefore}
use Rattle.statement_shelf.proofs.Purges.{PurgedBefore}
use Rattle.statement_shelf.proofs.commons.Commons.purge.Given as goal

abbrev pub invariant-loop-at : goal.invariant-loop-at
invariant-loop-at g l = IsPassOfAll l.self l.pass × (OwnsEach l.initial.pass → OwnsEach l.pass) × PurgedBefore l.moment l.at l.dropped (known l.initial.pass) (known l.pass) × EndedBefore l.moment l.at l.dropped l.initial.pass l.pass
