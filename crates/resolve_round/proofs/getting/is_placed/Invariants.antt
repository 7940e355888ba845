use Rattle.std.proofs.Common.{◌≡◌, drop}
use Rattle.resolve_round.specs.Placing.{some_placed}
use Rattle.resolve_round.proofs.getting.is_placed.Given as goal

abbrev pub invariant-loop-event : goal.invariant-loop-event
invariant-loop-event l = some_placed l.url l.text l.events ≡ some_placed l.url l.text (drop l.event-index l.events)
