use Rattle.std.proofs.Common.{◌≡◌, drop}
use Rattle.sealed.specs.Seals.{pair_of}
use Rattle.resolve_round.specs.Knowing.{is_shown_in}
use Rattle.resolve_round.proofs.known.shown.Given as goal

abbrev pub invariant-loop-event : goal.invariant-loop-event
invariant-loop-event l = is_shown_in l.events (pair_of l.text l.public) ≡ is_shown_in (drop l.event-index l.events) (pair_of l.text l.public)
