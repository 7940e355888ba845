use Rattle.turn_log.specs.Objects.{IsOf}
use Rattle.rows_turn.specs.Tallies.{TallyStep}
use Rattle.rows_turn.proofs.worker.make.Given as goal

abbrev pub invariant-loop : goal.invariant-loop
invariant-loop g l = IsOf TallyStep l.kept l.pass
