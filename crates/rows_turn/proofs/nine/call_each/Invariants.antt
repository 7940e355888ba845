use Rattle.turn_log.specs.Groups.{AreOf}
use Rattle.rows_turn.specs.Counts.{CountStep, none_counted}
use Rattle.rows_turn.proofs.nine.call_each.Given as goal

abbrev pub invariant-loop-at : goal.invariant-loop-at
invariant-loop-at g l = AreOf CountStep none_counted CountStep l.nine l.pass
