use Rattle.rows_climb.specs.Following.{Follows}
use Rattle.rows_climb.proofs.driving.drive.Given as goal

abbrev pub invariant-answers : goal.invariant-answers
invariant-answers l = Follows l.session l.urls l.case.calls
