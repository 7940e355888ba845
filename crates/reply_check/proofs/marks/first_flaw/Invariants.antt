use Rattle.fed_base.specs.Places.{HoldsBelow}
use Rattle.reply_check.specs.Marks.{StandsAt}
use Rattle.reply_check.specs.Stages.{here_by}
use Rattle.reply_check.proofs.marks.first_flaw.Given as goal

abbrev pub invariant-loop-place : goal.invariant-loop-place
invariant-loop-place g l = HoldsBelow (StandsAt (here_by l.here) l.marks) l.place
