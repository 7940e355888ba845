use Rattle.fed_base.specs.Places.{HoldsBelow}
use Rattle.reply_check.specs.Verdicts.{IsWithinAt}
use Rattle.reply_check.proofs.beside.are_within.Given as goal

abbrev pub invariant-loop-place : goal.invariant-loop-place
invariant-loop-place l = HoldsBelow (IsWithinAt l.carried l.members) l.place
