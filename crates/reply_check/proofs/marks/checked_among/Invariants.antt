use Rattle.std.proofs.Common.{◌≡◌, map, take}
use Rattle.reply_check.specs.Marks.{is_checked}
use Rattle.reply_check.specs.Stages.{here_by}
use Rattle.reply_check.proofs.marks.checked_among.Given as goal

abbrev pub invariant-loop-entry : goal.invariant-loop-entry
invariant-loop-entry l = l.checked ≡ map (is_checked (here_by l.here)) (take l.entry-index l.marks)
