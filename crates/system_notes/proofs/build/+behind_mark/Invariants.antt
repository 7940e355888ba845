use Rattle.std.proofs.Common.{length}
use Rattle.system_notes.proofs.build.+behind_mark.Given as goal

abbrev pub decreases-behind_mark : goal.decreases-behind_mark
decreases-behind_mark l = length l.bytes.now
