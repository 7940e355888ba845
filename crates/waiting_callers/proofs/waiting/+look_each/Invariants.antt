use Rattle.std.proofs.Common.{length}
use Rattle.waiting_callers.proofs.waiting.+look_each.Given as goal

abbrev pub decreases-look_each : goal.decreases-look_each
decreases-look_each g l = length l.waiters.now
