use Rattle.std.proofs.Common.{length}
use Rattle.rehearsal.proofs.reply.+body_of.Given as goal

abbrev pub decreases-body_of : goal.decreases-body_of
decreases-body_of l = length l.message.now
