use Rattle.std.proofs.Common.{length}
use Rattle.fed_serve.proofs.many.+fn-serve_each-join_mut+arg3+serve_each.Given as goal

abbrev pub decreases-join_mut+arg3 : goal.decreases-join_mut+arg3
decreases-join_mut+arg3 g l = length l.rest.now

abbrev pub decreases-serve_each : goal.decreases-serve_each
decreases-serve_each g l = length l.desks.now
