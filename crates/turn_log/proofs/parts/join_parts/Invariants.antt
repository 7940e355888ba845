use Rattle.std.proofs.Common.{length, vec_len}
use Rattle.turn_log.specs.Runs.{IsPrefix}
use Rattle.turn_log.specs.Parts.{AreTaken}
use Rattle.turn_log.proofs.parts.join_parts.Given as goal

abbrev pub invariant-loop-other : goal.invariant-loop-other
invariant-loop-other g l =
    AreTaken g.T.Sequential.steps g.T.Opening.opening l.objects.items l.initial.passes.items l.initial.others.items l.passes.items (length l.others.items) × IsPrefix l.others.items l.initial.others.items

abbrev pub decreases-loop-other : goal.decreases-loop-other
decreases-loop-other g l = vec_len l.others
